use Rattle.std.proofs.Common.{arith}
use Rattle.walrus_refusals.specs.Written.{MayName}
use Rattle.walrus_refusals.proofs.CheckLemmas.{not_so}
use Rattle.walrus_refusals.proofs.GroupedLemmas.{all_are, more_are, one_isnt}
use Rattle.walrus_refusals.proofs.grouped.may_name_all.Goals as goal

pub returns-then-not-may_name : goal.returns-then-not-may_name
returns-then-not-may_name c =
    one_isnt (MayName c.args.types.now c.args.id) c.args.names.now c.loop-name.name-index c.name-item.result c.loop-name-test.true c.name-item.is (not_so c.may_name.result c.if-not-may_name.true c.may_name.ensures)

pub loop-name-preserved : goal.loop-name-preserved
loop-name-preserved c =
    more_are (MayName c.args.types.now c.args.id) c.args.names.now c.loop-name.name-index c.name-item.result c.loop-name-test.true c.name-item.is (c.may_name.ensures.0 c.if-not-may_name.false) c.loop-name.invariant
