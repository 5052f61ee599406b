use Rattle.std.proofs.Common.{refl}
use Rattle.std.proofs.lemmas.Result.{err_from_is_err_and}
use Rattle.walrus_tables_into.specs.Customs.{IsCustomOf, plain_if}
use Rattle.walrus_tables_into.proofs.CustomLemmas.{left_on, left_so_far}
use Rattle.walrus_tables_into.proofs.customs.add_customs.Goals as goal

pub loop-custom-preserved : goal.loop-custom-preserved
loop-custom-preserved g c =
    left_on IsCustomOf plain_if c.args.customs.now c.loop-custom.custom-index _ _ c.args.into.now.slots c.loop-custom.into.slots c.add_custom.new.into.slots refl c.loop-custom-test.true c.loop-custom.invariant c.in_ok-add_custom.ensures.added

pub returns-in_err-add_custom-clause-in_part : goal.returns-in_err-add_custom-clause-in_part
returns-in_err-add_custom-clause-in_part g c =
    let p = err_from_is_err_and c.from_residual.result c.from_residual.ensures.1 in
    left_so_far IsCustomOf plain_if c.args.customs.now c.loop-custom.custom-index c.args.into.now.slots c.loop-custom.into.slots c.add_custom.new.into.slots c.from_residual.result p.0 p.1 c.in_err-add_custom.ensures.refused c.loop-custom.invariant
