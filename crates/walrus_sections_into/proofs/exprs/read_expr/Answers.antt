use Rattle.std.proofs.lemmas.Result.{err_from_is_err_and}
use Rattle.walrus_index_maps.specs.Views.{ids}
use Rattle.walrus_sections_into.specs.Becomes.{look_of, OpBecomes}
use Rattle.walrus_sections_into.specs.Consts.{OpLacks}
use Rattle.walrus_sections_into.specs.Loops.{one_lacks, zip_next}
use Rattle.walrus_sections_into.proofs.exprs.read_expr.Goals as goal

pub loop-operator-preserved : goal.loop-operator-preserved
loop-operator-preserved c =
    zip_next (OpBecomes (look_of (ids c.args.maps.now))) c.args.operators.now c.loop-operator.operator-index _ c.operator-item.result c.loop-operator.ops.items c.push.new.self.items c.in_ok-op.op
    c.operator-item.is c.loop-operator-test.true c.loop-operator.invariant c.in_ok-op.ensures.becomes c.in_ok-push.ensures.items

pub returns-in_err-op-clause-unknown : goal.returns-in_err-op-clause-unknown
returns-in_err-op-clause-unknown c =
    let p = err_from_is_err_and c.from_residual.result c.from_residual.ensures.1 in
    one_lacks (OpLacks (look_of (ids c.args.maps.now))) c.args.operators.now c.loop-operator.operator-index _ c.operator-item.result c.from_residual.result _ _ c.operator-item.is c.loop-operator-test.true p.1 p.2 (λ _. c.in_err-op.ensures.unknown.1)
