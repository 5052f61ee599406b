use Rattle.std.specs.Prelude.{List}
use Rattle.std.specs.List.{Any}
use Rattle.std.proofs.Common.{subst}
use Rattle.std.proofs.lemmas.Result.{err_from_is_err_and}
use Rattle.walrus_sections_into.specs.walrus_index_maps.Views.{ids}
use Rattle.walrus_sections_into.specs.walrus_instr.Constants.{ops_of}
use Rattle.walrus_sections_into.specs.walrus_operators.declared.operator.Operator.{Operator}
use Rattle.walrus_sections_into.specs.Becomes.{look_of, OpsBecome}
use Rattle.walrus_sections_into.specs.Consts.{OpLacks}
use Rattle.walrus_sections_into.specs.Loops.{one_lacks, zip_next}
use Rattle.walrus_tables_into.specs.Elements.{ExprBecomes, ExprLacks}
use Rattle.walrus_tables_into.proofs.elements.read_exprs.Goals as goal

pub loop-operators-preserved : goal.loop-operators-preserved
loop-operators-preserved c =
    zip_next (ExprBecomes (look_of (ids c.args.maps.now))) c.args.exprs.now c.loop-operators.operators-index _ c.operators-item.result c.loop-operators.list.items c.push.new.self.items c.in_ok-expr.expr
    c.operators-item.is c.loop-operators-test.true c.loop-operators.invariant
    (subst (λ (l : List Operator). OpsBecome (look_of (ids c.args.maps.now)) l (ops_of c.in_ok-expr.expr)) c.as_slice.ensures.value c.in_ok-expr.ensures.becomes) c.in_ok-push.ensures.items

pub returns-in_err-expr-clause-unknown : goal.returns-in_err-expr-clause-unknown
returns-in_err-expr-clause-unknown c =
    let p = err_from_is_err_and c.from_residual.result c.from_residual.ensures.1 in
    one_lacks (ExprLacks (look_of (ids c.args.maps.now))) c.args.exprs.now c.loop-operators.operators-index _ c.operators-item.result c.from_residual.result _ _ c.operators-item.is c.loop-operators-test.true p.1 p.2
    (λ unknown. subst (λ (l : List Operator). Any (OpLacks (look_of (ids c.args.maps.now))) l) c.as_slice.ensures.value (c.in_err-expr.ensures.unknown unknown))
