use Rattle.std.specs.Prelude.{List}
use Rattle.std.specs.Global.{Vec}
use Rattle.std.specs.List.{Any}
use Rattle.std.proofs.Common.{inr, subst}
use Rattle.std.proofs.lemmas.Result.{err_from_is_err_and}
use Rattle.walrus_sections_into.specs.walrus_index_maps.Views.{ids}
use Rattle.walrus_sections_into.specs.walrus_operators.declared.operator.Operator.{Operator}
use Rattle.walrus_sections_into.specs.Becomes.{look_of}
use Rattle.walrus_sections_into.specs.Loops.{lacks}
use Rattle.walrus_tables_into.specs.Elements.{ExprLacks, ItemsLack}
use Rattle.walrus_tables_into.proofs.elements.read_items.Goals as goal

pub returns-in_err-exprs-in-Expressions-clause-unknown : goal.returns-in_err-exprs-in-Expressions-clause-unknown
returns-in_err-exprs-in-Expressions-clause-unknown c =
    let look = look_of (ids c.args.maps.now) in
    let p = err_from_is_err_and c.from_residual-in_err-exprs-in-Expressions.result c.from_residual-in_err-exprs-in-Expressions.ensures.1 in
    lacks (ItemsLack look c.args.items.now) c.from_residual-in_err-exprs-in-Expressions.result _ _ p.1 p.2
    (λ unknown. rw c.in-Expressions.is (inr (subst (λ (l : List (Vec Operator)). Any (ExprLacks look) l) c.as_slice-in-Expressions.ensures.value (c.in_err-exprs-in-Expressions.ensures.unknown unknown))))
