use Rattle.std.proofs.Common.{◌≡◌, ◌++◌, take}
use Rattle.std.specs.List.{flat_map}
use Rattle.walrus_walks.specs.ConstEvents.{expr_names}
use Rattle.walrus_marks.specs.Named.{items_of}
use Rattle.walrus_reasons.proofs.names.add_exprs.Given as goal

abbrev pub invariant-loop-expr : goal.invariant-loop-expr
invariant-loop-expr l = l.named.items ≡ l.fn.named.items ++ flat_map (λ e. items_of (expr_names e)) (take l.expr-index l.exprs)
