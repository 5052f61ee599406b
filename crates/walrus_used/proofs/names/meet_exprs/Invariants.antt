use Rattle.std.proofs.Common.{◌≡◌, take}
use Rattle.std.specs.List.{fold, flat_map}
use Rattle.walrus_walks.specs.ConstEvents.{expr_names}
use Rattle.walrus_marks.specs.Marks.{meet}
use Rattle.walrus_marks.specs.Named.{items_of}
use Rattle.walrus_used.proofs.names.meet_exprs.Given as goal

abbrev pub invariant-loop-expr : goal.invariant-loop-expr
invariant-loop-expr l = l.marks ≡ fold meet l.fn.marks (flat_map (λ e. items_of (expr_names e)) (take l.expr-index l.exprs))
