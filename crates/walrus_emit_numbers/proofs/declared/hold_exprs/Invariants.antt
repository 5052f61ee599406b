use Rattle.std.specs.Prelude.{◌≡◌, fold, take}
use Rattle.walrus_emit_numbers.specs.Undeclared.{mark_item}
use Rattle.walrus_emit_numbers.proofs.declared.hold_exprs.Given as goal

abbrev pub invariant-loop-expr : goal.invariant-loop-expr
invariant-loop-expr l = l.held.flags.items ≡ fold mark_item l.fn.held.flags.items (take l.expr-index l.exprs)
