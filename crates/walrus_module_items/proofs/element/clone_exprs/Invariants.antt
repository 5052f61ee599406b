use Rattle.std.proofs.Common.{take}
use Rattle.std.specs.List.{AllZip}
use Rattle.walrus_instr.specs.Copies.{IsExprCopy}
use Rattle.walrus_module_items.proofs.element.clone_exprs.Given as goal

abbrev pub invariant-loop-expr : goal.invariant-loop-expr
invariant-loop-expr l = record {
  copied : AllZip IsExprCopy (take l.expr-index l.exprs.items) l.copies.items;
}
