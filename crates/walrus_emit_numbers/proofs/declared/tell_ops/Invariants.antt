use Rattle.std.specs.Prelude.{◌≡◌, fold, take}
use Rattle.walrus_emit_numbers.specs.Undeclared.{mark_op}
use Rattle.walrus_emit_numbers.proofs.declared.tell_ops.Given as goal

abbrev pub invariant-loop-op : goal.invariant-loop-op
invariant-loop-op l = l.told.flags.items ≡ fold mark_op l.fn.told.flags.items (take l.op-index l.ops)
