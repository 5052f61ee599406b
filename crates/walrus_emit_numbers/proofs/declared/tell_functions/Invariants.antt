use Rattle.std.specs.Prelude.{◌≡◌, fold, take}
use Rattle.walrus_emit_numbers.specs.Undeclared.{mark}
use Rattle.walrus_emit_numbers.proofs.declared.tell_functions.Given as goal

abbrev pub invariant-loop-func : goal.invariant-loop-func
invariant-loop-func l = l.told.flags.items ≡ fold mark l.fn.told.flags.items (take l.func-index l.functions)
