use Rattle.std.proofs.Common.{◌≡◌, ◌++◌, take}
use Rattle.walrus_used.specs.walrus_references.References.{instr_items}
use Rattle.walrus_reasons.proofs.bodies.add_instrs.Given as goal

abbrev pub invariant-loop-entry : goal.invariant-loop-entry
invariant-loop-entry l = l.named.items ≡ l.fn.named.items ++ instr_items (take l.entry-index l.instrs)
