use Rattle.std.proofs.Common.{◌≡◌, take}
use Rattle.std.specs.List.{fold}
use Rattle.walrus_marks.specs.Marks.{meet}
use Rattle.walrus_references.specs.References.{instr_items}
use Rattle.walrus_used.proofs.bodies.meet_instrs.Given as goal

abbrev pub invariant-loop-entry : goal.invariant-loop-entry
invariant-loop-entry l = l.marks ≡ fold meet l.fn.marks (instr_items (take l.entry-index l.instrs))
