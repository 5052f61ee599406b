use Rattle.std.proofs.Common.{◌-◌, length}
use Rattle.walrus_body_text.specs.declared.todo.Todo.TheVariants.{Inside}
use Rattle.walrus_body_text.specs.Tested.{Skips}
use Rattle.walrus_body_text.specs.Visiting.{TellsOn}
use Rattle.walrus_body_text.proofs.visit.tell_plain.Given as goal

abbrev pub invariant-loop-instr : goal.invariant-loop-instr
invariant-loop-instr g l = record {
  goes : TellsOn g.V.TextVisitor.step l.seqs (Inside l.fn.place) (Inside (record { seq = l.fn.place.seq; next = l.next; closer = l.fn.place.closer })) l.fn.visitor l.visitor;
  tested : Skips l.seqs l.depths (Inside l.fn.place) (Inside (record { seq = l.fn.place.seq; next = l.next; closer = l.fn.place.closer }));
}

abbrev pub decreases-loop-instr : goal.decreases-loop-instr
decreases-loop-instr g l = length l.seq.instrs.items - l.next
