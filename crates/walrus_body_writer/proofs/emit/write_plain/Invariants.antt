use Rattle.std.proofs.Common.{◌-◌, length}
use Rattle.walrus_body_text.specs.declared.todo.Todo.TheVariants.{Inside}
use Rattle.walrus_body_text.specs.Tested.{Skips}
use Rattle.walrus_body_writer.specs.Emitting.{GoesOn}
use Rattle.walrus_body_writer.specs.Numbers.{look_of}
use Rattle.walrus_body_writer.specs.Outputs.{StandsFirst}
use Rattle.walrus_body_writer.proofs.emit.write_plain.Given as goal

abbrev pub invariant-loop-instr : goal.invariant-loop-instr
invariant-loop-instr l = record {
  goes : GoesOn (look_of l.numbers) l.seqs l.depths (Inside l.fn.place) (Inside (record { seq = l.fn.place.seq; next = l.next; closer = l.fn.place.closer })) l.fn.out l.out;
  tested : Skips l.seqs l.depths (Inside l.fn.place) (Inside (record { seq = l.fn.place.seq; next = l.next; closer = l.fn.place.closer }));
  front : StandsFirst l.fn.out l.out;
}

abbrev pub decreases-loop-instr : goal.decreases-loop-instr
decreases-loop-instr l = length l.seq.instrs.items - l.next
