use Rattle.std.proofs.Common.{◌+◌}
use Rattle.walrus_body_text.specs.walrus_tree.Text.{operators}
use Rattle.walrus_body_text.specs.walrus_tree.Trees.{IsTree}
use Rattle.walrus_body_text.specs.Walking.{state}
use Rattle.walrus_body_writer.specs.Emitting.{Goes}
use Rattle.walrus_body_writer.specs.Numbers.{look_of}
use Rattle.walrus_body_writer.specs.Outputs.{StandsFirst}
use Rattle.walrus_body_text.specs.Tested.{IsTested, turns, work}
use Rattle.walrus_body_writer.proofs.emit.write_tree.Given as goal

abbrev pub invariant-loop-top : goal.invariant-loop-top
invariant-loop-top l = record {
  tested : IsTested l.seqs l.fn.entry (state l.todo l.depths);
  goes : IsTree l.seqs l.fn.entry → Goes (look_of l.numbers) l.seqs (operators l.seqs l.fn.entry) l.fn.out (state l.todo l.depths) l.out;
  front : StandsFirst l.fn.out l.out;
}

abbrev pub decreases-loop-top : goal.decreases-loop-top
decreases-loop-top l = work l.seqs l.depths.marks.items + turns l.seqs l.todo
