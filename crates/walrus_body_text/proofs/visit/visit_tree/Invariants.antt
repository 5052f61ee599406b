use Rattle.std.proofs.Common.{◌+◌}
use Rattle.walrus_tree.specs.Text.{operators}
use Rattle.walrus_tree.specs.Trees.{IsTree}
use Rattle.walrus_body_text.specs.Walking.{state}
use Rattle.walrus_body_text.specs.Tested.{IsTested, turns, work}
use Rattle.walrus_body_text.specs.Visiting.{Tells}
use Rattle.walrus_body_text.proofs.visit.visit_tree.Given as goal

abbrev pub invariant-loop-top : goal.invariant-loop-top
invariant-loop-top g l = record {
  tested : IsTested l.seqs l.fn.entry (state l.todo l.depths);
  tells : IsTree l.seqs l.fn.entry → Tells g.V.TextVisitor.step l.seqs (operators l.seqs l.fn.entry) l.fn.visitor (state l.todo l.depths) l.visitor;
}

abbrev pub decreases-loop-top : goal.decreases-loop-top
decreases-loop-top g l = work l.seqs l.depths.marks.items + turns l.seqs l.todo
