use Rattle.std.proofs.Common.{length}
use Rattle.std.specs.List.{FoldsTo}
use Rattle.walrus_walks.specs.Fronts.{FoldsFront}
use Rattle.walrus_walks.specs.Steps.{AreSteps, left}
use Rattle.walrus_walks.proofs.in_order.follow.Given as goal

abbrev pub invariant-loop-step : goal.invariant-loop-step
invariant-loop-step g l = record {
  steps : AreSteps l.seqs l.stack.items;
  told : (last : _) → FoldsTo g.V.Visitor.step l.visitor (left l.seqs l.stack.items) last → FoldsTo g.V.Visitor.step l.fn.visitor (left l.seqs l.fn.stack.items) last;
  part : (last : _) → FoldsFront g.V.Visitor.step l.visitor (left l.seqs l.stack.items) last → FoldsFront g.V.Visitor.step l.fn.visitor (left l.seqs l.fn.stack.items) last;
}

abbrev pub decreases-loop-step : goal.decreases-loop-step
decreases-loop-step g l = length (left l.seqs l.stack.items)
