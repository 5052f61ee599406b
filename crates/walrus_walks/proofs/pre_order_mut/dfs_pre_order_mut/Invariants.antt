use Rattle.std.proofs.Common.{◌≡◌, length, map}
use Rattle.std.specs.List.{FoldsTo}
use Rattle.walrus_walks.specs.Changing.{SeqVisited}
use Rattle.walrus_walks.specs.Fronts.{FoldsFront}
use Rattle.walrus_walks.specs.Order.{held_by, order}
use Rattle.walrus_walks.specs.Steps.{AreSteps}
use Rattle.walrus_walks.proofs.Orders.{ids_left}
use Rattle.walrus_walks.proofs.pre_order_mut.dfs_pre_order_mut.Given as goal

abbrev pub invariant-loop-step : goal.invariant-loop-step
invariant-loop-step g l = record {
  keeps : map held_by l.seqs ≡ map held_by l.fn.seqs;
  steps : AreSteps l.fn.seqs l.stack.items;
  walked : (last : _) → FoldsTo (SeqVisited g.V.VisitorMut.step) (l.visitor, l.seqs) (ids_left l.fn.seqs l.stack.items) last → FoldsTo (SeqVisited g.V.VisitorMut.step) (l.fn.visitor, l.fn.seqs) (order l.fn.seqs l.fn.start) last;
  front : (last : _) → FoldsFront (SeqVisited g.V.VisitorMut.step) (l.visitor, l.seqs) (ids_left l.fn.seqs l.stack.items) last → FoldsFront (SeqVisited g.V.VisitorMut.step) (l.fn.visitor, l.fn.seqs) (order l.fn.seqs l.fn.start) last;
}

abbrev pub decreases-loop-step : goal.decreases-loop-step
decreases-loop-step g l = length (ids_left l.fn.seqs l.stack.items)
