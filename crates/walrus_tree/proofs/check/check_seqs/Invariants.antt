use Rattle.std.proofs.Common.{◌≡◌, ◌+◌, [], length}
use Rattle.walrus_tree.specs.Trees.{IsTree}
use Rattle.walrus_tree.specs.Testing.{Goes, Marked, opened, work}
use Rattle.walrus_tree.proofs.check.check_seqs.Given as goal

abbrev pub invariant-loop-step : goal.invariant-loop-step
invariant-loop-step l = record {
  sized : length l.marks.items ≡ length l.seqs;
  marked : Marked l.marks.items l.depth (opened [] l.steps.items);
  forth : IsTree l.seqs l.fn.entry → Goes l.seqs l.marks.items l.steps.items;
  back : Goes l.seqs l.marks.items l.steps.items → IsTree l.seqs l.fn.entry;
}

abbrev pub decreases-loop-step : goal.decreases-loop-step
decreases-loop-step l = work l.seqs l.marks.items + length l.steps.items
