use Rattle.std.proofs.Common.{◌≡◌, ◌+◌, length}
use Rattle.walrus_walks.specs.Checks.{Checks, work}
use Rattle.walrus_walks.proofs.nesting.check_nesting.Given as goal

abbrev pub invariant-loop-step : goal.invariant-loop-step
invariant-loop-step l = record {
  sized : length l.marks.items ≡ length l.seqs;
  checks : Checks l.seqs l.fn.start l.marks.items l.stack.items;
}

abbrev pub decreases-loop-step : goal.decreases-loop-step
decreases-loop-step l = work l.seqs l.marks.items + length l.stack.items
