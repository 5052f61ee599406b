use Rattle.std.proofs.Common.{◌≡◌, ◌+◌, length}
use Rattle.walrus_arena.specs.Arena.{ids}
use Rattle.walrus_counts.proofs.counts.live_count.Given as goal

abbrev pub invariant-loop-id : goal.invariant-loop-id
invariant-loop-id g l = record {
  can : (goal.iterator-loop-id g).can_next l._id-iterator;
  ends : (goal.iterator-loop-id g).is_finite l._id-iterator;
  counted : l.count + length l._id-iterator ≡ length (ids l.items);
}
