use Rattle.std.proofs.Common.{◌≡◌, ◌+◌, ◌<◌, ◌^◌, length}
use Rattle.walrus_arena.specs.Arena.{entries_from}
use Rattle.walrus_arena.specs.Dense.{slots_of}
use Rattle.walrus_arena.proofs.iter.IterIterator.next.Given as goal

abbrev pub invariant-loop-place : goal.invariant-loop-place
invariant-loop-place g l = record {
  fits : l.self-inside.next + length l.self-inside.index.now < 2 ^ 32;
  rest : entries_from l.self-inside.next (slots_of l.self-inside.live.now l.self-inside.index.now) ≡ l.fn.self;
}

abbrev pub decreases-loop-place : goal.decreases-loop-place
decreases-loop-place g l = length l.self-inside.index.now
