use Rattle.std.proofs.Common.{◌<◌, ℕ}
use Rattle.walrus_arena.specs.Arena.{IsLive}
use Rattle.walrus_passes.proofs.kept.first_memory.Given as goal

abbrev pub invariant-loop-index : goal.invariant-loop-index
invariant-loop-index g l = (id : ℕ) → id < l.index → IsLive l.input.memories id → ⊥
