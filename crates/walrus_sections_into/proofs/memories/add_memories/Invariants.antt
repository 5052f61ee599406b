use Rattle.std.proofs.Common.{take}
use Rattle.walrus_sections_into.specs.Slots.{Filled, IsMemoryOf}
use Rattle.walrus_sections_into.proofs.memories.add_memories.Given as goal

abbrev pub invariant-loop-memory : goal.invariant-loop-memory
invariant-loop-memory l = Filled IsMemoryOf (take l.memory-index l.memories) l.fn.into.slots l.into.slots
