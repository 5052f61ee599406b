use Rattle.std.proofs.Common.{refl}
use Rattle.std.proofs.lemmas.Result.{err_from_is_err_and}
use Rattle.walrus_sections_into.specs.Slots.{IsMemoryOf, filled_on, filled_so_far}
use Rattle.walrus_sections_into.proofs.memories.add_memories.Goals as goal

pub loop-memory-preserved : goal.loop-memory-preserved
loop-memory-preserved c =
    let it = c.in_ok-add_memory.ensures.added in
    filled_on IsMemoryOf c.args.memories.now c.loop-memory.memory-index _ _ c.args.into.now.slots c.loop-memory.into.slots c.add_memory.new.into.slots it.0 refl c.loop-memory-test.true c.loop-memory.invariant it.1 it.2

pub returns-in_err-add_memory-clause-in_part : goal.returns-in_err-add_memory-clause-in_part
returns-in_err-add_memory-clause-in_part c =
    let p = err_from_is_err_and c.from_residual.result c.from_residual.ensures.1 in
    filled_so_far IsMemoryOf c.args.memories.now c.loop-memory.memory-index c.args.into.now c.loop-memory.into c.add_memory.new.into c.from_residual.result p.0 p.1 c.in_err-add_memory.ensures.refused c.loop-memory.invariant
