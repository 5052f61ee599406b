use Rattle.std.proofs.Common.{◌∙◌}
use Rattle.walrus_index_maps.specs.Views.{indices}
use Rattle.walrus_pairing.specs.Looks.{number_of}
use Rattle.walrus_pairing.proofs.Alike.{memories}
use Rattle.walrus_pairing.proofs.families.write_memory.Goals as goal

pub returns-in-LoadSimd : goal.returns-in-LoadSimd
returns-in-LoadSimd c = rw c.in-LoadSimd.is (rw c.lane_of_simd.ensures at (rw c.code_of_simd.ensures at c.lane_access_op.ensures))

pub returns-in-MemoryInit : goal.returns-in-MemoryInit
returns-in-MemoryInit c = rw c.in-MemoryInit.is (rw (c.get_data_index.ensures, c.get_memory_index.ensures) at c.two_op.ensures)

pub returns-in-DataDrop : goal.returns-in-DataDrop
returns-in-DataDrop c = rw c.in-DataDrop.is (rw c.get_data_index-in-DataDrop.ensures at c.one_op.ensures)

pub returns-in-MemorySize : goal.returns-in-MemorySize
returns-in-MemorySize c =
    (rw (c.named_code.ensures, c.get_memory_index-in-MemorySize.ensures) at c.one_op-in-MemorySize.ensures) ∙ memories (number_of (indices c.args.maps.now) 0) c.args.instr.now c.in-MemorySize.memory c.in-MemorySize.is
