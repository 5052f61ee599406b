use Rattle.std.proofs.Common.{refl}
use Rattle.walrus_operators.proofs.write.write_immediates.Goals as goal

pub returns-in-Bare : goal.returns-in-Bare
returns-in-Bare c = rw c.in-Bare.is refl

pub returns-in-Block : goal.returns-in-Block
returns-in-Block c = rw c.in-Block.is c.write_block_type.ensures

pub returns-in-TryTable : goal.returns-in-TryTable
returns-in-TryTable c = rw c.in-TryTable.is (rw c.deref.ensures.value at c.write_try_table.ensures)

pub returns-in-BrTable : goal.returns-in-BrTable
returns-in-BrTable c = rw c.in-BrTable.is (rw c.deref-in-BrTable.ensures.value at c.write_branch_table.ensures)

pub returns-in-Select : goal.returns-in-Select
returns-in-Select c = rw c.in-Select.is (rw c.deref-in-Select.ensures.value at c.write_values.ensures)

pub returns-in-Access : goal.returns-in-Access
returns-in-Access c = rw c.in-Access.is c.write_access.ensures

pub returns-in-Heap : goal.returns-in-Heap
returns-in-Heap c = rw c.in-Heap.is c.write_heap_type.ensures

pub returns-in-Cast : goal.returns-in-Cast
returns-in-Cast c = rw c.in-Cast.is c.write_cast.ensures

pub returns-in-Vector : goal.returns-in-Vector
returns-in-Vector c = rw c.in-Vector.is c.write_bytes.ensures

pub returns-in-Lane : goal.returns-in-Lane
returns-in-Lane c = rw c.in-Lane.is c.write_byte.ensures

pub returns-in-AccessLane : goal.returns-in-AccessLane
returns-in-AccessLane c = rw c.in-AccessLane.is c.write_access_lane.ensures

pub returns-in-Zero : goal.returns-in-Zero
returns-in-Zero c = rw c.in-Zero.is c.write_byte-in-Zero.ensures
