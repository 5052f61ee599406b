use Rattle.walrus_pairing.proofs.instructions.name_instr.Goals as goal

pub returns-in-Type : goal.returns-in-Type
returns-in-Type c = rw c.in-Type.is (rw c.id.ensures at c.type_instr.ensures)

pub returns-in-Table : goal.returns-in-Table
returns-in-Table c = rw c.in-Table.is (rw c.id-in-Table.ensures at c.table_instr.ensures)

pub returns-in-Memory : goal.returns-in-Memory
returns-in-Memory c = rw c.in-Memory.is (rw c.id-in-Memory.ensures at c.memory_instr.ensures)
