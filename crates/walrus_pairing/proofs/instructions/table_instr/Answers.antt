use Rattle.std.proofs.Common.{refl}
use Rattle.walrus_pairing.proofs.instructions.table_instr.Goals as goal

pub returns-in-37 : goal.returns-in-37
returns-in-37 c = rw (c.in-0.is, c.in-37.is) refl

pub returns-in-38 : goal.returns-in-38
returns-in-38 c = rw (c.in-0.is, c.in-38.is) refl

pub returns-in-15 : goal.returns-in-15
returns-in-15 c = rw (c.in-252.is, c.in-15.is) refl

pub returns-in-16 : goal.returns-in-16
returns-in-16 c = rw (c.in-252.is, c.in-16.is) refl

pub returns-in-17 : goal.returns-in-17
returns-in-17 c = rw (c.in-252.is, c.in-17.is) refl
