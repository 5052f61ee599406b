use Rattle.std.proofs.Common.{refl}
use Rattle.walrus_pairing.proofs.instructions.wait_instr.Goals as goal

pub returns-in-0 : goal.returns-in-0
returns-in-0 c = rw (c.if-code-ne254.false, c.in-0.is) refl

pub returns-in-1 : goal.returns-in-1
returns-in-1 c = rw (c.if-code-ne254.false, c.in-1.is) refl

pub returns-in-2 : goal.returns-in-2
returns-in-2 c = rw (c.if-code-ne254.false, c.in-2.is) refl
