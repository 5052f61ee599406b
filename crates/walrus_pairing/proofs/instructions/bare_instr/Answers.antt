use Rattle.std.proofs.Common.{refl}
use Rattle.walrus_pairing.proofs.instructions.bare_instr.Goals as goal

pub returns-in-0-number : goal.returns-in-0-number
returns-in-0-number c = rw (c.in-0.is, c.in-0-number.is) refl

pub returns-in-10 : goal.returns-in-10
returns-in-10 c = rw (c.in-0.is, c.in-10.is) refl

pub returns-in-209 : goal.returns-in-209
returns-in-209 c = rw (c.in-0.is, c.in-209.is) refl

pub returns-in-211 : goal.returns-in-211
returns-in-211 c = rw (c.in-0.is, c.in-211.is) refl

pub returns-in-212 : goal.returns-in-212
returns-in-212 c = rw (c.in-0.is, c.in-212.is) refl

pub returns-in-28 : goal.returns-in-28
returns-in-28 c = rw (c.in-251.is, c.in-28.is) refl

pub returns-in-29 : goal.returns-in-29
returns-in-29 c = rw (c.in-251.is, c.in-29.is) refl

pub returns-in-30 : goal.returns-in-30
returns-in-30 c = rw (c.in-251.is, c.in-30.is) refl

pub returns-in-19 : goal.returns-in-19
returns-in-19 c = rw (c.in-252.is, c.in-19.is) refl

pub returns-in-20 : goal.returns-in-20
returns-in-20 c = rw (c.in-252.is, c.in-20.is) refl

pub returns-in-14 : goal.returns-in-14
returns-in-14 c = rw (c.in-253.is, c.in-14.is) refl

pub returns-in-82 : goal.returns-in-82
returns-in-82 c = rw (c.in-253.is, c.in-82.is) refl
