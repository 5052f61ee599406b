use Rattle.std.proofs.Common.{refl}
use Rattle.walrus_pairing.proofs.Found.{absent, present}
use Rattle.walrus_pairing.proofs.named.read_local.Goals as goal

pub returns-in-Err : goal.returns-in-Err
returns-in-Err c = rw (absent _ _ _ _ c.get_local.ensures c.in-Err.is) refl

pub returns-in-32 : goal.returns-in-32
returns-in-32 c = rw (present _ _ _ _ c.get_local.ensures c.in-Ok.is, c.if-code-ne0.false, c.in-32.is) refl

pub returns-in-33 : goal.returns-in-33
returns-in-33 c = rw (present _ _ _ _ c.get_local.ensures c.in-Ok.is, c.if-code-ne0.false, c.in-33.is) refl

pub returns-in-34 : goal.returns-in-34
returns-in-34 c = rw (present _ _ _ _ c.get_local.ensures c.in-Ok.is, c.if-code-ne0.false, c.in-34.is) refl
