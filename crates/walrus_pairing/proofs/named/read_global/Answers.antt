use Rattle.std.proofs.Common.{refl}
use Rattle.walrus_pairing.proofs.Found.{absent, present}
use Rattle.walrus_pairing.proofs.named.read_global.Goals as goal

pub returns-in-Err : goal.returns-in-Err
returns-in-Err c = rw (absent _ _ _ _ c.get_global.ensures c.in-Err.is) refl

pub returns-in-35 : goal.returns-in-35
returns-in-35 c = rw (present _ _ _ _ c.get_global.ensures c.in-Ok.is, c.if-code-ne0.false, c.in-35.is) refl

pub returns-in-36 : goal.returns-in-36
returns-in-36 c = rw (present _ _ _ _ c.get_global.ensures c.in-Ok.is, c.if-code-ne0.false, c.in-36.is) refl
