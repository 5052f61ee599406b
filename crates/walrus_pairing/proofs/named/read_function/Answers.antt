use Rattle.std.proofs.Common.{refl}
use Rattle.walrus_pairing.proofs.Found.{absent, present}
use Rattle.walrus_pairing.proofs.named.read_function.Goals as goal

pub returns-in-Err : goal.returns-in-Err
returns-in-Err c = rw (absent _ _ _ _ c.get_func.ensures c.in-Err.is) refl

pub returns-in-16 : goal.returns-in-16
returns-in-16 c = rw (present _ _ _ _ c.get_func.ensures c.in-Ok.is, c.if-code-ne0.false, c.in-16.is) refl

pub returns-in-18 : goal.returns-in-18
returns-in-18 c = rw (present _ _ _ _ c.get_func.ensures c.in-Ok.is, c.if-code-ne0.false, c.in-18.is) refl

pub returns-in-210 : goal.returns-in-210
returns-in-210 c = rw (present _ _ _ _ c.get_func.ensures c.in-Ok.is, c.if-code-ne0.false, c.in-210.is) refl
