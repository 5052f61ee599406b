use Rattle.std.proofs.Common.{refl}
use Rattle.walrus_pairing.proofs.Found.{absent}
use Rattle.walrus_pairing.proofs.named.read_lane_access.Goals as goal

pub returns-in-Err : goal.returns-in-Err
returns-in-Err c = rw (absent _ _ _ _ c.get_memory.ensures c.in-Err.is) refl
