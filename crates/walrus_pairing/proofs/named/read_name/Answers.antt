use Rattle.std.proofs.Common.{refl}
use Rattle.walrus_index_maps.specs.Views.{ids}
use Rattle.walrus_pairing.specs.Spaces.{space}
use Rattle.walrus_pairing.proofs.Found.{missing, known}
use Rattle.walrus_pairing.proofs.named.read_name.Goals as goal

pub returns-in-Err : goal.returns-in-Err
returns-in-Err c = rw (missing (ids c.args.maps.now) (space c.args.target) c.args.n _ _ c.id_at.ensures c.in-Err.is) refl

pub returns : goal.returns
returns c = rw (known (ids c.args.maps.now) (space c.args.target) c.args.n _ _ c.id_at.ensures c.in-Ok.is, c.name_instr.ensures) refl
