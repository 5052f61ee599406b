use Rattle.walrus_kept_types_laws.proofs.Kept.{file_types_stay}
use Rattle.walrus_kept_types_laws.proofs.laws.file_types_have_their_indices.Goals as goal

pub returns : goal.returns
returns g c = file_types_stay c.read_types_are_read.ensures
