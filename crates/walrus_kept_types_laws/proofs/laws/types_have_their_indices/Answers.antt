use Rattle.walrus_kept_types_laws.proofs.Written.{have_indices}
use Rattle.walrus_kept_types_laws.proofs.laws.types_have_their_indices.Goals as goal

pub returns : goal.returns
returns c = have_indices
