use Rattle.walrus_type_laws.proofs.LocalLemmas.{locals-law}
use Rattle.walrus_type_laws.proofs.edited.local_ids_are_kept.Goals as goal

pub returns : goal.returns
returns c = locals-law
