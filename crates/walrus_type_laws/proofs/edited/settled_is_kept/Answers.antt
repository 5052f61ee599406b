use Rattle.walrus_type_laws.proofs.EditLemmas.{settled-law}
use Rattle.walrus_type_laws.proofs.edited.settled_is_kept.Goals as goal

pub returns : goal.returns
returns c = settled-law
