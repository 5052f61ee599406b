use Rattle.walrus_type_laws.proofs.OrdinaryLemmas.{emitted-law}
use Rattle.walrus_type_laws.proofs.edited.emitted_are_ordinary.Goals as goal

pub returns : goal.returns
returns c = emitted-law
