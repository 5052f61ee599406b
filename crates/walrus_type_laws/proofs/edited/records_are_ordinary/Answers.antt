use Rattle.walrus_type_laws.proofs.OrdinaryLemmas.{records-law}
use Rattle.walrus_type_laws.proofs.edited.records_are_ordinary.Goals as goal

pub returns : goal.returns
returns c = records-law
