use Rattle.walrus_type_laws.proofs.EditLemmas.{own-law}
use Rattle.walrus_type_laws.proofs.edited.own_ids_are_kept.Goals as goal

pub returns : goal.returns
returns c = own-law
