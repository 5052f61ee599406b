use Rattle.walrus_type_laws.proofs.EditedLemmas.{read_back-law}
use Rattle.walrus_type_laws.proofs.parsed.edited_are_read_back.Goals as goal

pub returns : goal.returns
returns c = read_back-law
