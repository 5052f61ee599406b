use Rattle.walrus_type_laws.proofs.EditedLemmas.{written_again-law}
use Rattle.walrus_type_laws.proofs.parsed.edited_are_written_again.Goals as goal

pub returns : goal.returns
returns c = written_again-law
