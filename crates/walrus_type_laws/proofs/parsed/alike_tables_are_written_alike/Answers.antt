use Rattle.walrus_type_laws.proofs.AlikeLemmas.{alike-law}
use Rattle.walrus_type_laws.proofs.parsed.alike_tables_are_written_alike.Goals as goal

pub returns : goal.returns
returns c = alike-law
