use Rattle.walrus_type_laws.proofs.SwapLemmas.{records-law}
use Rattle.walrus_type_laws.proofs.swapped.records_have_no_entries.Goals as goal

pub returns : goal.returns
returns c = records-law
