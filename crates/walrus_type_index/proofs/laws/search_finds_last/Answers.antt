use Rattle.walrus_type_index.proofs.OrderedLemmas.{last-law}
use Rattle.walrus_type_index.proofs.laws.search_finds_last.Goals as goal

pub returns : goal.returns
returns c = last-law
