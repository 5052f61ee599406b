use Rattle.walrus_parse_laws.proofs.FilledItemLemmas.{start_means}
use Rattle.walrus_parse_laws.proofs.filled.start_means.Goals as goal

pub returns : goal.returns
returns c = start_means
