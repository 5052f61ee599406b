use Rattle.walrus_parse_laws.proofs.FilledItemLemmas.{tags_mean}
use Rattle.walrus_parse_laws.proofs.filled.tags_mean.Goals as goal

pub returns : goal.returns
returns c = tags_mean
