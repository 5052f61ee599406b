use Rattle.walrus_parse_laws.proofs.FilledItemLemmas.{exports_mean}
use Rattle.walrus_parse_laws.proofs.filled.exports_mean.Goals as goal

pub returns : goal.returns
returns c = exports_mean
