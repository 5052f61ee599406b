use Rattle.walrus_parse_laws.proofs.FilledItemLemmas.{imports_mean}
use Rattle.walrus_parse_laws.proofs.filled.imports_mean.Goals as goal

pub returns : goal.returns
returns c = imports_mean
