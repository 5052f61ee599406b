use Rattle.walrus_parse_laws.proofs.FilledItemLemmas.{customs_mean}
use Rattle.walrus_parse_laws.proofs.filled.customs_mean.Goals as goal

pub returns : goal.returns
returns g c = λ given. customs_mean given
