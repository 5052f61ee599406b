use Rattle.walrus_parse_laws.proofs.ExpressionLemmas.{elements_mean}
use Rattle.walrus_parse_laws.proofs.filled.elements_mean.Goals as goal

pub returns : goal.returns
returns c = elements_mean
