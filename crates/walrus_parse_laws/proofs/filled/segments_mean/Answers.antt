use Rattle.walrus_parse_laws.proofs.ExpressionLemmas.{segments_mean}
use Rattle.walrus_parse_laws.proofs.filled.segments_mean.Goals as goal

pub returns : goal.returns
returns c = segments_mean
