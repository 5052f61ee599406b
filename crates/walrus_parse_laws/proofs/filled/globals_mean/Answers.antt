use Rattle.walrus_parse_laws.proofs.ExpressionLemmas.{globals_mean}
use Rattle.walrus_parse_laws.proofs.filled.globals_mean.Goals as goal

pub returns : goal.returns
returns c = globals_mean
