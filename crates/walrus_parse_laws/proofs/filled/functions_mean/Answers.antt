use Rattle.walrus_parse_laws.proofs.FilledFunctionLemmas.{functions_mean}
use Rattle.walrus_parse_laws.proofs.filled.functions_mean.Goals as goal

pub returns : goal.returns
returns c = functions_mean
