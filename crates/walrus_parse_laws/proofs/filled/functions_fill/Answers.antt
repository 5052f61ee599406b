use Rattle.walrus_parse_laws.proofs.FilledFunctionLemmas.{functions_fill}
use Rattle.walrus_parse_laws.proofs.filled.functions_fill.Goals as goal

pub returns : goal.returns
returns c = functions_fill
