use Rattle.walrus_parse_laws.proofs.ExpressionLemmas.{tables_mean}
use Rattle.walrus_parse_laws.proofs.filled.tables_mean.Goals as goal

pub returns : goal.returns
returns c = tables_mean
