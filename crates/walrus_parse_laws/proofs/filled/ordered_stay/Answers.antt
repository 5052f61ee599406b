use Rattle.walrus_parse_laws.proofs.OrderLemmas.{ordered_stay}
use Rattle.walrus_parse_laws.proofs.filled.ordered_stay.Goals as goal

pub returns : goal.returns
returns c = ordered_stay
