use Rattle.walrus_type_index.proofs.OrderedLemmas.{ordered-settled}
use Rattle.walrus_type_index.proofs.laws.lent_goes_back.Goals as goal

pub returns : goal.returns
returns c = ordered-settled
