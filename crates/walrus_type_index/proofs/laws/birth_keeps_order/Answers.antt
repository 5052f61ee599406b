use Rattle.walrus_type_index.proofs.OrderedLemmas.{ordered-new}
use Rattle.walrus_type_index.proofs.laws.birth_keeps_order.Goals as goal

pub returns : goal.returns
returns c = ordered-new
