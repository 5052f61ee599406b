use Rattle.walrus_type_index.proofs.OrderedLemmas.{ordered-swept}
use Rattle.walrus_type_index.proofs.laws.sweeping_keeps_order.Goals as goal

pub returns : goal.returns
returns c = ordered-swept
