use Rattle.walrus_type_index.proofs.OrderedLemmas.{ordered-dead}
use Rattle.walrus_type_index.proofs.laws.dying_keeps_order.Goals as goal

pub returns : goal.returns
returns c = ordered-dead
