use Rattle.walrus_type_index.proofs.OrderedLemmas.{ordered-written}
use Rattle.walrus_type_index.proofs.laws.writing_keeps_order.Goals as goal

pub returns : goal.returns
returns c = ordered-written
