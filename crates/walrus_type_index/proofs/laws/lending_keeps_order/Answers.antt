use Rattle.walrus_type_index.proofs.OrderedLemmas.{ordered-taken}
use Rattle.walrus_type_index.proofs.laws.lending_keeps_order.Goals as goal

pub returns : goal.returns
returns c = ordered-taken
