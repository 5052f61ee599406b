use Rattle.walrus_type_index.proofs.ForestLemmas.{none-done}
use Rattle.walrus_type_index.proofs.forest.Forest.new.Goals as goal

pub invariant_of-result : goal.invariant_of-result
invariant_of-result c = none-done c.new.result.items c.new-2.result.items c.new.ensures.items c.new-2.ensures.items
