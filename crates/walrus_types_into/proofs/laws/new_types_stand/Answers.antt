use Rattle.walrus_types_into.proofs.StandLemmas.{new_types_stand}
use Rattle.walrus_types_into.proofs.laws.new_types_stand.Goals as goal

pub returns : goal.returns
returns c = new_types_stand c.parsing_carries_same.ensures
