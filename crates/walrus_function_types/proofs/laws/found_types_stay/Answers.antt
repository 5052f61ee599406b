use Rattle.walrus_function_types.proofs.GrowthLemmas as growth
use Rattle.walrus_function_types.proofs.laws.found_types_stay.Goals as goal

pub returns : goal.returns
returns c = growth.found_types_stay
