use Rattle.walrus_function_types.proofs.GrowthLemmas as growth
use Rattle.walrus_function_types.proofs.laws.entry_types_grow.Goals as goal

pub returns : goal.returns
returns c = growth.entry_grows
