use Rattle.walrus_function_types.proofs.GrowthLemmas as growth
use Rattle.walrus_function_types.proofs.laws.tables_grow_on.Goals as goal

pub returns : goal.returns
returns c = growth.grows_on
