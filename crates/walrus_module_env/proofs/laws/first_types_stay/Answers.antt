use Rattle.walrus_module_env.proofs.FirstLemmas as first
use Rattle.walrus_module_env.proofs.laws.first_types_stay.Goals as goal

pub returns : goal.returns
returns c = first.first_types_stay
