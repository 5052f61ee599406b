use Rattle.walrus_own_ids_laws.proofs.Functions.{kept_functions_have_own_ids}
use Rattle.walrus_own_ids_laws.proofs.laws.kept_functions_have_own_ids.Goals as goal

pub returns : goal.returns
returns c = kept_functions_have_own_ids
