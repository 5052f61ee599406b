use Rattle.walrus_own_ids_laws.proofs.Functions.{read_functions_have_own_ids}
use Rattle.walrus_own_ids_laws.proofs.laws.read_functions_have_own_ids.Goals as goal

pub returns : goal.returns
returns g c = read_functions_have_own_ids
