use Rattle.walrus_functions_into.proofs.TypedLemmas.{read_functions_stand}
use Rattle.walrus_functions_into.proofs.laws.read_functions_stand.Goals as goal

pub returns : goal.returns
returns c = read_functions_stand
