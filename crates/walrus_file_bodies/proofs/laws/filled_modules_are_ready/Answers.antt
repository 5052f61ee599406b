use Rattle.walrus_file_bodies.proofs.ReadyLemmas.{modules_are_ready}
use Rattle.walrus_file_bodies.proofs.laws.filled_modules_are_ready.Goals as goal

pub returns : goal.returns
returns g c = modules_are_ready c.filled_functions_stand.ensures c.filled_modules_are_filed.ensures
