use Rattle.walrus_file_bodies.proofs.StopLemmas.{bodies_stop}
use Rattle.walrus_file_bodies.proofs.laws.bodies_stop_files.Goals as goal

pub returns : goal.returns
returns g c = bodies_stop c.filled_functions_stand.ensures c.filled_modules_are_filed.ensures c.found_types_stay.ensures c.tables_grow_on.ensures c.entry_types_grow.ensures
