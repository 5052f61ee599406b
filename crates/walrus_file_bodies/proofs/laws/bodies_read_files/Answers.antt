use Rattle.walrus_file_bodies.proofs.ReadLemmas.{bodies_read}
use Rattle.walrus_file_bodies.proofs.laws.bodies_read_files.Goals as goal

pub returns : goal.returns
returns g c = bodies_read c.filled_functions_stand.ensures c.filled_modules_are_filed.ensures c.filled_modules_are_ready.ensures c.steps_read_codes.ensures
