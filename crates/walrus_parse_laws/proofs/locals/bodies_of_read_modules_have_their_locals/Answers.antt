use Rattle.walrus_parse_laws.proofs.LocalLemmas.{bodies_have}
use Rattle.walrus_parse_laws.proofs.locals.bodies_of_read_modules_have_their_locals.Goals as goal

pub returns : goal.returns
returns g c =
    bodies_have c.bodies_of_read_modules_mean_theirs.ensures c.filled_functions_stand.ensures c.filled_modules_are_filed.ensures c.found_types_stay.ensures c.tables_grow_on.ensures c.entry_types_grow.ensures c.bodies_read_once.ensures
