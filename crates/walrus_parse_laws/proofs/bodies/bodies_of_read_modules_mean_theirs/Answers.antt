use Rattle.walrus_parse_laws.proofs.BodiesTextLemmas.{bodies_mean}
use Rattle.walrus_parse_laws.proofs.bodies.bodies_of_read_modules_mean_theirs.Goals as goal

pub returns : goal.returns
returns g c =
    bodies_mean c.filled_functions_stand.ensures c.filled_modules_are_filed.ensures c.found_types_stay.ensures c.tables_grow_on.ensures c.entry_types_grow.ensures c.bodies_mean_their_normal_form.ensures c.bodies_read_once.ensures
    c.picks_are_seen.ensures c.blocks_are_named.ensures
