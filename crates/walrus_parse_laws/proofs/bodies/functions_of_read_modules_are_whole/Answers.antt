use Rattle.walrus_parse_laws.proofs.WholeLemmas.{functions_whole}
use Rattle.walrus_parse_laws.proofs.bodies.functions_of_read_modules_are_whole.Goals as goal

pub returns : goal.returns
returns g c =
    functions_whole c.filled_functions_stand.ensures c.filled_modules_are_filed.ensures c.found_types_stay.ensures c.tables_grow_on.ensures c.entry_types_grow.ensures c.bodies_are_trees.ensures c.picks_are_seen.ensures
