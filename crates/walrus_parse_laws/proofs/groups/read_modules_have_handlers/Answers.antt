use Rattle.walrus_parse_laws.proofs.HandlerLemmas.{have_handlers}
use Rattle.walrus_parse_laws.proofs.groups.read_modules_have_handlers.Goals as goal

pub returns : goal.returns
returns g c =
    have_handlers c.operators_come_back.ensures c.operators_in_range_are_spelled.ensures c.trees_tell.ensures c.bodies_read_once.ensures c.filled_functions_stand.ensures c.filled_modules_are_filed.ensures c.bodies_read_files.ensures
    c.entry_types_grow.ensures c.found_types_stay.ensures c.tables_grow_on.ensures
