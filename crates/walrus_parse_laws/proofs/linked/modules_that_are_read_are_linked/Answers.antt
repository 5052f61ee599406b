use Rattle.walrus_parse_laws.proofs.LinkedLemmas.{linked}
use Rattle.walrus_parse_laws.proofs.linked.modules_that_are_read_are_linked.Goals as goal

pub returns : goal.returns
returns g c =
    linked c.functions_of_read_modules_are_whole.ensures c.read_modules_have_links.ensures c.names_of_read_items_live.ensures c.indices_of_read_modules_live.ensures c.filled_functions_stand.ensures c.filled_modules_are_filed.ensures
    c.bodies_read_files.ensures c.read_types_are_declared.ensures c.entry_types_grow.ensures c.found_types_stay.ensures c.tables_grow_on.ensures c.walks_name_answers.ensures c.handlers_have_answers.ensures c.walks_of_read_bodies_name_locals.ensures
