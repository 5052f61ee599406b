use Rattle.walrus_parse_laws.proofs.MeanLemmas.{mean_files}
use Rattle.walrus_parse_laws.proofs.meaning.modules_that_are_read_mean_their_files.Goals as goal

pub returns : goal.returns
returns g c =
    mean_files c.read_modules_have_items.ensures c.bodies_of_read_modules_mean_theirs.ensures c.bodies_of_read_modules_have_their_locals.ensures c.read_modules_have_groups.ensures c.read_modules_have_handlers.ensures c.modules_that_are_read_are_linked.ensures
    c.read_modules_are_ruled.ensures c.customs_mean.ensures c.ordered_stay.ensures c.filled_functions_stand.ensures c.bodies_read_files.ensures c.new_types_stand.ensures c.types_name_below.ensures c.found_types_stay.ensures
    c.tables_grow_on.ensures c.entry_types_grow.ensures c.filled_modules_are_filed.ensures c.named_locals_count.ensures c.bodies_read_once.ensures c.groups_mean.ensures c.read_types_are_declared.ensures
