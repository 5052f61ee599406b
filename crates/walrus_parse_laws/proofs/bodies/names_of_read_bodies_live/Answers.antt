use Rattle.walrus_parse_laws.proofs.UseLemmas.{names_of_bodies}
use Rattle.walrus_parse_laws.proofs.bodies.names_of_read_bodies_live.Goals as goal

pub returns : goal.returns
returns g c =
    names_of_bodies c.bodies_of_read_modules_mean_theirs.ensures c.bodies_read_files.ensures c.read_modules_have_items.ensures c.read_modules_are_full.ensures c.read_modules_are_ruled.ensures c.ordered_stay.ensures
    c.names_are_renamed.ensures c.new_types_stand.ensures c.types_name_below.ensures c.read_types_are_declared.ensures c.found_types_stay.ensures c.tables_grow_on.ensures
