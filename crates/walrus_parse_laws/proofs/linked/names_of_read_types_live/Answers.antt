use Rattle.walrus_parse_laws.proofs.KindLemmas.{names_of_types}
use Rattle.walrus_parse_laws.proofs.linked.names_of_read_types_live.Goals as goal

pub returns : goal.returns
returns g c =
    names_of_types c.read_modules_have_items.ensures c.bodies_read_files.ensures c.read_modules_are_ruled.ensures c.new_types_stand.ensures c.types_name_below.ensures c.read_types_are_declared.ensures
    c.found_types_stay.ensures c.tables_grow_on.ensures
