use Rattle.walrus_parse_laws.proofs.ItemsNamedLemmas.{names_of_read}
use Rattle.walrus_parse_laws.proofs.items.names_of_read_items_live.Goals as goal

pub returns : goal.returns
returns g c =
    names_of_read c.read_modules_have_items.ensures c.read_modules_are_full.ensures c.read_modules_are_ruled.ensures c.new_types_stand.ensures c.types_name_below.ensures c.read_types_are_declared.ensures
    c.found_types_stay.ensures c.tables_grow_on.ensures c.expressions_tell_their_operators.ensures c.bodies_read_files.ensures
