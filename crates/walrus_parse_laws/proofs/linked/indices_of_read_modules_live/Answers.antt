use Rattle.walrus_parse_laws.proofs.LinkedIndexLemmas.{indices_live}
use Rattle.walrus_parse_laws.proofs.linked.indices_of_read_modules_live.Goals as goal

pub returns : goal.returns
returns g c =
    indices_live c.filled_modules_are_filed.ensures c.bodies_read_files.ensures c.read_modules_have_items.ensures c.read_modules_are_full.ensures c.ordered_stay.ensures c.new_types_stand.ensures c.types_name_below.ensures
    c.read_types_are_declared.ensures c.found_types_stay.ensures c.tables_grow_on.ensures
