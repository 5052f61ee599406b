use Rattle.walrus_parse_laws.proofs.ItemLemmas.{have_items}
use Rattle.walrus_parse_laws.proofs.items.read_modules_have_items.Goals as goal

pub returns : goal.returns
returns g c = have_items c.ordered_stay.ensures c.module_means.ensures c.functions_fill.ensures c.types_name_below.ensures c.new_types_stand.ensures c.read_functions_stand.ensures c.bodies_read_files.ensures
