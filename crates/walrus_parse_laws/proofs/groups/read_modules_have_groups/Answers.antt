use Rattle.walrus_parse_laws.proofs.ReadLemmas.{have_groups}
use Rattle.walrus_parse_laws.proofs.groups.read_modules_have_groups.Goals as goal

pub returns : goal.returns
returns g c =
    have_groups c.operators_come_back.ensures c.operators_in_range_are_spelled.ensures c.filled_functions_stand.ensures c.filled_modules_are_filed.ensures c.bodies_read_files.ensures c.entry_types_grow.ensures
    c.found_types_stay.ensures c.tables_grow_on.ensures c.groups_mean.ensures c.types_name_below.ensures c.read_types_are_declared.ensures
