use Rattle.walrus_parse_laws.proofs.TellLemmas.{tell_texts}
use Rattle.walrus_parse_laws.proofs.groups.read_modules_tell_texts.Goals as goal

pub returns : goal.returns
returns g c =
    tell_texts c.operators_come_back.ensures c.operators_in_range_are_spelled.ensures c.trees_tell.ensures c.filled_functions_stand.ensures c.filled_modules_are_filed.ensures c.entry_types_grow.ensures
    c.found_types_stay.ensures c.tables_grow_on.ensures
