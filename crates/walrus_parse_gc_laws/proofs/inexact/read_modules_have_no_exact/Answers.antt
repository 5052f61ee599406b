use Rattle.walrus_parse_gc_laws.proofs.ReadLemmas.{have_none}
use Rattle.walrus_parse_gc_laws.proofs.inexact.read_modules_have_no_exact.Goals as goal

pub returns : goal.returns
returns g c =
    have_none c.read_modules_have_items.ensures c.read_modules_have_handlers.ensures c.filled_functions_stand.ensures c.filled_modules_are_filed.ensures c.entry_types_grow.ensures c.found_types_stay.ensures
    c.tables_grow_on.ensures c.operators_come_back.ensures c.operators_in_range_are_spelled.ensures c.picks_are_seen.ensures c.read_sections_are_inexact.ensures c.read_bodies_are_inexact.ensures
