use Rattle.walrus_module_bodies.proofs.LawLemmas.{steps_read}
use Rattle.walrus_module_bodies.proofs.laws.steps_read_codes.Goals as goal

pub returns : goal.returns
returns c = steps_read c.entry_types_grow.ensures c.found_types_stay.ensures c.tables_grow_on.ensures
