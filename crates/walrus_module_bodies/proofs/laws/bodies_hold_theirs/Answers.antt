use Rattle.walrus_module_bodies.proofs.LawLemmas.{bodies_hold}
use Rattle.walrus_module_bodies.proofs.laws.bodies_hold_theirs.Goals as goal

pub returns : goal.returns
returns c = bodies_hold c.entry_types_grow.ensures c.found_types_stay.ensures c.tables_grow_on.ensures c.bodies_hold_their_operators.ensures
