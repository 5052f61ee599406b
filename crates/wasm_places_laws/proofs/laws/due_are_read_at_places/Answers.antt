use Rattle.wasm_places_laws.proofs.Read.{due_read}
use Rattle.wasm_places_laws.proofs.laws.due_are_read_at_places.Goals as goal

pub returns : goal.returns
returns c =
    due_read c.reads_is_spelled_and_ruled.ensures c.due_sections_fill.ensures c.own_functions_have_bodies.ensures c.due_sections_are_formed.ensures c.places_are_not_ruled.ensures
