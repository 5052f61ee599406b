use Rattle.wasm_places_laws.proofs.Read.{canonical_read}
use Rattle.wasm_places_laws.proofs.laws.canonical_are_read_at_places.Goals as goal

pub returns : goal.returns
returns c = canonical_read c.due_are_read_at_places.ensures c.spelled_items_fit.ensures c.places_are_not_ruled.ensures
