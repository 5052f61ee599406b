use Rattle.wasm_places_laws.proofs.Places.{part_pairs}
use Rattle.wasm_places_laws.proofs.laws.part_pairs_are_places.Goals as goal

pub returns : goal.returns
returns c = part_pairs
