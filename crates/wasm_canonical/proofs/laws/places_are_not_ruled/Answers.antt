use Rattle.wasm_canonical.proofs.Places.{places_not_ruled}
use Rattle.wasm_canonical.proofs.laws.places_are_not_ruled.Goals as goal

pub returns : goal.returns
returns c = places_not_ruled
