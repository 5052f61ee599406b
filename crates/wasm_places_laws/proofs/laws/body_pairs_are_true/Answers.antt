use Rattle.wasm_places_laws.proofs.Bodies.{body_pairs_true}
use Rattle.wasm_places_laws.proofs.laws.body_pairs_are_true.Goals as goal

pub returns : goal.returns
returns c = body_pairs_true
