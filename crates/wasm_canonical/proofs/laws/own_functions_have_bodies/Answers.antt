use Rattle.wasm_canonical.proofs.Own.{own_have_bodies}
use Rattle.wasm_canonical.proofs.laws.own_functions_have_bodies.Goals as goal

pub returns : goal.returns
returns c = own_have_bodies
