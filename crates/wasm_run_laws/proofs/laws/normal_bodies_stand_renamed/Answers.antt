use Rattle.wasm_run_laws.proofs.Bodies.{normal_bodies_stand}
use Rattle.wasm_run_laws.proofs.laws.normal_bodies_stand_renamed.Goals as goal

pub returns : goal.returns
returns c = normal_bodies_stand
