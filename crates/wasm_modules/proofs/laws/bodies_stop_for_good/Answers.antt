use Rattle.wasm_modules.specs.Read.{bodies_stop_for_good}
use Rattle.wasm_modules.proofs.laws.bodies_stop_for_good.Goals as goal

pub returns : goal.returns
returns c = bodies_stop_for_good
