use Rattle.wasm_modules.specs.Read.{stops_inside}
use Rattle.wasm_modules.proofs.laws.stops_inside.Goals as goal

pub returns : goal.returns
returns c = stops_inside
