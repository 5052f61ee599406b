use Rattle.wasm_modules.specs.Read.{stops_once}
use Rattle.wasm_modules.proofs.laws.stops_once.Goals as goal

pub returns : goal.returns
returns c = stops_once
