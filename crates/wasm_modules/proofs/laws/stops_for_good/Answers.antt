use Rattle.wasm_modules.specs.Read.{stops_for_good}
use Rattle.wasm_modules.proofs.laws.stops_for_good.Goals as goal

pub returns : goal.returns
returns c = stops_for_good
