use Rattle.wasm_modules.specs.Read.{read_dont_stop}
use Rattle.wasm_modules.proofs.laws.read_dont_stop.Goals as goal

pub returns : goal.returns
returns c = read_dont_stop
