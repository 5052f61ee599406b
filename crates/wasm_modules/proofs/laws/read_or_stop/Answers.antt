use Rattle.wasm_modules.specs.Read.{read_or_stop}
use Rattle.wasm_modules.proofs.laws.read_or_stop.Goals as goal

pub returns : goal.returns
returns c = read_or_stop
