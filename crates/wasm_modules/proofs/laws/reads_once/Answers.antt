use Rattle.wasm_modules.specs.Read.{reads_once}
use Rattle.wasm_modules.proofs.laws.reads_once.Goals as goal

pub returns : goal.returns
returns c = reads_once
