use Rattle.wasm_operators.specs.Written.{reads_back}
use Rattle.wasm_operators.proofs.laws.written_operators_are_read_back.Goals as goal

pub returns : goal.returns
returns c = reads_back
