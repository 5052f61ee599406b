use Rattle.wasm_operators.specs.Written.{operator_short}
use Rattle.wasm_operators.proofs.laws.written_operators_are_shortest.Goals as goal

pub returns : goal.returns
returns c = operator_short
