use Rattle.wasm_operators.proofs.Operators.{operator_written}
use Rattle.wasm_operators.proofs.laws.operators_in_range_are_written.Goals as goal

pub returns : goal.returns
returns c = operator_written
