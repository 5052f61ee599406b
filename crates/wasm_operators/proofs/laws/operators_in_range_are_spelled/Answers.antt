use Rattle.wasm_operators.proofs.Operators.{operator_fits}
use Rattle.wasm_operators.proofs.laws.operators_in_range_are_spelled.Goals as goal

pub returns : goal.returns
returns c = operator_fits
