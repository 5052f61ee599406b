use Rattle.wasm_operators.specs.Renamed.{same_is_same}
use Rattle.wasm_operators.proofs.laws.the_same_numbers_keep_an_operator.Goals as goal

pub returns : goal.returns
returns c = same_is_same
