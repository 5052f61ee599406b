use Rattle.wasm_operators.specs.ItemsTaken.{forms_taken}
use Rattle.wasm_operators.proofs.laws.spelled_immediates_are_read.Goals as goal

pub returns : goal.returns
returns c = forms_taken
