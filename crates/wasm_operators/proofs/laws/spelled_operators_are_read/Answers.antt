use Rattle.wasm_operators.specs.Taken.{code_taken, either_taken}
use Rattle.wasm_operators.proofs.laws.spelled_operators_are_read.Goals as goal

pub returns-clause-code : goal.returns-clause-code
returns-clause-code c = code_taken

pub returns-clause-operator : goal.returns-clause-operator
returns-clause-operator c = either_taken
