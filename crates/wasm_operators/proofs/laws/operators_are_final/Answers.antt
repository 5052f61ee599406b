use Rattle.wasm_operators.specs.Finals.{code_final, operator_final}
use Rattle.wasm_operators.proofs.laws.operators_are_final.Goals as goal

pub returns-clause-code : goal.returns-clause-code
returns-clause-code c = code_final

pub returns-clause-operator : goal.returns-clause-operator
returns-clause-operator c = operator_final
