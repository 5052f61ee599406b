use Rattle.wasm_composite_types.specs.wasm_reader.Spellings.{final_early}
use Rattle.wasm_operators.specs.Operators.{code_at, operator_at}
use Rattle.wasm_operators.specs.Finals.{code_final, operator_final}
use Rattle.wasm_operators.proofs.laws.fronts_of_operators_end_early.Goals as goal

pub returns-clause-code : goal.returns-clause-code
returns-clause-code c = final_early code_at code_final

pub returns-clause-operator : goal.returns-clause-operator
returns-clause-operator c = λ features. final_early (operator_at features) (operator_final features)
