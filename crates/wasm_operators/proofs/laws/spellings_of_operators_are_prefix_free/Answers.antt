use Rattle.wasm_composite_types.specs.wasm_reader.Spellings.{taken_free}
use Rattle.wasm_operators.specs.Operators.{code_at, operator_at}
use Rattle.wasm_operators.specs.Spellings.{SpellsCode, SpellsEither}
use Rattle.wasm_operators.specs.Taken.{code_taken, either_taken}
use Rattle.wasm_operators.proofs.laws.spellings_of_operators_are_prefix_free.Goals as goal

pub returns-clause-code : goal.returns-clause-code
returns-clause-code c = taken_free code_at SpellsCode code_taken

pub returns-clause-operator : goal.returns-clause-operator
returns-clause-operator c = λ features. taken_free (operator_at features) (SpellsEither features) (either_taken features)
