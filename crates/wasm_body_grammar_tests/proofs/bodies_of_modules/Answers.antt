use Rattle.wasm_body_grammar_tests.proofs.RowLemmas.{rows_hold}
use Rattle.wasm_body_grammar_tests.proofs.bodies_of_modules.Goals as goal

pub returns : goal.returns
returns c = rows_hold
