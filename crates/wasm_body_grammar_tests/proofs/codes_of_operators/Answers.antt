use Rattle.wasm_body_grammar_tests.proofs.CodeLemmas.{codes_hold}
use Rattle.wasm_body_grammar_tests.proofs.codes_of_operators.Goals as goal

pub returns : goal.returns
returns c = codes_hold
