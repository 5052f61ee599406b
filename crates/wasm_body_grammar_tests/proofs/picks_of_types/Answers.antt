use Rattle.wasm_body_grammar_tests.proofs.RowLemmas.{picks_hold}
use Rattle.wasm_body_grammar_tests.proofs.picks_of_types.Goals as goal

pub returns : goal.returns
returns c = picks_hold
