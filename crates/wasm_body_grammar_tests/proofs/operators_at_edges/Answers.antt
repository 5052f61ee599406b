use Rattle.wasm_body_grammar_tests.proofs.EdgeLemmas.{edges_hold}
use Rattle.wasm_body_grammar_tests.proofs.operators_at_edges.Goals as goal

pub returns : goal.returns
returns c = edges_hold
