use Rattle.wasm_body_grammar_tests.proofs.Computed.{shapes_hold}
use Rattle.wasm_body_grammar_tests.proofs.operators_of_each_shape.Goals as goal

pub returns : goal.returns
returns c = shapes_hold
