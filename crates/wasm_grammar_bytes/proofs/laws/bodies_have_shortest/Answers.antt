use Rattle.wasm_grammar_bytes.specs.Shortest.{bodies_have_shortest}
use Rattle.wasm_grammar_bytes.proofs.laws.bodies_have_shortest.Goals as goal

pub returns : goal.returns
returns c = bodies_have_shortest
