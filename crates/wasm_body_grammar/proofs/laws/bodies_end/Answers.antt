use Rattle.wasm_body_grammar.specs.Read.{bodies_end}
use Rattle.wasm_body_grammar.proofs.laws.bodies_end.Goals as goal

pub returns : goal.returns
returns c = bodies_end
