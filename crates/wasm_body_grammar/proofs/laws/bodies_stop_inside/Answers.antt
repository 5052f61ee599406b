use Rattle.wasm_body_grammar.specs.Read.{bodies_stop_inside}
use Rattle.wasm_body_grammar.proofs.laws.bodies_stop_inside.Goals as goal

pub returns : goal.returns
returns c = bodies_stop_inside
