use Rattle.wasm_body_grammar.specs.Read.{bodies_stop_once}
use Rattle.wasm_body_grammar.proofs.laws.bodies_stop_once.Goals as goal

pub returns : goal.returns
returns c = bodies_stop_once
