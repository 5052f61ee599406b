use Rattle.wasm_body_grammar.specs.Read.{bodies_read_or_stop}
use Rattle.wasm_body_grammar.proofs.laws.bodies_read_or_stop.Goals as goal

pub returns : goal.returns
returns c = bodies_read_or_stop
