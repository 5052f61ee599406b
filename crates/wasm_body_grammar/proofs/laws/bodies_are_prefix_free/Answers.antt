use Rattle.wasm_body_grammar.specs.Read.{bodies_are_prefix_free}
use Rattle.wasm_body_grammar.proofs.laws.bodies_are_prefix_free.Goals as goal

pub returns : goal.returns
returns c = bodies_are_prefix_free
