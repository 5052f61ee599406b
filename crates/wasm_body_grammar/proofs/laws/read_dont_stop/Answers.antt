use Rattle.wasm_body_grammar.specs.Read.{read_dont_stop}
use Rattle.wasm_body_grammar.proofs.laws.read_dont_stop.Goals as goal

pub returns : goal.returns
returns c = read_dont_stop
