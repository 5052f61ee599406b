use Rattle.wasm_grammar_bytes.specs.Laws.{values_are_shortest}
use Rattle.wasm_grammar_bytes.proofs.laws.values_are_shortest.Goals as goal

pub returns : goal.returns
returns c = values_are_shortest
