use Rattle.wasm_grammar.specs.TypeWords.{value_once}
use Rattle.wasm_grammar.proofs.values_are_told.Goals as goal

pub returns : goal.returns
returns c = value_once
