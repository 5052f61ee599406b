use Rattle.wasm_operators.specs.Renamed.{names_are_renamed as lemma}
use Rattle.wasm_operators.proofs.laws.names_are_renamed.Goals as goal

pub returns : goal.returns
returns c = lemma
