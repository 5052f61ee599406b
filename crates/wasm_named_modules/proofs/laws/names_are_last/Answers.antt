use Rattle.wasm_named_modules.proofs.Last.{names_are_last}
use Rattle.wasm_named_modules.proofs.laws.names_are_last.Goals as goal

pub returns : goal.returns
returns c = names_are_last
