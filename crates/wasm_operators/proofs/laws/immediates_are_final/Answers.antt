use Rattle.wasm_operators.specs.ItemFinals.{items_final}
use Rattle.wasm_operators.proofs.laws.immediates_are_final.Goals as goal

pub returns : goal.returns
returns c = items_final
