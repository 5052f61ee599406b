use Rattle.wasm_composite_types.specs.wasm_reader.Spellings.{final_early}
use Rattle.wasm_operators.specs.Readings.{items_at}
use Rattle.wasm_operators.specs.ItemFinals.{items_final}
use Rattle.wasm_operators.proofs.laws.fronts_of_immediates_end_early.Goals as goal

pub returns : goal.returns
returns c = λ features forms. final_early (items_at features forms) (items_final features forms)
