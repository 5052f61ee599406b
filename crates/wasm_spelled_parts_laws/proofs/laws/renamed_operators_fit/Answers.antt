use Rattle.wasm_spelled_parts_laws.proofs.Fitting.{operators_renamed}
use Rattle.wasm_spelled_parts_laws.proofs.laws.renamed_operators_fit.Goals as goal

pub returns : goal.returns
returns c = operators_renamed
