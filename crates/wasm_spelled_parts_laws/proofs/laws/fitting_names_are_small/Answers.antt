use Rattle.wasm_spelled_parts_laws.proofs.Fitting.{names_small}
use Rattle.wasm_spelled_parts_laws.proofs.laws.fitting_names_are_small.Goals as goal

pub returns : goal.returns
returns c = names_small
