use Rattle.wasm_spelled_parts_laws.proofs.Small.{operators_spelled}
use Rattle.wasm_spelled_parts_laws.proofs.laws.fitting_operators_are_spelled.Goals as goal

pub returns : goal.returns
returns c = operators_spelled
