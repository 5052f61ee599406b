use Rattle.wasm_spelled_parts_laws.proofs.Due.{items_spelled}
use Rattle.wasm_spelled_parts_laws.proofs.laws.items_in_are_spelled.Goals as goal

pub returns : goal.returns
returns c = items_spelled c.fitting_operators_are_spelled.ensures
