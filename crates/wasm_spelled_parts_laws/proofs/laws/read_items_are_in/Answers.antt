use Rattle.wasm_spelled_parts_laws.proofs.File.{items_in_read}
use Rattle.wasm_spelled_parts_laws.proofs.laws.read_items_are_in.Goals as goal

pub returns : goal.returns
returns c = items_in_read c.read_sections_are_spelled.ensures
