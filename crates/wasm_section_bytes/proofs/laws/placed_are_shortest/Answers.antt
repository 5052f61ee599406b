use Rattle.wasm_section_bytes.specs.Laws.{placed_are_shortest}
use Rattle.wasm_section_bytes.proofs.laws.placed_are_shortest.Goals as goal

pub returns : goal.returns
returns c = placed_are_shortest
