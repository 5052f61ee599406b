use Rattle.wasm_section_bytes.specs.Laws.{entries_are_shortest}
use Rattle.wasm_section_bytes.proofs.laws.entries_are_shortest.Goals as goal

pub returns : goal.returns
returns c = entries_are_shortest
