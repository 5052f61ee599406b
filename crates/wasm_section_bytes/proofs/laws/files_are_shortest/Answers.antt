use Rattle.wasm_section_bytes.specs.Laws.{files_are_shortest}
use Rattle.wasm_section_bytes.proofs.laws.files_are_shortest.Goals as goal

pub returns : goal.returns
returns c = files_are_shortest
