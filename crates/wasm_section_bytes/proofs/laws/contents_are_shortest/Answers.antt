use Rattle.wasm_section_bytes.specs.Laws.{contents_are_shortest}
use Rattle.wasm_section_bytes.proofs.laws.contents_are_shortest.Goals as goal

pub returns : goal.returns
returns c = contents_are_shortest
