use Rattle.wasm_sections.specs.Read.{sections_read_once}
use Rattle.wasm_sections.proofs.laws.sections_read_once.Goals as goal

pub returns : goal.returns
returns c = sections_read_once
