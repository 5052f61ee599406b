use Rattle.wasm_sections.specs.Read.{sections_read_or_stop}
use Rattle.wasm_sections.proofs.laws.sections_read_or_stop.Goals as goal

pub returns : goal.returns
returns c = sections_read_or_stop
