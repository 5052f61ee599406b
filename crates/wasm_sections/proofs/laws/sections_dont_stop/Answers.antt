use Rattle.wasm_sections.specs.Read.{sections_dont_stop}
use Rattle.wasm_sections.proofs.laws.sections_dont_stop.Goals as goal

pub returns : goal.returns
returns c = sections_dont_stop
