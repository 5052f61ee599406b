use Rattle.wasm_sections.specs.Read.{sections_stop_inside}
use Rattle.wasm_sections.proofs.laws.sections_stop_inside.Goals as goal

pub returns : goal.returns
returns c = sections_stop_inside
