use Rattle.wasm_sections.specs.Decided.{sections_stop_for_good}
use Rattle.wasm_sections.proofs.laws.sections_stop_for_good.Goals as goal

pub returns : goal.returns
returns c = sections_stop_for_good
