use Rattle.wasm_sections.specs.Read.{contents_stop_for_good}
use Rattle.wasm_sections.proofs.laws.contents_stop_for_good.Goals as goal

pub returns : goal.returns
returns c = contents_stop_for_good
