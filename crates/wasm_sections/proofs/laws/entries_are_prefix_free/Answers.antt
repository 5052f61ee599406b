use Rattle.wasm_sections.specs.Read.{entries_are_prefix_free}
use Rattle.wasm_sections.proofs.laws.entries_are_prefix_free.Goals as goal

pub returns : goal.returns
returns c = entries_are_prefix_free
