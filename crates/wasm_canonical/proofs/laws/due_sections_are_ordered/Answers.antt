use Rattle.wasm_canonical.proofs.Ordered.{sections_ordered}
use Rattle.wasm_canonical.proofs.laws.due_sections_are_ordered.Goals as goal

pub returns : goal.returns
returns c = sections_ordered
