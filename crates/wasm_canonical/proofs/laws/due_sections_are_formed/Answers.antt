use Rattle.wasm_canonical.proofs.Formed.{sections_formed}
use Rattle.wasm_canonical.proofs.laws.due_sections_are_formed.Goals as goal

pub returns : goal.returns
returns c = sections_formed c.due_sections_fill.ensures c.due_entries_are_formed.ensures c.due_sections_are_ordered.ensures
