use Rattle.wasm_canonical.proofs.Fill.{sections_fill}
use Rattle.wasm_canonical.proofs.laws.due_sections_fill.Goals as goal

pub returns : goal.returns
returns c = sections_fill c.entries_tell.ensures c.flags_tell.ensures
