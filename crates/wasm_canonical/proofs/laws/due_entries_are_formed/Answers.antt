use Rattle.wasm_canonical.proofs.EntriesFormed.{entries_formed}
use Rattle.wasm_canonical.proofs.laws.due_entries_are_formed.Goals as goal

pub returns : goal.returns
returns c = entries_formed c.entries_tell.ensures
