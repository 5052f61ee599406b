use Rattle.wasm_canonical.proofs.Entries.{contents_fit}
use Rattle.wasm_canonical.proofs.laws.due_contents_fit.Goals as goal

pub returns : goal.returns
returns c = contents_fit
