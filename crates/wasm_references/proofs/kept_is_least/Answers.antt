use Rattle.wasm_references.proofs.LeastLemmas.{least}
use Rattle.wasm_references.proofs.kept_is_least.Goals as goal

pub returns : goal.returns
returns c = least
