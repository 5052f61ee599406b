use Rattle.wasm_part.proofs.Closed.{kept_closed}
use Rattle.wasm_part.proofs.laws.kept_is_closed.Goals as goal

pub returns : goal.returns
returns c = kept_closed
