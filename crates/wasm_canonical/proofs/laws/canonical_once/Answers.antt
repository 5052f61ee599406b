use Rattle.wasm_canonical.proofs.CanonicalOnce.{canonical_is_once}
use Rattle.wasm_canonical.proofs.laws.canonical_once.Goals as goal

pub returns : goal.returns
returns c = canonical_is_once c.reads_once.ensures
