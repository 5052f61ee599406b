use Rattle.wasm_canonical.proofs.CanonicalReads.{canonical_reads}
use Rattle.wasm_canonical.proofs.laws.canonical_are_canonical.Goals as goal

pub returns : goal.returns
returns c = canonical_reads c.due_modules_are_read.ensures c.places_are_not_ruled.ensures
