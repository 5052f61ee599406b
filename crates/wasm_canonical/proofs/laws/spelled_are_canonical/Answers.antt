use Rattle.wasm_canonical.proofs.CanonicalReads.{spelled_canonical}
use Rattle.wasm_canonical.proofs.laws.spelled_are_canonical.Goals as goal

pub returns : goal.returns
returns c = spelled_canonical c.canonical_are_canonical.ensures c.spelled_items_fit.ensures c.places_are_not_ruled.ensures
