use Rattle.walrus_roots.proofs.Shared.{shared_same}
use Rattle.walrus_roots.proofs.roots.Roots.clone.Goals as goal

pub invariant_of-result : goal.invariant_of-result
invariant_of-result c = shared_same _ _ c.in_ok-from_slice.ensures.items (shared_same _ _ c.as_slice.ensures.value c.self.invariant)
