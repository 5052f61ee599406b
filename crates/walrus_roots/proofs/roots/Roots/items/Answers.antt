use Rattle.walrus_roots.proofs.Shared.{shared_same}
use Rattle.walrus_roots.proofs.roots.Roots.items.Goals as goal

pub returns-clause-shared : goal.returns-clause-shared
returns-clause-shared c = shared_same _ _ c.as_slice.ensures.value c.self.invariant
