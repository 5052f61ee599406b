use Rattle.walrus_roots.proofs.Shared.{shared_same, shared_more}
use Rattle.walrus_roots.proofs.roots.Roots.push.Goals as goal

pub invariant_of-self : goal.invariant_of-self
invariant_of-self c = shared_same _ _ c.in_err-push.ensures.items c.self.invariant

pub invariant_of-self-2 : goal.invariant_of-self-2
invariant_of-self-2 c = shared_same _ _ c.in_ok-push.ensures.items (shared_more _ _ c.self.invariant c.requires)
