use Rattle.walrus_arena.proofs.SetLemmas.{IsIndex-distinct}
use Rattle.walrus_arena.proofs.set.ArenaSet.iter.Goals as goal

pub returns-clause-distinct : goal.returns-clause-distinct
returns-clause-distinct g c = rw (← c.self.view_is) (IsIndex-distinct g.met.T.Eq.laws c.self.invariant)
