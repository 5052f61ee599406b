use Rattle.walrus_walks.proofs.Threaded.{Continues}
use Rattle.walrus_walks.proofs.visit_mut.visit_all_mut.Given as goal

abbrev pub invariant-loop-item : goal.invariant-loop-item
invariant-loop-item g l = Continues (g.T.VisitMut.changed g.V.VisitorMut.step) l.fn.visitor l.fn.items l.visitor l.items l.item-index
