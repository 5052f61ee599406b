use Rattle.walrus_walks.proofs.Threaded.{Continues}
use Rattle.walrus_locations.specs.Sent.{ItemSent}
use Rattle.walrus_locations.proofs.bodies.send_items.Given as goal

abbrev pub invariant-loop-item : goal.invariant-loop-item
invariant-loop-item g l = Continues (ItemSent (goal.F-step g)) l.fn.sends l.fn.items l.sends l.items l.item-index
