use Rattle.std.proofs.Common.{◌≡◌}
use Rattle.walrus_walks.specs.Changing.{ItemChanged}
use Rattle.walrus_walks.specs.Order.{last_first}
use Rattle.walrus_walks.proofs.Threaded.{Continues}
use Rattle.walrus_walks.proofs.pre_order_mut.visit_items.Given as goal

abbrev pub invariant-loop-item : goal.invariant-loop-item
invariant-loop-item g l = record {
  changed : Continues (ItemChanged g.V.VisitorMut.step) l.fn.visitor l.fn.items l.visitor l.items l.item-index;
  keeps : last_first l.items ≡ last_first l.fn.items;
}
