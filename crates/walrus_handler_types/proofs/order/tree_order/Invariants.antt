use Rattle.std.proofs.Common.{◌-◌, length}
use Rattle.walrus_handler_types.proofs.Ordering.{GoesOn}
use Rattle.walrus_handler_types.proofs.order.tree_order.Given as goal

abbrev pub invariant-loop-id : goal.invariant-loop-id
invariant-loop-id l = GoesOn l.seqs l.order.items l.left.items

abbrev pub decreases-loop-id : goal.decreases-loop-id
decreases-loop-id l = length l.seqs - length l.order.items
