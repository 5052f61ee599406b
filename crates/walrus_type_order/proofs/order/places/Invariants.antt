use Rattle.walrus_type_order.proofs.PlaceLemmas.{AreFirst}
use Rattle.walrus_type_order.proofs.order.places.Given as goal

abbrev pub invariant-loop-position : goal.invariant-loop-position
invariant-loop-position g l = AreFirst l.entries l.position l.anchors l.places.items
