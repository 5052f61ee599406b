use Rattle.std.proofs.Common.{◌∙◌}
use Rattle.walrus_type_order.proofs.PlaceLemmas.{first_more, anchor_more, anchor_same}
use Rattle.walrus_type_order.proofs.order.places.Goals.{then-is_none, else-is_none}
use Rattle.walrus_type_order.proofs.order.places.Goals as goal

pub loop-position-preserved : goal.loop-position-preserved
loop-position-preserved g c =
    first_more c.args.entries.now c.loop-position.position c.loop-position.anchors c.if-is_none.anchors c.loop-position.places.items _ c.index-entries-position.result c.loop-position-test.true c.index-entries-position.is
    (elim c.if-is_none.branch [
      | then-is_none w ↦ w.anchors-is ∙ anchor_more c.args.entries.now c.loop-position.position c.loop-position.anchors c.index-entries-position.result c.loop-position-test.true c.index-entries-position.is w.if-is_none.ensures c.loop-position.invariant.counted
      | else-is_none w ↦ w.anchors-is ∙ anchor_same c.args.entries.now c.loop-position.position c.loop-position.anchors c.index-entries-position.result c.loop-position-test.true c.index-entries-position.is w.if-is_none.ensures c.loop-position.invariant.counted
    ])
    c.in_ok-push.ensures.items c.loop-position.invariant
