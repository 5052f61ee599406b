use Rattle.std.proofs.Common.{◌∙◌}
use Rattle.walrus_emit_numbers.proofs.Orders.{keys_more}
use Rattle.walrus_emit_numbers.proofs.order.keys_of.Goals as goal

pub loop-at-preserved : goal.loop-at-preserved
loop-at-preserved c =
    c.in_ok-push.ensures.items
    ∙ keys_more c.args.facts.now c.loop-at.keys.items c.loop-at.at c.number.result c.index-facts-at.result c.loop-at-test.true c.index-facts-at.is c.number.ensures c.loop-at.invariant
