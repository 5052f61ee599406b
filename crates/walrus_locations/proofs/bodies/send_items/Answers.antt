use Rattle.std.proofs.Common.{arith}
use Rattle.walrus_walks.proofs.Threaded.{threads_end, threads_turn}
use Rattle.walrus_locations.specs.Sent.{ItemSent}
use Rattle.walrus_locations.proofs.bodies.send_items.Goals as goal

pub loop-item-preserved : goal.loop-item-preserved
loop-item-preserved g c =
    threads_turn (ItemSent (goal.F-step g)) c.args.sends.now c.args.items.now c.loop-item.sends c.send_item.new.sends c.loop-item.items c.loop-item.item-index _ c.send_item.new.item (omega (arith, c.loop-item-test.true, c.loop-item.auto.items)) c.send_item.ensures c.loop-item.invariant

pub returns : goal.returns
returns g c =
    threads_end (ItemSent (goal.F-step g)) c.args.sends.now c.args.items.now c.loop-item.sends c.loop-item.items c.loop-item.item-index (omega (arith, c.loop-item-test.false)) c.loop-item.invariant
