use Rattle.std.proofs.Common.{◌<◌, ◌∙◌, length, arith}
use Rattle.walrus_walks.specs.Changing.{ItemChanged}
use Rattle.walrus_walks.proofs.Keeping.{items_keep}
use Rattle.walrus_walks.proofs.Threaded.{threads_end, threads_turn}
use Rattle.walrus_walks.proofs.pre_order_mut.visit_items.Goals as goal

pub loop-item-preserved : goal.loop-item-preserved
loop-item-preserved g c =
    let items = c.loop-item.items in
    let i = c.loop-item.item-index in
    let item = c.visit_item.new.item in
    let within : i < length items = omega (arith, c.loop-item-test.true, c.loop-item.auto.items) in
    record {
      changed = threads_turn (ItemChanged g.V.VisitorMut.step) c.args.visitor.now c.args.items.now c.loop-item.visitor c.visit_item.new.visitor items i c.item-item.result item within c.visit_item.ensures.changed c.loop-item.invariant.changed;
      keeps = items_keep items i c.item-item.result item within c.visit_item.ensures.keeps ∙ c.loop-item.invariant.keeps;
    }

pub returns-clause-changed : goal.returns-clause-changed
returns-clause-changed g c =
    threads_end (ItemChanged g.V.VisitorMut.step) c.args.visitor.now c.args.items.now c.loop-item.visitor c.loop-item.items c.loop-item.item-index (omega (arith, c.loop-item-test.false)) c.loop-item.invariant.changed
