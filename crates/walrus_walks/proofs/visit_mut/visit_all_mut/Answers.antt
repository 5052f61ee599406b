use Rattle.std.proofs.Common.{arith}
use Rattle.walrus_walks.proofs.Threaded.{threads_end, threads_turn}
use Rattle.walrus_walks.proofs.visit_mut.visit_all_mut.Goals as goal

pub loop-item-preserved : goal.loop-item-preserved
loop-item-preserved g c =
    threads_turn (g.T.VisitMut.changed g.V.VisitorMut.step) c.args.visitor.now c.args.items.now c.loop-item.visitor c.visit_mut.new.visitor c.loop-item.items c.loop-item.item-index c.item-item.result c.visit_mut.new.self (omega (arith, c.loop-item-test.true, c.loop-item.auto.items)) c.visit_mut.ensures c.loop-item.invariant

pub returns : goal.returns
returns g c =
    threads_end (g.T.VisitMut.changed g.V.VisitorMut.step) c.args.visitor.now c.args.items.now c.loop-item.visitor c.loop-item.items c.loop-item.item-index (omega (arith, c.loop-item-test.false)) c.loop-item.invariant
