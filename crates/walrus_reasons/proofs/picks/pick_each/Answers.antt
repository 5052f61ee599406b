use Rattle.std.proofs.Common.{append-nil, sym, arith}
use Rattle.walrus_reasons.proofs.PickLemmas.{all_picked, more_picked}
use Rattle.walrus_reasons.proofs.picks.pick_each.Goals as goal

pub loop-index-init : goal.loop-index-init
loop-index-init g c = sym (append-nil c.args.found.now.items)

pub loop-index-preserved : goal.loop-index-preserved
loop-index-preserved g c =
    more_picked (g.P.Picks.picks c.args.picks.now) c.args.items.now.slots c.loop-index.index c.args.found.now.items c.loop-index.found.items c.pick_at.new.found.items
    (omega (arith, c.loop-index-test.true, c.index-index-end.ensures, c.next_id.ensures)) c.loop-index.invariant c.in_ok-pick_at.ensures

pub returns : goal.returns
returns g c =
    all_picked (g.P.Picks.picks c.args.picks.now) c.args.items.now c.loop-index.index c.args.found.now.items c.loop-index.found.items
    (omega (arith, c.loop-index-test.false, c.loop-index.auto.index-end, c.index-index-end.ensures, c.next_id.ensures)) c.loop-index.invariant
