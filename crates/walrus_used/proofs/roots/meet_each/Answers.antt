use Rattle.std.proofs.Common.{Contains, arith}
use Rattle.walrus_used.specs.Picks.{IsPickedAt}
use Rattle.walrus_used.proofs.MeetsLemmas.{below_more}
use Rattle.walrus_used.proofs.RootLemmas.{all_picked}
use Rattle.walrus_used.proofs.roots.meet_each.Goals as goal

pub loop-index-preserved : goal.loop-index-preserved
loop-index-preserved g c =
    below_more (IsPickedAt (λ id t x. Contains (g.P.Picks.picks c.args.picks.now id t) x) c.args.items.now) c.loop-index.index c.args.marks.now c.loop-index.marks c.meet_at.new.marks c.loop-index.invariant c.meet_at.ensures

pub returns : goal.returns
returns g c =
    all_picked (λ id t x. Contains (g.P.Picks.picks c.args.picks.now id t) x) c.args.items.now c.loop-index.index c.args.marks.now c.loop-index.marks
    (omega (arith, c.loop-index-test.false, c.loop-index.auto.index-end, c.index-index-end.ensures, c.next_id.ensures)) c.loop-index.invariant
