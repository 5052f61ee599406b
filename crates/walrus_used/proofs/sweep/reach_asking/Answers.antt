use Rattle.std.proofs.Common.{◌≡◌, ◌+◌, ◌↔◌, ℕ, arith, subst}
use Rattle.walrus_roots.specs.declared.item.Item.{Item as AnyItem}
use Rattle.walrus_used.specs.Picks.{Below}
use Rattle.walrus_marks.proofs.ReachLemmas.{turn_falls}
use Rattle.walrus_used.proofs.AskLemmas.{asks_none, asks_more, asks_turn, asks_idle, asks_reached, asks_asked}
use Rattle.walrus_used.proofs.sweep.reach_asking.Goals as goal

pub loop-part-init : goal.loop-part-init
loop-part-init g c = asks_none c.args.counts.now c.args.claims (g.N.PartNames.is_root_in c.args.names.now) (g.N.PartNames.refers c.args.names.now) (g.C.Check.holds c.args.check.now) c.in_ok-marks.marks c.in_ok-marks.ensures

pub loop-item-init : goal.loop-item-init
loop-item-init g c =
    asks_more c.args.counts.now c.args.claims (g.N.PartNames.is_root_in c.args.names.now) (g.N.PartNames.refers c.args.names.now) (g.C.Check.holds c.args.check.now) c.loop-part.part c.loop-part.holds c.loop-part.marks c.meet_part.new.marks c.meet_part.ensures
    c.loop-part.invariant.0

pub loop-item-smaller : goal.loop-item-smaller
loop-item-smaller g c =
    turn_falls c.args.counts.now (Below (g.N.PartNames.is_root_in c.args.names.now) (c.loop-part.part + 1)) (g.N.PartNames.refers c.args.names.now) c.loop-item.marks c.take.new.self c.meet_named.new.marks c.in-Some.item c.in-Some.ensures.marks c.in-Some.ensures.missing
    c.in-Some.ensures.work c.in_ok-meet_named.ensures c.loop-item.invariant.sweeps

pub loop-item-preserved : goal.loop-item-preserved
loop-item-preserved g c =
    asks_turn c.args.counts.now c.args.claims (g.N.PartNames.is_root_in c.args.names.now) (g.N.PartNames.refers c.args.names.now) (g.C.Check.holds c.args.check.now) (c.loop-part.part + 1) c.loop-item.holds c.in_ok-holds.holds c.loop-item.marks c.take.new.self c.meet_named.new.marks
    c.in-Some.item c.in-Some.ensures.marks c.in-Some.ensures.missing c.in-Some.ensures.work c.in_ok-meet_named.ensures c.in_ok-holds.ensures c.loop-item.invariant

pub loop-part-preserved : goal.loop-part-preserved
loop-part-preserved g c =
    asks_idle c.args.counts.now c.args.claims (g.N.PartNames.is_root_in c.args.names.now) (g.N.PartNames.refers c.args.names.now) (g.C.Check.holds c.args.check.now) (c.loop-part.part + 1) c.loop-item.holds c.loop-item.marks c.take.new.self c.in_default.ensures.marks
    c.in_default.ensures.missing c.in_default.ensures.work c.loop-item.invariant

pub returns-clause-reached : goal.returns-clause-reached
returns-clause-reached g c =
    asks_reached c.args.counts.now c.args.claims (g.N.PartNames.is_root_in c.args.names.now) (g.N.PartNames.refers c.args.names.now) (g.C.Check.holds c.args.check.now) (g.N.PartNames.is_root c.args.names.now) c.loop-part.part
    (let all : c.part_count-part-end.result ≡ c.loop-part.part = omega (arith, c.loop-part-test.false, c.loop-part.auto.part-end) in
    subst (λ (n : ℕ). (x : AnyItem) → g.N.PartNames.is_root c.args.names.now x ↔ Below (g.N.PartNames.is_root_in c.args.names.now) n x) all c.part_count-part-end.ensures)
    c.loop-part.marks c.loop-part.invariant.1 c.requires.fit c.loop-part.holds c.loop-part.invariant.0

pub returns-clause-claimed : goal.returns-clause-claimed
returns-clause-claimed g c = c.loop-part.invariant.0.claims

pub returns-clause-asked : goal.returns-clause-asked
returns-clause-asked g c = asks_asked c.args.counts.now c.args.claims (g.N.PartNames.is_root_in c.args.names.now) (g.N.PartNames.refers c.args.names.now) (g.C.Check.holds c.args.check.now) c.loop-part.part c.loop-part.holds c.loop-part.marks c.loop-part.invariant.1 c.loop-part.invariant.0
