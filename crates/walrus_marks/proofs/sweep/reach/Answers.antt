use Rattle.walrus_marks.proofs.ReachLemmas.{sweeps_begin, sweeps_turn, turn_falls, ended}
use Rattle.walrus_marks.proofs.sweep.reach.Goals as goal

pub loop-item-init : goal.loop-item-init
loop-item-init g c = sweeps_begin c.args.counts.now c.none.result (g.N.Names.is_root c.args.names.now) (g.N.Names.refers c.args.names.now) c.in_ok-marks.marks c.meet_roots.new.marks c.in_ok-marks.ensures c.meet_roots.ensures

pub loop-item-smaller : goal.loop-item-smaller
loop-item-smaller g c =
    turn_falls c.args.counts.now (g.N.Names.is_root c.args.names.now) (g.N.Names.refers c.args.names.now) c.loop-item.marks c.take.new.self c.meet_named.new.marks c.in-Some.item c.in-Some.ensures.marks c.in-Some.ensures.missing c.in-Some.ensures.work c.in_ok-meet_named.ensures c.loop-item.invariant

pub loop-item-preserved : goal.loop-item-preserved
loop-item-preserved g c =
    sweeps_turn c.args.counts.now (g.N.Names.is_root c.args.names.now) (g.N.Names.refers c.args.names.now) c.loop-item.marks c.take.new.self c.meet_named.new.marks c.in-Some.item c.in-Some.ensures.marks c.in-Some.ensures.missing c.in-Some.ensures.work c.in_ok-meet_named.ensures c.loop-item.invariant

pub returns : goal.returns
returns g c = ended c.args.counts.now (g.N.Names.is_root c.args.names.now) (g.N.Names.refers c.args.names.now) c.requires.fit c.loop-item.marks c.take.new.self c.in_default.ensures.marks c.in_default.ensures.missing c.in_default.ensures.work.0 c.loop-item.invariant
