use Rattle.std.proofs.Common.{arith}
use Rattle.walrus_locations.proofs.SendLemmas.{slots_begin, slots_end}
use Rattle.walrus_locations.proofs.functions.send_locations.Goals as goal

pub loop-index-init : goal.loop-index-init
loop-index-init g c = slots_begin (goal.F-step g) c.args.sends.now c.args.functions.now

pub returns : goal.returns
returns g c =
    slots_end (goal.F-step g) c.args.sends.now c.args.functions.now c.loop-index.sends c.loop-index.functions c.loop-index.index (omega (arith, c.loop-index-test.false, c.loop-index.invariant.many, c.index-index-end.ensures, c.next_id.ensures, c.loop-index.auto.index-end)) c.loop-index.invariant
