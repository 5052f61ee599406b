use Rattle.walrus_locations.proofs.SendLemmas.{SeqsSent}
use Rattle.walrus_locations.proofs.bodies.send_body.Given as goal

abbrev pub invariant-loop-index : goal.invariant-loop-index
invariant-loop-index g l = SeqsSent (goal.F-step g) l.fn.sends l.fn.body l.sends l.body l.index
