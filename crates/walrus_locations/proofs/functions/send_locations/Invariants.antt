use Rattle.walrus_locations.proofs.SendLemmas.{SlotsSent}
use Rattle.walrus_locations.proofs.functions.send_locations.Given as goal

abbrev pub invariant-loop-index : goal.invariant-loop-index
invariant-loop-index g l = SlotsSent (goal.F-step g) l.fn.sends l.fn.functions l.sends l.functions l.index
