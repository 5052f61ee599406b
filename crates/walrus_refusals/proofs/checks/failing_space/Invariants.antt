use Rattle.walrus_refusals.proofs.CheckLemmas.{HoldsBelow}
use Rattle.walrus_refusals.proofs.checks.failing_space.Given as goal

abbrev pub invariant-loop-number : goal.invariant-loop-number
invariant-loop-number g l = HoldsBelow (g.C.Check.holds l.check) l.marks l.number
