use Rattle.walrus_refusals.specs.Checks.{HoldsIn}
use Rattle.walrus_refusals.proofs.checks.holds_in.Given as goal

abbrev pub invariant-loop-index : goal.invariant-loop-index
invariant-loop-index g l = HoldsIn (g.C.Check.holds l.check) l.marks l.space l.index
