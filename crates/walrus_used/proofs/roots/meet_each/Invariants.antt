use Rattle.std.proofs.Common.{Contains}
use Rattle.walrus_marks.specs.Chains.{Meets}
use Rattle.walrus_used.specs.Picks.{Below, IsPickedAt}
use Rattle.walrus_used.proofs.roots.meet_each.Given as goal

abbrev pub invariant-loop-index : goal.invariant-loop-index
invariant-loop-index g l = Meets (Below (IsPickedAt (λ id t x. Contains (g.P.Picks.picks l.picks id t) x) l.items) l.index) l.fn.marks l.marks
