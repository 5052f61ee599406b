use Rattle.std.proofs.Common.{◌≡◌, length}
use Rattle.walrus_tree.specs.Testing.{delegates}
use Rattle.walrus_tree.proofs.marks.delegates_within.Given as goal

abbrev pub invariant-loop-first : goal.invariant-loop-first
invariant-loop-first l = delegates l.depth l.rest ≡ delegates l.depth l.parts

abbrev pub decreases-loop-first : goal.decreases-loop-first
decreases-loop-first l = length l.rest
