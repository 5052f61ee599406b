use Rattle.std.proofs.Common.{◌+◌, length}
use Rattle.walrus_marks.specs.Marks.{left_out}
use Rattle.walrus_marks.proofs.ReachLemmas.{Sweeps}
use Rattle.walrus_marks.proofs.sweep.reach.Given as goal

abbrev pub invariant-loop-item : goal.invariant-loop-item
invariant-loop-item g l = Sweeps l.counts (g.N.Names.is_root l.names) (g.N.Names.refers l.names) l.marks

abbrev pub decreases-loop-item : goal.decreases-loop-item
decreases-loop-item g l = left_out l.marks.met.marks + length l.marks.met.work
