use Rattle.std.proofs.Common.{◌≡◌, ◌+◌, [], length}
use Rattle.walrus_marks.specs.Marks.{left_out}
use Rattle.walrus_used.proofs.AskLemmas.{Asks}
use Rattle.walrus_used.proofs.sweep.reach_asking.Given as goal

abbrev pub invariant-loop-part : goal.invariant-loop-part
invariant-loop-part g l = Asks l.counts l.fn.claims (g.N.PartNames.is_root_in l.names) (g.N.PartNames.refers l.names) (g.C.Check.holds l.check) l.part l.holds l.marks × (l.marks.met.work ≡ [])

abbrev pub invariant-loop-item : goal.invariant-loop-item
invariant-loop-item g l = Asks l.counts l.fn.claims (g.N.PartNames.is_root_in l.names) (g.N.PartNames.refers l.names) (g.C.Check.holds l.check) (l.part + 1) l.holds l.marks

abbrev pub decreases-loop-item : goal.decreases-loop-item
decreases-loop-item g l = left_out l.marks.met.marks + length l.marks.met.work
