use Rattle.walrus_marks.specs.Chains.{Meets}
use Rattle.walrus_used.specs.Bodies.{SeqNames}
use Rattle.walrus_used.specs.Picks.{Below}
use Rattle.walrus_used.proofs.bodies.meet_seqs.Given as goal

abbrev pub invariant-loop-index : goal.invariant-loop-index
invariant-loop-index l = Meets (Below (SeqNames l.seqs) l.index) l.fn.marks l.marks
