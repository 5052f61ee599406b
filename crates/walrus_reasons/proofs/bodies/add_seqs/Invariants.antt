use Rattle.walrus_used.specs.Bodies.{SeqNames}
use Rattle.walrus_reasons.specs.Added.{Adds}
use Rattle.walrus_reasons.proofs.AddedLemmas.{Below}
use Rattle.walrus_reasons.proofs.bodies.add_seqs.Given as goal

abbrev pub invariant-loop-index : goal.invariant-loop-index
invariant-loop-index l = Adds (Below (SeqNames l.seqs) l.index) l.fn.named.items l.named.items
