use Rattle.std.proofs.Common.{◌≡◌, ◌<◌, ℕ, false, Some}
use Rattle.std.specs.Prelude.{slice_get}
use Rattle.walrus_instr.specs.declared.seq.InstrSeq.{InstrSeq}
use Rattle.walrus_exact.specs.Exact.{seq_exact}
use Rattle.walrus_used.specs.walrus_references.References.{Reaches}
use Rattle.walrus_refusals.proofs.written.reached_have_none.Given as goal

abbrev pub invariant-loop-index : goal.invariant-loop-index
invariant-loop-index l = (k : ℕ) (s : InstrSeq) → k < l.index → Reaches l.seqs k → slice_get l.seqs k ≡ Some s → seq_exact k s ≡ false
