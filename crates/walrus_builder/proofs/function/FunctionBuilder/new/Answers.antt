use Rattle.std.proofs.Common.{◌≡◌, ◌∙◌, List, [], ◌∷◌, map, slice_set, get_or, ap}
use Rattle.walrus_walks.specs.walrus_instr.declared.seq.InstrSeqType.{InstrSeqType}
use Rattle.walrus_walks.specs.walrus_instr.declared.seq.InstrSeq.{InstrSeq}
use Rattle.walrus_builder.specs.Built.{Seq, seq_of, empty_seq}

-- the one sequence with another type
retyped : (seqs : List InstrSeq) (s t : InstrSeq) (old ty : InstrSeqType) → map seq_of seqs ≡ empty_seq 0 old ∷ [] → s ≡ get_or seqs 0 s
    → t ≡ record s { ty = ty } → map seq_of (slice_set seqs 0 t) ≡ empty_seq 0 ty ∷ []
retyped [] s t old ty one at is = absurd cc
retyped (x ∷ y ∷ xs) s t old ty one at is = absurd cc
retyped (x ∷ []) s t old ty one at is =
    let first : seq_of x ≡ empty_seq 0 old = cc in
    ap (λ (u : InstrSeq). seq_of u ∷ []) (is ∙ ap (λ (u : InstrSeq). let v : InstrSeq = record u { ty = ty } in v) at)
    ∙ ap (λ (u : Seq). let v : Seq = record u { ty = ty } in v ∷ []) first
