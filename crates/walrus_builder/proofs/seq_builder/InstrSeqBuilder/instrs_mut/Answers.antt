use Rattle.std.proofs.Common.{ℕ, List, ◌≡◌, get_or, subst, ap, refl}
use Rattle.std.specs.Option.{option_map}
use Rattle.walrus_walks.specs.walrus_instr.declared.seq.InstrSeq.{InstrSeq}
use Rattle.walrus_builder.specs.Built.{Building, Seq}
use Rattle.walrus_builder.proofs.BuiltLemmas.{edited_seqs, seq_seen}
use Rattle.walrus_builder.proofs.seq_builder.InstrSeqBuilder.instrs_mut.Goals as goal

pub returns : goal.returns
returns c =
    let xs = c.self.inside.seqs.items in
    let k = c.self.inside.id in
    let s = c.index_mut-seq.result.now in
    let F : ℕ → Type 0 = λ i. s ≡ get_or xs i s in
    rw (← c.self.view_is) (
      (
        refl,
        λ w. ap (λ (ss : List InstrSeq). let b : Building = record { id = k; seqs = ss } in b)
            (edited_seqs (λ t. record t { instrs = w }) xs c.index.result k s c.index.ensures c.self.invariant c.index_mut-seq.ensures.value),
      ),
      record { writes_back = tt; value = ap (option_map (λ (t : Seq). t.instrs)) (seq_seen xs k s c.self.invariant (subst F c.index.ensures c.index_mut-seq.ensures.value)) },
    )
