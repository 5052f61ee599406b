use Rattle.std.proofs.Common.{ℕ, get_or, map, subst, ap, sym, arith, refl, Some, ◌≡◌, ◌∙◌}
use Rattle.std.specs.Prelude.{slice_get}
use Rattle.walrus_builder.specs.Built.{Building, contents, inserts, seq_of}
use Rattle.walrus_builder.proofs.BuiltLemmas.{edited_set, kept_set, edits_err, edits_ok, instrs_become, seq_seen}
use Rattle.walrus_builder.proofs.seq_builder.InstrSeqBuilder.instr_at.Goals as goal

pub returns-in_err-insert_at : goal.returns-in_err-insert_at
returns-in_err-insert_at c =
    let s = c.index_mut-seq.result.now in
    let same = instrs_become s c.insert_at.new.instrs.items s.instrs.items c.in_err-insert_at.ensures.refused in
    let kept = kept_set c.self.inside.seqs.items c.index.result c.self.inside.id s _ c.index.ensures c.self.invariant c.index_mut-seq.ensures.value same in
    rw (← c.self.view_is) (edits_err _ _ _ _ c.from_residual.ensures.0 refl kept)

pub returns : goal.returns
returns c =
    let s = c.index_mut-seq.result.now in
    let same = instrs_become s c.insert_at.new.instrs.items _ c.in_ok-insert_at.ensures.inserted in
    rw (← c.self.view_is) (edits_ok _ _ _ refl (edited_set (inserts c.args.position c.args.instr) c.self.inside.seqs.items c.index.result c.self.inside.id s _ c.index.ensures c.self.invariant c.index_mut-seq.ensures.value same))

pub insert_at-requires : goal.insert_at-requires
insert_at-requires c =
    let s = c.index_mut-seq.result.now in
    let xs = c.self.inside.seqs.items in
    let F : ℕ → Type 0 = λ i. s ≡ get_or xs i s in
    let seen : slice_get (map seq_of xs) c.self.inside.id ≡ Some (seq_of s) = seq_seen xs c.self.inside.id s c.self.invariant (subst F c.index.ensures c.index_mut-seq.ensures.value) in
    let within = c.requires (seq_of s) (ap (λ (b : Building). slice_get (contents b) b.id) (sym c.self.view_is) ∙ seen) in
    omega (arith, within, s.instrs.ok.0)
