-- The numbers of labels, by how deep sequences lie.
use Rattle.std.proofs.Common.{ℕ, ◌+◌, ◌-◌, ◌≡◌, false, List, [], ◌∷◌, ◌++◌, length, map, Some, Ok, refl, sym, ap, subst, arith, inl, inr, ◌∙◌, true≢false}
use Rattle.std.specs.Prelude.{slice_get, slice_index_or, ◌==◌}
use Rattle.std.proofs.lemmas.Bool.{cases_Bool, eqb-true, eq-eqb}
use Rattle.std.proofs.lemmas.Option.{get_or_from_slice_get}
use Rattle.walrus_body_text.specs.walrus_tree.walrus_walks.walrus_instr.declared.instr.Instr.{Instr}
use Rattle.walrus_body_text.specs.walrus_tree.walrus_walks.walrus_instr.declared.instr.Instr.TheVariants.{TryTable, Br, BrIf, BrTable, BrOnNull, BrOnNonNull, BrOnCast, BrOnCastFail}
use Rattle.walrus_body_text.specs.walrus_tree.walrus_walks.walrus_instr.declared.instr.TryTableCatch.{TryTableCatch}
use Rattle.walrus_body_text.specs.walrus_tree.walrus_walks.walrus_instr.declared.instr.TryTableCatch.TheVariants as parts
use Rattle.walrus_body_text.specs.walrus_tree.walrus_walks.walrus_instr.declared.seq.InstrSeq.{InstrSeq}
use Rattle.wasm_operators.specs.declared.clause.Clause.{Clause}
use Rattle.walrus_pairing.specs.walrus_codes.Runs.{byte}
use Rattle.walrus_pairing.specs.Looks.{Look, Or, ◌>>=◌}
use Rattle.walrus_pairing.specs.Write.{op}
use Rattle.wasm_operators.specs.Items.{Labels, Names, Block, ManyLabels, ManyClauses}
use Rattle.walrus_body_text.specs.walrus_tree.Trees.{Has, HasAll, clause_label, IsWithin}
use Rattle.walrus_body_writer.specs.Spelled.{label, block, branch, clause, clauses, cast, type_in, written_instr}
use Rattle.walrus_body_text.specs.Doing.{AreDeep, label_by}

-- by its depth: how many sequences lie between
label_at : (d r o : ℕ) → r + d + 1 ≡ o → o - d - 1 ≡ r
label_at d r o e = omega (arith, e)

pub label_deep : (ds around : List ℕ) (k : ℕ) → AreDeep ds around → Has around k → (d : ℕ) × (slice_get ds k ≡ Some d) × (label around k + d + 1 ≡ length around)
label_deep ds [] k deep has = absurd has
label_deep ds (j ∷ js) k deep has = elim (cases_Bool (j == k)) [
  | inl e ↦
      let same = eqb-true j k e in
      (length js, subst (λ (z : ℕ). slice_get ds z ≡ Some (length js)) same deep.0, rw e (omega arith))
  | inr e ↦
      let later = label_deep ds js k deep.1 (elim has as (λ _. Has js k) [ inl s ↦ absurd (other j k e s) | inr g ↦ g ]) in
      let at = later.2 in
      (later.0, later.1, rw e (omega (arith, at)))
]
  where
    other : (j k : ℕ) → (j == k) ≡ false → j ≡ k → ⊥
    other j k e s = true≢false (sym (eq-eqb j k s) ∙ e)

pub label_same : (ds around : List ℕ) (height k : ℕ) → AreDeep ds around → height ≡ length around → Has around k → label_by ds height k ≡ label around k
label_same ds around height k deep o has =
    let found = label_deep ds around k deep has in
    let at : slice_index_or ds k 0 ≡ found.0 = get_or_from_slice_get ds k found.0 0 found.1 in
    let sum = found.2 in
    ap (λ (d : ℕ). height - d - 1) at ∙ label_at found.0 (label around k) height (sum ∙ sym o)

module _ (look : Look) (b : List InstrSeq) (ds around : List ℕ) (height : ℕ) (deep : AreDeep ds around) (o : height ≡ length around) where
  one : (k : ℕ) → Has around k → label_by ds height k ≡ label around k
  one k has = label_same ds around height k deep o has

  many : (ks : List ℕ) → HasAll around ks → map (label_by ds height) ks ≡ map (label around) ks
  many [] h = refl
  many (k ∷ ks) h = ap (λ (l : ℕ). l ∷ map (label_by ds height) ks) (one k h.0) ∙ ap (λ (l : List ℕ). label around k ∷ l) (many ks h.1)

  front : (ks js : List ℕ) → HasAll around (ks ++ js) → HasAll around ks × HasAll around js
  front [] js h = (tt, h)
  front (k ∷ ks) js h = let r = front ks js h.1 in ((h.0, r.0), r.1)

  one_clause : (c : TryTableCatch) → Has around (clause_label c) → clause look (label_by ds height) c ≡ clause look (label around) c
  one_clause (parts.Catch tag k) h = ap (λ (l : ℕ). clause look (λ _. l) (parts.Catch tag k)) (one k h)
  one_clause (parts.CatchRef tag k) h = ap (λ (l : ℕ). clause look (λ _. l) (parts.CatchRef tag k)) (one k h)
  one_clause (parts.CatchAll k) h = ap (λ (l : ℕ). clause look (λ _. l) (parts.CatchAll k)) (one k h)
  one_clause (parts.CatchAllRef k) h = ap (λ (l : ℕ). clause look (λ _. l) (parts.CatchAllRef k)) (one k h)

  all_clauses : (cs : List TryTableCatch) → HasAll around (map clause_label cs) → clauses look (label_by ds height) cs ≡ clauses look (label around) cs
  all_clauses [] h = refl
  all_clauses (c ∷ cs) h =
      ap (λ (x : Or Clause). x >>= λ first. clauses look (label_by ds height) cs >>= λ rest. Ok (first ∷ rest)) (one_clause c h.0)
      ∙ ap (λ (x : Or (List Clause)). clause look (label around) c >>= λ first. x >>= λ rest. Ok (first ∷ rest)) (all_clauses cs h.1)

  -- what is written by depths is what is written by labels
  pub instr_same : (i : Instr) → IsWithin around i → written_instr look b (label_by ds height) i ≡ written_instr look b (label around) i
  instr_same (TryTable k catches) h =
      ap (λ (x : Or (List Clause)). block look (type_in (slice_get b k)) >>= λ ty. x >>= λ cs. op (byte 0x1f) (Block ty ∷ ManyClauses cs ∷ [])) (all_clauses catches.items h.named)
  instr_same (Br k) h = ap (λ (l : ℕ). branch 0x0c (λ _. l) k) (one k h.named.0)
  instr_same (BrIf k) h = ap (λ (l : ℕ). branch 0x0d (λ _. l) k) (one k h.named.0)
  instr_same (BrTable other ks) h =
      let r = front ks.items (other ∷ []) h.named in
      ap (λ (ls : List ℕ). op (byte 0x0e) (ManyLabels ls ∷ Names Labels (label_by ds height other) ∷ [])) (many ks.items r.0)
      ∙ ap (λ (l : ℕ). op (byte 0x0e) (ManyLabels (map (label around) ks.items) ∷ Names Labels l ∷ [])) (one other r.1.0)
  instr_same (BrOnNull k) h = ap (λ (l : ℕ). branch 0xd5 (λ _. l) k) (one k h.named.0)
  instr_same (BrOnNonNull k) h = ap (λ (l : ℕ). branch 0xd6 (λ _. l) k) (one k h.named.0)
  instr_same (BrOnCast k from to) h = ap (λ (l : ℕ). cast look 24 (λ _. l) k from to) (one k h.named.0)
  instr_same (BrOnCastFail k from to) h = ap (λ (l : ℕ). cast look 25 (λ _. l) k from to) (one k h.named.0)
  instr_same _ h = refl
