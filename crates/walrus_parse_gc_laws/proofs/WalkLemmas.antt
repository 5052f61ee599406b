-- Walks of sequences whose instructions stand at other places tell the same, but for the places and sequences that they show.
use Rattle.std.proofs.Common.{ℕ, zero, suc, ◌≡◌, List, [], ◌∷◌, ◌++◌, length, Option, Some, None, slice_get, refl, sym, subst}
use Rattle.std.specs.List.{AllZip}
use Rattle.walrus_marks.specs.walrus_instr.declared.instr.Instr.{Instr}
use Rattle.walrus_marks.specs.walrus_instr.declared.seq.InstrLocId.{InstrLocId}
use Rattle.walrus_marks.specs.walrus_instr.declared.seq.InstrSeq.{InstrSeq}
use Rattle.walrus_marks.specs.walrus_instr.declared.seq.InstrSeqType.{InstrSeqType}
use Rattle.walrus_marks.specs.walrus_walks.Events.{EndOf, Event, StartOf, Visits, block_names, events_of, names}
use Rattle.walrus_marks.specs.walrus_walks.Tree.{children}
use Rattle.walrus_marks.specs.walrus_walks.Walk.{body_walk, of_items, of_seq, walk, walk_within}
use Rattle.walrus_parse_gc_laws.proofs.SeqLemmas.{ItemMoved, SeqMoved}
use Rattle.walrus_parse_gc_laws.proofs.ZipLemmas.{OptionZip, zip_append, zip_at, zip_length, zip_same}

body_at : (b : List InstrSeq) (k : ℕ) (s : InstrSeq) → slice_get b k ≡ Some s → body_walk b k ≡ StartOf s ∷ (of_items (walk b) s.instrs.items ++ EndOf s ∷ [])
body_at b k s e = rw e refl

no_body : (b : List InstrSeq) (k : ℕ) → slice_get b k ≡ None → body_walk b k ≡ []
no_body b k e = rw e refl

-- where T is of each event and itself, and doesn't look at places
module _ (P : InstrLocId → InstrLocId → Type 0) (T : Event → Event → Type 0) (same : (e : Event) → T e e) (starts : (s t : InstrSeq) → T (StartOf s) (StartOf t)) (stops : (s t : InstrSeq) → T (EndOf s) (EndOf t))
    (visits : (i : Instr) (p q : InstrLocId) → T (Visits i p) (Visits i q)) where
  held_told : (w v : ℕ → List Event) → ((k : ℕ) → AllZip T (w k) (v k)) → (ks : List ℕ) → AllZip T (events_of w ks) (events_of v ks)
  held_told w v each [] = tt
  held_told w v each (k ∷ ks) = zip_append T (w k) (v k) (events_of w ks) (events_of v ks) (each k) (held_told w v each ks)

  items_told : (w v : ℕ → List Event) → ((k : ℕ) → AllZip T (w k) (v k)) → (is js : List (Instr × InstrLocId)) → AllZip (ItemMoved P) is js → AllZip T (of_items w is) (of_items v js)
  items_told w v each [] [] z = tt
  items_told w v each [] (j ∷ js) z = absurd z
  items_told w v each (i ∷ is) [] z = absurd z
  items_told w v each (i ∷ is) (j ∷ js) z =
      let Told : Instr → Type 0 = λ x. AllZip T (of_items w (i ∷ is)) (Visits x j.1 ∷ (names x ++ (events_of v (children x) ++ of_items v js))) in
      let held = zip_append T (events_of w (children i.0)) (events_of v (children i.0)) (of_items w is) (of_items v js) (held_told w v each (children i.0)) (items_told w v each is js z.1) in
      subst Told (sym z.0.0) (
        visits i.0 i.1 j.1,
        zip_append T (names i.0) (names i.0) (events_of w (children i.0) ++ of_items w is) (events_of v (children i.0) ++ of_items v js) (zip_same T same (names i.0)) held,
      )

  ended_told : (w v : ℕ → List Event) → ((k : ℕ) → AllZip T (w k) (v k)) → (s t : InstrSeq) → SeqMoved P s t → AllZip T (of_items w s.instrs.items ++ EndOf s ∷ []) (of_items v t.instrs.items ++ EndOf t ∷ [])
  ended_told w v each s t z = zip_append T (of_items w s.instrs.items) (of_items v t.instrs.items) (EndOf s ∷ []) (EndOf t ∷ []) (items_told w v each s.instrs.items t.instrs.items z.instrs) (stops s t, tt)

  seq_told : (w v : ℕ → List Event) → ((k : ℕ) → AllZip T (w k) (v k)) → (o p : Option InstrSeq) → OptionZip (SeqMoved P) o p → AllZip T (of_seq w o) (of_seq v p)
  seq_told w v each None None z = tt
  seq_told w v each None (Some t) z = absurd z
  seq_told w v each (Some s) None z = absurd z
  seq_told w v each (Some s) (Some t) z =
      let typed = subst (λ (ty : InstrSeqType). AllZip T (block_names s.ty) (block_names ty)) (sym z.ty) (zip_same T same (block_names s.ty)) in (
        starts s t,
        zip_append T (block_names s.ty) (block_names t.ty) (of_items w s.instrs.items ++ EndOf s ∷ []) (of_items v t.instrs.items ++ EndOf t ∷ []) typed (ended_told w v each s t z),
      )

  module _ (b c : List InstrSeq) (moved : AllZip (SeqMoved P) b c) where
    within_told : (n k : ℕ) → AllZip T (walk_within b n k) (walk_within c n k)
    within_told zero k = tt
    within_told (suc n) k = seq_told (walk_within b n) (walk_within c n) (within_told n) (slice_get b k) (slice_get c k) (zip_at (SeqMoved P) b c moved k)

    walk_told : (k : ℕ) → AllZip T (walk b k) (walk c k)
    walk_told k = subst (λ (n : ℕ). AllZip T (walk b k) (walk_within c n k)) (sym (zip_length (SeqMoved P) b c moved)) (within_told (length b) k)

    pub body_told : (k : ℕ) → AllZip T (body_walk b k) (body_walk c k)
    body_told k = by_seqs (slice_get b k) (slice_get c k) refl refl (zip_at (SeqMoved P) b c moved k)
      where
        by_seqs : (o p : Option InstrSeq) → slice_get b k ≡ o → slice_get c k ≡ p → OptionZip (SeqMoved P) o p → AllZip T (body_walk b k) (body_walk c k)
        by_seqs None None e f z = rw (no_body b k e) rw (no_body c k f) tt
        by_seqs None (Some t) e f z = absurd z
        by_seqs (Some s) None e f z = absurd z
        by_seqs (Some s) (Some t) e f z = rw (body_at b k s e) rw (body_at c k t f) (starts s t, ended_told (walk b) (walk c) walk_told s t z)
