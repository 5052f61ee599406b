-- Texts of sequences whose instructions stand at other places: the same pieces, each at a place for the old one.
use Rattle.std.proofs.Common.{ℕ, zero, suc, ◌≡◌, List, [], ◌∷◌, ◌++◌, length, Option, Some, None, slice_get, refl, sym, subst}
use Rattle.std.specs.List.{AllZip}
use Rattle.walrus_marks.specs.walrus_instr.declared.instr.Instr.{Instr}
use Rattle.walrus_marks.specs.walrus_instr.declared.seq.InstrLocId.{InstrLocId}
use Rattle.walrus_marks.specs.walrus_instr.declared.seq.InstrSeq.{InstrSeq}
use Rattle.walrus_marks.specs.walrus_walks.Tree.{children}
use Rattle.walrus_meaning.specs.walrus_linked.walrus_tree.Text.{End, Operator, Piece, after, of_instrs, of_parts, of_seq, operators, text_within}
use Rattle.walrus_parse_gc_laws.proofs.SeqLemmas.{ItemMoved, SeqMoved}
use Rattle.walrus_parse_gc_laws.proofs.ZipLemmas.{OptionZip, zip_append, zip_at, zip_length}

module _ (P : InstrLocId → InstrLocId → Type 0) where
  -- the same piece at a place for the old one
  abbrev pub PieceMoved : Piece × InstrLocId → Piece × InstrLocId → Type 0
  PieceMoved old new = (new.0 ≡ old.0) × P old.1 new.1

  abbrev AreMoved : List (Piece × InstrLocId) → List (Piece × InstrLocId) → Type 0
  AreMoved = AllZip PieceMoved

  abbrev EachMoved : (ℕ → Piece → List (Piece × InstrLocId)) → (ℕ → Piece → List (Piece × InstrLocId)) → Type 0
  EachMoved w v = (k : ℕ) (p : Piece) → AreMoved (w k p) (v k p)

  parts_moved : (w v : ℕ → Piece → List (Piece × InstrLocId)) → EachMoved w v → (ks : List ℕ) (ps : List Piece) → AreMoved (of_parts w ks ps) (of_parts v ks ps)
  parts_moved w v each [] ps = tt
  parts_moved w v each (k ∷ ks) [] = tt
  parts_moved w v each (k ∷ ks) (p ∷ ps) = zip_append PieceMoved (w k p) (v k p) (of_parts w ks ps) (of_parts v ks ps) (each k p) (parts_moved w v each ks ps)

  instrs_moved : (w v : ℕ → Piece → List (Piece × InstrLocId)) → EachMoved w v → (around : List ℕ) (is js : List (Instr × InstrLocId)) → AllZip (ItemMoved P) is js → AreMoved (of_instrs w around is) (of_instrs v around js)
  instrs_moved w v each around [] [] z = tt
  instrs_moved w v each around [] (j ∷ js) z = absurd z
  instrs_moved w v each around (i ∷ is) [] z = absurd z
  instrs_moved w v each around (i ∷ is) (j ∷ js) z =
      let Moved : Instr → Type 0 = λ x. AreMoved (of_instrs w around (i ∷ is)) ((Operator around x, j.1) ∷ (of_parts v (children x) (after x) ++ of_instrs v around js)) in
      let parts = parts_moved w v each (children i.0) (after i.0) in
      subst Moved (sym z.0.0) (
        (refl, z.0.1),
        zip_append PieceMoved (of_parts w (children i.0) (after i.0)) (of_parts v (children i.0) (after i.0)) (of_instrs w around is) (of_instrs v around js) parts (instrs_moved w v each around is js z.1),
      )

  seq_moved : (w v : ℕ → Piece → List (Piece × InstrLocId)) → EachMoved w v → (around : List ℕ) (o q : Option InstrSeq) (p : Piece) → OptionZip (SeqMoved P) o q → AreMoved (of_seq w around o p) (of_seq v around q p)
  seq_moved w v each around None None p z = tt
  seq_moved w v each around None (Some t) p z = absurd z
  seq_moved w v each around (Some s) None p z = absurd z
  seq_moved w v each around (Some s) (Some t) p z =
      zip_append PieceMoved (of_instrs w around s.instrs.items) (of_instrs v around t.instrs.items) ((p, s.end) ∷ []) ((p, t.end) ∷ []) (instrs_moved w v each around s.instrs.items t.instrs.items z.instrs)
      ((refl, z.ends), tt)

  module _ (b c : List InstrSeq) (moved : AllZip (SeqMoved P) b c) where
    within_moved : (n : ℕ) (around : List ℕ) (k : ℕ) (p : Piece) → AreMoved (text_within b n around k p) (text_within c n around k p)
    within_moved zero around k p = tt
    within_moved (suc n) around k p =
        seq_moved (text_within b n (k ∷ around)) (text_within c n (k ∷ around)) (within_moved n (k ∷ around)) (k ∷ around) (slice_get b k) (slice_get c k) p (zip_at (SeqMoved P) b c moved k)

    pub operators_moved : (entry : ℕ) → AllZip PieceMoved (operators b entry) (operators c entry)
    operators_moved entry = subst (λ (n : ℕ). AreMoved (operators b entry) (text_within c n [] entry End)) (sym (zip_length (SeqMoved P) b c moved)) (within_moved (length b) [] entry End)
