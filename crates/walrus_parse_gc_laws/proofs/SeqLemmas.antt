-- Sequences whose instructions stand at other places: they hold the same sequences, and stand as the same tree.
use Rattle.std.proofs.Common.{ℕ, ◌≡◌, List, [], ◌∷◌, ◌++◌, Option, Some, slice_get, refl, sym, subst}
use Rattle.std.specs.List.{AllZip}
use Rattle.walrus_marks.specs.walrus_instr.declared.instr.Instr.{Instr}
use Rattle.walrus_marks.specs.walrus_instr.declared.seq.InstrLocId.{InstrLocId}
use Rattle.walrus_marks.specs.walrus_instr.declared.seq.InstrSeq.{InstrSeq}
use Rattle.walrus_marks.specs.walrus_walks.Tree.{children, children_in}
use Rattle.walrus_meaning.specs.walrus_linked.walrus_tree.Trees.{AreWithin, IsTree, IsWithin, Nothing, Stand, Tree, Trees}
use Rattle.walrus_parse_gc_laws.proofs.ZipLemmas.{OptionZip, zip_at, zip_some}

module _ (P : InstrLocId → InstrLocId → Type 0) where
  -- the same instruction at a place for the old one
  abbrev pub ItemMoved : Instr × InstrLocId → Instr × InstrLocId → Type 0
  ItemMoved old new = (new.0 ≡ old.0) × P old.1 new.1

  pub record SeqMoved (old new : InstrSeq) : Type 0 where
    pub ty : new.ty ≡ old.ty
    pub instrs : AllZip ItemMoved old.instrs.items new.instrs.items
    pub ends : P old.end new.end

  pub children_stay : (is js : List (Instr × InstrLocId)) → AllZip ItemMoved is js → children_in js ≡ children_in is
  children_stay [] [] z = refl
  children_stay [] (j ∷ js) z = absurd z
  children_stay (i ∷ is) [] z = absurd z
  children_stay (i ∷ is) (j ∷ js) z = λ k. children (z.0.0 k) ++ children_stay is js z.1 k

  within_stays : (around : List ℕ) (is js : List (Instr × InstrLocId)) → AllZip ItemMoved is js → AreWithin around is → AreWithin around js
  within_stays around [] [] z h = tt
  within_stays around [] (j ∷ js) z h = absurd z
  within_stays around (i ∷ is) [] z h = absurd z
  within_stays around (i ∷ is) (j ∷ js) z h = (subst (IsWithin around) (sym z.0.0) h.0, within_stays around is js z.1 h.1)

  module _ (b c : List InstrSeq) (moved : AllZip SeqMoved b c) where
    -- what stands in the place of a sequence
    pub moved_at : (k : ℕ) (s : InstrSeq) → slice_get b k ≡ Some s → (t : InstrSeq) × (slice_get c k ≡ Some t) × SeqMoved s t
    moved_at k s at = zip_some SeqMoved s (slice_get c k) (subst (λ (o : Option InstrSeq). OptionZip SeqMoved o (slice_get c k)) at (zip_at SeqMoved b c moved k))

    trees_stand : (t : Trees) (around ks : List ℕ) → Stand b t around ks → Stand c t around ks
    trees_stand Nothing around [] h = tt
    trees_stand Nothing around (k ∷ ks) h = absurd h
    trees_stand (Tree id inside beside) around [] h = absurd h
    trees_stand (Tree id inside beside) around (k ∷ ks) (same, s, at, within, held, next) =
        let there = moved_at k s at in (
          same,
          there.0,
          there.1,
          within_stays (k ∷ around) s.instrs.items there.0.instrs.items there.2.instrs within,
          subst (Stand c inside (k ∷ around)) (sym (children_stay s.instrs.items there.0.instrs.items there.2.instrs)) (trees_stand inside (k ∷ around) (children_in s.instrs.items) held),
          trees_stand beside around ks next,
        )

    pub tree_stays : (entry : ℕ) → IsTree b entry → IsTree c entry
    tree_stays entry t = record { inside = t.inside; stands = trees_stand (Tree entry t.inside Nothing) [] (entry ∷ []) t.stands; once = t.once }
