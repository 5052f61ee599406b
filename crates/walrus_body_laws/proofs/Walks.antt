-- Lemmas: what the walk of a body names whose sequences hold fine instructions, and the sequences of its tree.
use Rattle.std.proofs.Common.{ℕ, zero, suc, ◌≡◌, ◌⊎◌, List, [], ◌∷◌, ◌++◌, length, map, Some, refl, sym, subst, ◌∙◌, inl, inr}
use Rattle.std.specs.Prelude.{Option, IfSome, slice_get}
use Rattle.walrus_marks.specs.walrus_instr.declared.instr.Instr.{Instr}
use Rattle.walrus_marks.specs.walrus_instr.declared.seq.InstrLocId.{InstrLocId}
use Rattle.walrus_marks.specs.walrus_instr.declared.seq.InstrSeq.{InstrSeq}
use Rattle.walrus_marks.specs.walrus_instr.declared.seq.InstrSeqType.{InstrSeqType}
use Rattle.walrus_walks.specs.Events.{Event, EndOf, block_names, events_of, names}
use Rattle.walrus_walks.specs.Tree.{children, children_in}
use Rattle.walrus_walks.specs.Walk.{body_walk, of_items, of_seq, walk, walk_within}
use Rattle.walrus_walks.proofs.Bodies.{body_at}
use Rattle.walrus_handler_laws.specs.walrus_tree.walrus_builder.Built.{seq_of}
use Rattle.walrus_handler_laws.specs.walrus_tree.Trees.{Has, IsTree, Nothing, Stand, Tree, Trees, ids}
use Rattle.walrus_handler_laws.specs.Handlers.{tree_ids}
use Rattle.walrus_roots.specs.declared.item.Item.{Item}
use Rattle.walrus_handler_laws.specs.walrus_body_steps.walrus_body_nesting.Stands.{none, with}
use Rattle.walrus_body_laws.specs.WalkingLaws.{TriesAre, try_type}
use Rattle.walrus_body_laws.proofs.Told.{Told, all_later, told_join}
use Rattle.walrus_body_laws.proofs.Types.{some_is}
use Rattle.walrus_body_laws.proofs.Instrs.{Fine}
use Rattle.walrus_body_laws.proofs.Meeting.{New}
use Rattle.walrus_body_laws.proofs.Sequences.{AllFine, Inside}

has_either : (xs ys : List ℕ) (k : ℕ) → Has (xs ++ ys) k → Has xs k ⊎ Has ys k
has_either [] ys k h = inr h
has_either (x ∷ xs) ys k (inl e) = inl (inl e)
has_either (x ∷ xs) ys k (inr h) = elim (has_either xs ys k h) as (λ _. Has (x ∷ xs) k ⊎ Has ys k) [ inl f ↦ inl (inr f) | inr f ↦ inr f ]

module _ (Good : Item → Type 0) (b : List InstrSeq) where
  -- ---- walks

  module _ (S : ℕ → Type 0) (walk_of : ℕ → List Event) (walked : (k : ℕ) → S k → Told Good (walk_of k)) where
    held_told : (ks : List ℕ) → ((k : ℕ) → Has ks k → S k) → Told Good (events_of walk_of ks)
    held_told [] h = tt
    held_told (k ∷ ks) h = told_join Good (walk_of k) (events_of walk_of ks) (walked k (h k (inl refl))) (held_told ks (λ j has. h j (inr has)))

    items_told : (is : List (Instr × InstrLocId)) → AllFine Good b S is → Told Good (of_items walk_of is)
    items_told [] h = tt
    items_told (i ∷ is) h =
        let later = told_join Good (events_of walk_of (children i.0)) (of_items walk_of is) (held_told (children i.0) h.0.held) (items_told is h.1) in
        (tt, told_join Good (names i.0) (events_of walk_of (children i.0) ++ of_items walk_of is) h.0.named later)

  module _ (inside : Inside Good b (λ ty. Told Good (block_names ty))) where
    abbrev S : ℕ → Type 0
    S = New (with 0 none) inside.done

    within_told : (n k : ℕ) → S k → Told Good (walk_within b n k)
    within_told zero k here = tt
    within_told (suc n) k here =
        let w = inside.whole k here in
        let items = items_told S (walk_within b n) (within_told n) w.0.instrs.items w.3 in
        subst (λ (o : Option InstrSeq). Told Good (of_seq (walk_within b n) o)) (sym w.1) (
          tt,
          told_join Good (block_names w.0.ty) (of_items (walk_within b n) w.0.instrs.items ++ EndOf w.0 ∷ []) w.2
              (told_join Good (of_items (walk_within b n) w.0.instrs.items) (EndOf w.0 ∷ []) items (tt, tt)),
        )

    pub body_told : Told Good (body_walk b 0)
    body_told =
        let items = items_told S (walk b) (within_told (length b)) inside.own.instrs.items inside.fine in
        subst (Told Good) (sym (body_at b 0 inside.own inside.found))
        (tt, told_join Good (of_items (walk b) inside.own.instrs.items) (EndOf inside.own ∷ []) items (tt, tt))

  -- ---- trees

  module _ (Typed : InstrSeqType → Type 0) (inside : Inside Good b Typed) where
    abbrev R : ℕ → Type 0
    R = New (with 0 none) inside.done

    -- it is there, and its instructions are fine
    abbrev IsThere : ℕ → Type 0
    IsThere k = (y : InstrSeq) × (slice_get b k ≡ Some y) × AllFine Good b R y.instrs.items

    there : (k : ℕ) → R k → IsThere k
    there k here = let w = inside.whole k here in (w.0, w.1, w.3)

    held_in : (is : List (Instr × InstrLocId)) → AllFine Good b R is → (k : ℕ) → Has (children_in is) k → R k
    held_in [] h k has = absurd has
    held_in (i ∷ is) h k has = elim (has_either (children i.0) (children_in is) k has) as (λ _. R k) [ inl f ↦ h.0.held k f | inr f ↦ held_in is h.1 k f ]

    fine_at : (k : ℕ) (y : InstrSeq) → slice_get b k ≡ Some y → IsThere k → AllFine Good b R y.instrs.items
    fine_at k y found h = subst (λ (z : InstrSeq). AllFine Good b R z.instrs.items) (some_is h.0 y (sym h.1 ∙ found)) h.2

    all_there : (x : Trees) (around ks : List ℕ) → Stand b x around ks → ((k : ℕ) → Has ks k → IsThere k) → (k : ℕ) → Has (ids x) k → IsThere k
    all_there Nothing around ks st h k has = absurd has
    all_there (Tree id inner beside) around [] st h k has = absurd st
    all_there (Tree id inner beside) around (j ∷ ks) (same, y, found, within, held, next) h k (inl e) = h k (inl (sym same ∙ e))
    all_there (Tree id inner beside) around (j ∷ ks) (same, y, found, within, held, next) h k (inr has) =
        let inner_in = held_in y.instrs.items (fine_at j y found (h j (inl refl))) in
        elim (has_either (ids inner) (ids beside) k has) as (λ _. IsThere k) [
          | inl f ↦ all_there inner (j ∷ around) (children_in y.instrs.items) held (λ c in_y. there c (inner_in c in_y)) k f
          | inr f ↦ all_there beside around ks next (λ c in_ks. h c (inr in_ks)) k f
        ]

    own_there : (k : ℕ) → Has (0 ∷ []) k → IsThere k
    own_there k (inl e) = subst IsThere e (inside.own, inside.found, inside.fine)
    own_there k (inr has) = absurd has

    pub tries_good : (t : IsTree b 0) (k : ℕ) (x : InstrSeq) → Has (tree_ids t) k → slice_get b k ≡ Some x → TriesAre (map seq_of b) (λ ty. Told Good (block_names ty)) x.instrs.items
    tries_good t k x has found =
        all_later (λ i. Fine Good (map seq_of b) R i.0) (λ i. IfSome (try_type (map seq_of b) i.0) (λ ty. Told Good (block_names ty))) (λ i h. h.tried) x.instrs.items
        (fine_at k x found (all_there (Tree 0 t.inside Nothing) [] (0 ∷ []) t.stands own_there k has))
