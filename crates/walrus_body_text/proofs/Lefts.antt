-- Lists of what is left, part by part.
use Rattle.std.proofs.Common.{ℕ, false, zero, suc, ◌<◌, ◌≡◌, List, [], ◌∷◌, ◌++◌, Option, Some, None, refl, sym, ap, subst, arith, inl, inr, ◌∙◌, append-nil}
use Rattle.std.specs.Prelude.{slice_get}
use Rattle.std.proofs.lemmas.List.{append_assoc}
use Rattle.walrus_tree.specs.walrus_walks.walrus_instr.declared.instr.Instr.{Instr}
use Rattle.walrus_tree.specs.walrus_walks.walrus_instr.declared.instr.Instr.TheVariants.{Block, Loop, IfElse, Try, TryTable}
use Rattle.walrus_tree.specs.walrus_walks.walrus_instr.declared.instr.LegacyCatch.{LegacyCatch}
use Rattle.walrus_tree.specs.walrus_walks.walrus_instr.declared.instr.LegacyCatch.TheVariants as Legacy
use Rattle.walrus_tree.specs.walrus_walks.walrus_instr.declared.seq.InstrLocId.{InstrLocId}
use Rattle.walrus_tree.specs.walrus_walks.walrus_instr.declared.seq.InstrSeq.{InstrSeq}
use Rattle.walrus_tree.specs.walrus_walks.Tree.{children, children_in, handlers, Falls}
use Rattle.walrus_tree.specs.Trees.{Has, Counts, Delegates}
use Rattle.walrus_tree.specs.Text.{after, after_parts, of_parts, text}
use Rattle.walrus_body_text.specs.declared.todo.Closer.{Closer}
use Rattle.walrus_body_text.specs.declared.todo.Closer.TheVariants as closers
use Rattle.walrus_body_text.specs.declared.todo.Todo.{Todo}
use Rattle.walrus_body_text.specs.declared.todo.Todo.TheVariants.{Enter, Inside}
use Rattle.walrus_body_text.specs.Doing.{Text, holds, piece_of, closer_before, handling, entering, opened, here, left, IsBelow, AreRanked}

pub opened_append : (around : List ℕ) (xs ys : List Todo) → opened around (xs ++ ys) ≡ opened (opened around xs) ys
opened_append around [] ys = refl
opened_append around (Enter k c ∷ xs) ys = opened_append around xs ys
opened_append around (Inside at ∷ xs) ys = opened_append (at.seq ∷ around) xs ys

pub left_append : (b : List InstrSeq) (around : List ℕ) (xs ys : List Todo) → left b around (xs ++ ys) ≡ left b (opened around xs) ys ++ left b around xs
left_append b around [] ys = sym (append-nil (left b around ys))
left_append b around (Enter k c ∷ xs) ys =
    ap (λ (z : Text). z ++ here b around (Enter k c)) (left_append b around xs ys)
    ∙ append_assoc (left b (opened around xs) ys) (left b around xs) (here b around (Enter k c))
left_append b around (Inside at ∷ xs) ys =
    ap (λ (z : Text). z ++ here b around (Inside at)) (left_append b (at.seq ∷ around) xs ys)
    ∙ append_assoc (left b (opened (at.seq ∷ around) xs) ys) (left b (at.seq ∷ around) xs) (here b around (Inside at))

-- the last is next
pub left_last : (b : List InstrSeq) (ts : List Todo) (top : Todo) → left b [] (ts ++ top ∷ []) ≡ here b (opened [] ts) top ++ left b [] ts
left_last b ts (Enter k c) = left_append b [] ts (Enter k c ∷ [])
left_last b ts (Inside at) = left_append b [] ts (Inside at ∷ [])

pub ranked_append : (rank : ℕ → ℕ) (around : List ℕ) (xs ys : List Todo) → AreRanked rank around xs → AreRanked rank (opened around xs) ys → AreRanked rank around (xs ++ ys)
ranked_append rank around [] ys h g = g
ranked_append rank around (Enter k c ∷ xs) ys h g = (h.0, h.1, ranked_append rank around xs ys h.2 g)
ranked_append rank around (Inside at ∷ xs) ys h g = (h.0, h.1, ranked_append rank (at.seq ∷ around) xs ys h.2 g)

pub ranked_front : (rank : ℕ → ℕ) (around : List ℕ) (xs ys : List Todo) → AreRanked rank around (xs ++ ys) → AreRanked rank around xs
ranked_front rank around [] ys h = tt
ranked_front rank around (Enter k c ∷ xs) ys h = (h.0, h.1, ranked_front rank around xs ys h.2)
ranked_front rank around (Inside at ∷ xs) ys h = (h.0, h.1, ranked_front rank (at.seq ∷ around) xs ys h.2)

pub ranked_back : (rank : ℕ → ℕ) (around : List ℕ) (xs ys : List Todo) → AreRanked rank around (xs ++ ys) → AreRanked rank (opened around xs) ys
ranked_back rank around [] ys h = h
ranked_back rank around (Enter k c ∷ xs) ys h = ranked_back rank around xs ys h.2
ranked_back rank around (Inside at ∷ xs) ys h = ranked_back rank (at.seq ∷ around) xs ys h.2

-- what is below one is not around it
pub not_around : (rank : ℕ → ℕ) (k : ℕ) (js : List ℕ) → IsBelow rank k js → Has js k → ⊥
not_around rank k [] h has = has
not_around rank k (j ∷ js) h has = elim has [
  | inl e ↦ let F : ℕ → Type 0 = λ z. rank k < rank z in let l = subst F e h.0 in omega (arith, l)
  | inr g ↦ not_around rank k js h.1 g
]

below_more : (rank : ℕ → ℕ) (c k : ℕ) (js : List ℕ) → rank c < rank k → IsBelow rank k js → IsBelow rank c js
below_more rank c k [] l h = tt
below_more rank c k (j ∷ js) l h = (let g = h.0 in omega (arith, l, g), below_more rank c k js l h.1)

-- ---- what an instruction holds

pub handling_opens : (around : List ℕ) (parts : List LegacyCatch) → opened around (handling parts) ≡ around
handling_opens around [] = refl
handling_opens around (Legacy.Catch tag j ∷ parts) = opened_append around (handling parts) (Enter j (closer_before parts) ∷ []) ∙ handling_opens around parts
handling_opens around (Legacy.CatchAll j ∷ parts) = opened_append around (handling parts) (Enter j (closer_before parts) ∷ []) ∙ handling_opens around parts
handling_opens around (Legacy.Delegate depth ∷ parts) = handling_opens around parts

module _ (b : List InstrSeq) (around : List ℕ) where
  handling_last : (parts : List LegacyCatch) (j : ℕ) (c : Closer) → left b around (handling parts ++ Enter j c ∷ []) ≡ text b around j (piece_of c) ++ left b around (handling parts)
  handling_last parts j c =
      left_append b around (handling parts) (Enter j c ∷ [])
      ∙ ap (λ (z : List ℕ). text b z j (piece_of c) ++ left b around (handling parts)) (handling_opens around parts)

  -- the text of the parts of a legacy `try`, its body first
  parts_text : (parts : List LegacyCatch) (n : ℕ) → Delegates n parts → (k : ℕ)
      → text b around k (piece_of (closer_before parts)) ++ left b around (handling parts) ≡ of_parts (text b around) (k ∷ handlers parts) (after_parts parts)
  parts_text [] n h k = refl
  parts_text (Legacy.Catch tag j ∷ parts) n h k =
      ap (λ (z : Text). text b around k (piece_of (closers.Catch tag)) ++ z) (handling_last parts j (closer_before parts) ∙ parts_text parts n h j)
  parts_text (Legacy.CatchAll j ∷ parts) n h k =
      ap (λ (z : Text). text b around k (piece_of closers.CatchAll) ++ z) (handling_last parts j (closer_before parts) ∙ parts_text parts n h j)
  parts_text (Legacy.Delegate depth ∷ []) n h k = refl
  parts_text (Legacy.Delegate depth ∷ (p ∷ parts)) n h k = absurd (filled p parts h.1)
    where
      filled : (p : LegacyCatch) (parts : List LegacyCatch) → p ∷ parts ≡ [] → ⊥
      filled p parts e = cc

  -- the text of what an instruction holds
  pub held_text : (i : Instr) (n : ℕ) → Counts n i → left b around (entering i) ≡ of_parts (text b around) (children i) (after i)
  held_text (Block k) n h = sym (append-nil (text b around k (piece_of closers.End)))
  held_text (Loop k) n h = sym (append-nil (text b around k (piece_of closers.End)))
  held_text (IfElse k other) n h =
      ap (λ (z : Text). z ++ text b around other (piece_of closers.End)) refl
      ∙ ap (λ (z : Text). text b around k (piece_of closers.Else) ++ z) (sym (append-nil (text b around other (piece_of closers.End))))
  held_text (Try k catches) n h = handling_last catches.items k (closer_before catches.items) ∙ parts_text catches.items n h k
  held_text (TryTable k catches) n h = sym (append-nil (text b around k (piece_of closers.End)))
  held_text _ n h = refl

-- ---- ranks of what an instruction holds

falls_in : (rank : ℕ → ℕ) (m : ℕ) (xs ys : List ℕ) → Falls rank m (xs ++ ys) → Falls rank m xs × Falls rank m ys
falls_in rank m [] ys h = (tt, h)
falls_in rank m (x ∷ xs) ys h = let r = falls_in rank m xs ys h.2 in ((h.0, h.1, r.0), r.1)

pub falls_at : (rank : ℕ → ℕ) (m : ℕ) (is : List (Instr × InstrLocId)) (next : ℕ) (i : Instr × InstrLocId) → slice_get is next ≡ Some i → Falls rank m (children_in is) → Falls rank m (children i.0)
falls_at rank m [] next i e h = absurd (none_some i e)
  where
    none_some : (i : Instr × InstrLocId) → ◌≡◌ {A = Option (Instr × InstrLocId)} None (Some i) → ⊥
    none_some i e = cc
falls_at rank m (j ∷ is) zero i e h =
    let same : j ≡ i = some_is j i e in
    subst (λ (z : Instr × InstrLocId). Falls rank m (children z.0)) same (falls_in rank m (children j.0) (children_in is) h).0
  where
    some_is : (j i : Instr × InstrLocId) → ◌≡◌ {A = Option (Instr × InstrLocId)} (Some j) (Some i) → j ≡ i
    some_is j i e = cc
falls_at rank m (j ∷ is) (suc next) i e h = falls_at rank m is next i e (falls_in rank m (children j.0) (children_in is) h).1

module _ (rank : ℕ → ℕ) (k : ℕ) (around : List ℕ) (below : IsBelow rank k around) where
  enter_ranked : (c : ℕ) (by : Closer) → 0 < rank c → rank c < rank k → AreRanked rank (k ∷ around) (Enter c by ∷ [])
  enter_ranked c by some l = (some, (l, below_more rank c k around l below), tt)

  handling_ranked : (parts : List LegacyCatch) → Falls rank (rank k) (handlers parts) → AreRanked rank (k ∷ around) (handling parts)
  handling_ranked [] h = tt
  handling_ranked (Legacy.Catch tag j ∷ parts) h =
      ranked_append rank (k ∷ around) (handling parts) (Enter j (closer_before parts) ∷ []) (handling_ranked parts h.2)
      (subst (λ (z : List ℕ). AreRanked rank z (Enter j (closer_before parts) ∷ [])) (sym (handling_opens (k ∷ around) parts)) (enter_ranked j (closer_before parts) h.0 h.1))
  handling_ranked (Legacy.CatchAll j ∷ parts) h =
      ranked_append rank (k ∷ around) (handling parts) (Enter j (closer_before parts) ∷ []) (handling_ranked parts h.2)
      (subst (λ (z : List ℕ). AreRanked rank z (Enter j (closer_before parts) ∷ [])) (sym (handling_opens (k ∷ around) parts)) (enter_ranked j (closer_before parts) h.0 h.1))
  handling_ranked (Legacy.Delegate depth ∷ parts) h = handling_ranked parts h

  pub held_ranked : (i : Instr) → Falls rank (rank k) (children i) → AreRanked rank (k ∷ around) (entering i)
  held_ranked (Block c) h = enter_ranked c closers.End h.0 h.1
  held_ranked (Loop c) h = enter_ranked c closers.End h.0 h.1
  held_ranked (IfElse c other) h =
      let first = enter_ranked c closers.Else h.0 h.1 in
      let second = enter_ranked other closers.End h.2.0 h.2.1 in
      (second.0, second.1, first)
  held_ranked (Try c catches) h =
      ranked_append rank (k ∷ around) (handling catches.items) (Enter c (closer_before catches.items) ∷ []) (handling_ranked catches.items h.2)
      (subst (λ (z : List ℕ). AreRanked rank z (Enter c (closer_before catches.items) ∷ [])) (sym (handling_opens (k ∷ around) catches.items)) (enter_ranked c (closer_before catches.items) h.0 h.1))
  held_ranked (TryTable c catches) h = enter_ranked c closers.End h.0 h.1
  held_ranked _ h = tt

pub entering_opens : (around : List ℕ) (i : Instr) → opened around (entering i) ≡ around
entering_opens around (Block k) = refl
entering_opens around (Loop k) = refl
entering_opens around (IfElse k other) = refl
entering_opens around (Try k catches) = opened_append around (handling catches.items) (Enter k (closer_before catches.items) ∷ []) ∙ handling_opens around catches.items
entering_opens around (TryTable k catches) = refl
entering_opens around _ = refl

pub holds_none : (i : Instr) → holds i ≡ false → entering i ≡ []
holds_none (Block k) h = absurd cc
holds_none (Loop k) h = absurd cc
holds_none (IfElse k other) h = absurd cc
holds_none (Try k catches) h = absurd cc
holds_none (TryTable k catches) h = absurd cc
holds_none _ h = refl
