-- The walks of nested sequences are the plain recursions.
use Rattle.std.proofs.Common.{ℕ, zero, suc, ◌<◌, ◌≤◌, ◌≡◌, List, [], ◌∷◌, ◌++◌, length, map, refl, sym, ap, subst, arith, ◌∙◌}
use Rattle.std.specs.Prelude.{slice_get, All}
use Rattle.std.specs.List.{FoldsTo}
use Rattle.std.proofs.lemmas.List.{length-map}
use Rattle.std.proofs.lemmas.List.Elements.{All-nil, All-cons}
use Rattle.walrus_instr.specs.declared.seq.InstrSeq.{InstrSeq}
use Rattle.walrus_walks.specs.Tree.{children_in, IsRank, IsNested}
use Rattle.walrus_walks.specs.Events.{Event, StartOf, EndOf, block_names}
use Rattle.walrus_walks.specs.Walk.{of_items, walk}
use Rattle.walrus_walks.specs.Order.{held_by, orders, order_of, order_within, order}
use Rattle.walrus_walks.specs.Changing.{SeqVisited}
use Rattle.walrus_walks.specs.Plain.{HeldAreNested, IsPlainWalk, WalkIsPlain, PlainWalkIsOne, BodyWalkIsWalk, IsPlainOrder, OrderIsPlain, PlainOrderIsOne, OrderIsKept, ChangesArePlain}
use Rattle.walrus_walks.proofs.Bodies.{body_at}
use Rattle.walrus_walks.proofs.Folds.{folds_append}
use Rattle.walrus_walks.proofs.Nested.{AllNested, items_agree, falls_agree, walk_at, nested_seq}
use Rattle.walrus_walks.proofs.Orders.{falls_last_first, orders_agree, order_at}

all_nested : (b : List InstrSeq) (ks : List ℕ) → AllNested b ks → All (IsNested b) ks
all_nested b [] h = All-nil (IsNested b)
all_nested b (k ∷ ks) h = All-cons (IsNested b) k ks h.0 (all_nested b ks h.1)

pub held_are_nested : HeldAreNested
held_are_nested b k s h e = all_nested b (children_in s.instrs.items) (nested_seq b k s h e)

pub walk_is_plain : WalkIsPlain
walk_is_plain b k s h e = walk_at b k s h e

pub body_walk_is_walk : BodyWalkIsWalk
body_walk_is_walk b k s h e = (of_items (walk b) s.instrs.items ++ EndOf s ∷ [], walk_at b k s h e, body_at b k s e)

pub order_is_plain : OrderIsPlain
order_is_plain b k s h e = order_at b k s h e

-- ---- there is but one
module _ (b : List InstrSeq) (rank : ℕ → ℕ) (r : IsRank b rank) where
  nested_by : (k : ℕ) → 0 < rank k → IsNested b k
  nested_by k p = record { rank = rank; is_rank = r; ranked = p }

  walks_one : (one two : ℕ → List Event) → IsPlainWalk b one → IsPlainWalk b two → (n k : ℕ) → 0 < rank k → rank k ≤ n → one k ≡ two k
  walks_one one two f g zero k p h = absurd (omega arith)
  walks_one one two f g (suc n) k p h =
      let s = r k p in
      let same = λ (c : ℕ) (q : 0 < rank c) (l : rank c < rank k). walks_one one two f g n c q (omega arith) in
      let items = items_agree one two s.0.instrs.items (falls_agree rank one two (rank k) same (children_in s.0.instrs.items) s.2) in
      let G : List Event → List Event = λ es. StartOf s.0 ∷ (block_names s.0.ty ++ (es ++ EndOf s.0 ∷ [])) in
      f k s.0 (nested_by k p) s.1 ∙ ap G items ∙ sym (g k s.0 (nested_by k p) s.1)

  orders_one : (one two : ℕ → List ℕ) → IsPlainOrder b one → IsPlainOrder b two → (n k : ℕ) → 0 < rank k → rank k ≤ n → one k ≡ two k
  orders_one one two f g zero k p h = absurd (omega arith)
  orders_one one two f g (suc n) k p h =
      let s = r k p in
      let same = λ (c : ℕ) (q : 0 < rank c) (l : rank c < rank k). orders_one one two f g n c q (omega arith) in
      let held = orders_agree rank one two (rank k) same (held_by s.0) (falls_last_first rank (rank k) s.0.instrs.items s.2) in
      f k s.0 (nested_by k p) s.1 ∙ ap (λ (ks : List ℕ). k ∷ ks) held ∙ sym (g k s.0 (nested_by k p) s.1)

pub plain_walk_is_one : PlainWalkIsOne
plain_walk_is_one b plain f k h = walks_one b h.rank h.is_rank plain (walk b) f (walk_is_plain b) (h.rank k) k h.ranked (omega arith)

pub plain_order_is_one : PlainOrderIsOne
plain_order_is_one b plain f k h = orders_one b h.rank h.is_rank plain (order b) f (order_is_plain b) (h.rank k) k h.ranked (omega arith)

-- ---- what holds the same has the same order
orders_same : (v w : ℕ → List ℕ) → ((k : ℕ) → v k ≡ w k) → (ks : List ℕ) → orders v ks ≡ orders w ks
orders_same v w same [] = refl
orders_same v w same (k ∷ ks) =
    let e = same k in
    let f = orders_same v w same ks in
    cc

step_same : (v w : ℕ → List ℕ) → ((k : ℕ) → v k ≡ w k) → (b c : List InstrSeq) → map held_by c ≡ map held_by b → (k j : ℕ) → order_of v k (slice_get c j) ≡ order_of w k (slice_get b j)
step_same v w same [] [] e k j = refl
step_same v w same [] (u ∷ c) e k j = let z : ⊥ = cc in absurd z
step_same v w same (t ∷ b) [] e k j = let z : ⊥ = cc in absurd z
step_same v w same (t ∷ b) (u ∷ c) e k zero =
    let heads : held_by u ≡ held_by t = cc in
    ap (λ (ks : List ℕ). k ∷ orders v ks) heads ∙ ap (λ (ks : List ℕ). k ∷ ks) (orders_same v w same (held_by t))
step_same v w same (t ∷ b) (u ∷ c) e k (suc j) =
    let tails : map held_by c ≡ map held_by b = cc in
    step_same v w same b c tails k j

within_same : (b c : List InstrSeq) → map held_by c ≡ map held_by b → (n k : ℕ) → order_within c n k ≡ order_within b n k
within_same b c e zero k = refl
within_same b c e (suc n) k = step_same (order_within c n) (order_within b n) (within_same b c e n) b c e k k

pub order_is_kept : OrderIsKept
order_is_kept b c e k =
    let lengths : length c ≡ length b = omega (arith, ap length e, length-map b held_by, length-map c held_by) in
    ap (λ (n : ℕ). order_within c n k) lengths ∙ within_same b c e (length b) k

-- ---- changes
module _ {P : Type 0} (R : P → ℕ → P → Type 0) (order : ℕ → List ℕ) where
  split : (xs ys : List ℕ) (p q : P) → FoldsTo R p (xs ++ ys) q → (m : P) × FoldsTo R p xs m × FoldsTo R m ys q
  split [] ys p q h = (p, refl, h)
  split (x ∷ xs) ys p q h =
      let t = split xs ys h.0 q h.2 in
      (t.0, (h.0, h.1, t.1), t.2)

  each_of : (ks : List ℕ) (p q : P) → FoldsTo R p (orders order ks) q → FoldsTo (λ v k w. FoldsTo R v (order k) w) p ks q
  each_of [] p q h = h
  each_of (k ∷ ks) p q h =
      let t = split (order k) (orders order ks) p q h in
      (t.0, t.1, each_of ks t.0 q t.2)

  all_of : (ks : List ℕ) (p q : P) → FoldsTo (λ v k w. FoldsTo R v (order k) w) p ks q → FoldsTo R p (orders order ks) q
  all_of [] p q h = h
  all_of (k ∷ ks) p q h = folds_append R p (order k) h.0 (orders order ks) q h.1 (all_of ks h.0 q h.2)

pub changes_are_plain : {V : Type 0} (step : V → Event → Event → V → Type 0) → ChangesArePlain step
changes_are_plain {V} step b k s p q n e =
    let R : V × List InstrSeq → ℕ → V × List InstrSeq → Type 0 = SeqVisited step in
    let F : List ℕ → Type 0 = λ ks. FoldsTo R p ks q in
    let at = order_at b k s n e in
    (λ h. let t = subst F at h in (t.0, t.1, each_of R (order b) (held_by s) t.0 q t.2), λ h. subst F (sym at) (h.0, h.1, all_of R (order b) (held_by s) h.0 q h.2))
