-- Nested sequences: their walk is the plain recursion, and what they hold is nested.
use Rattle.std.proofs.Common.{ℕ, zero, suc, ◌+◌, ◌<◌, ◌≤◌, ◌≡◌, cond, ◌&&◌, nat_lt, nat_le, List, [], ◌∷◌, ◌++◌, length, get_or, Option, Some, refl, sym, ap, subst, arith, ◌∙◌, ◌⊎◌, inl, inr}
use Rattle.std.specs.Prelude.{slice_get}
use Rattle.std.proofs.lemmas.Bool.Decides.{nat_tests}
use Rattle.std.proofs.Math.Nat.{eq-or-lt_of_le}
use Rattle.std.proofs.lemmas.Bool.{cases_lt}
use Rattle.std.proofs.lemmas.Option.{slice_get_within, slice_get_read}
use Rattle.walrus_instr.specs.declared.instr.Instr.{Instr}
use Rattle.walrus_instr.specs.declared.seq.InstrLocId.{InstrLocId}
use Rattle.walrus_instr.specs.declared.seq.InstrSeq.{InstrSeq}
use Rattle.walrus_walks.specs.Tree.{children, children_in, Falls, IsRank, IsNested}
use Rattle.walrus_walks.specs.Events.{Event, StartOf, EndOf, block_names, events_of}
use Rattle.walrus_walks.specs.Walk.{of_items, of_seq, walk_within, walk}

-- 1 where r is a rank up to t
abbrev hit : ℕ → ℕ → ℕ
hit t r = cond (nat_lt 0 r && nat_le r t) 1 0

-- how many of the first n sequences have a rank up to t
abbrev pub count_to : (ℕ → ℕ) → ℕ → ℕ → ℕ
count_to rank zero t = 0
count_to rank (suc n) t = count_to rank n t + hit t (rank n)

hit_most : (t r : ℕ) → hit t r ≤ 1
hit_most t r = grind (arith, nat_tests)

hit_more : (t u r : ℕ) → t ≤ u → hit t r ≤ hit u r
hit_more t u r h = grind (arith, nat_tests)

hit_new : (t u r : ℕ) → t < r → r ≤ u → hit t r + 1 ≤ hit u r
hit_new t u r h k = grind (arith, nat_tests)

hit_none : (r : ℕ) → hit 0 r ≡ 0
hit_none r = grind (arith, nat_tests)

pub count_most : (rank : ℕ → ℕ) (n t : ℕ) → count_to rank n t ≤ n
count_most rank zero t = omega arith
count_most rank (suc n) t = omega (arith, count_most rank n t, hit_most t (rank n))

count_none : (rank : ℕ → ℕ) (n : ℕ) → count_to rank n 0 ≡ 0
count_none rank zero = refl
count_none rank (suc n) = omega (arith, count_none rank n, hit_none (rank n))

count_more : (rank : ℕ → ℕ) (n t u : ℕ) → t ≤ u → count_to rank n t ≤ count_to rank n u
count_more rank zero t u h = omega arith
count_more rank (suc n) t u h = omega (arith, count_more rank n t u h, hit_more t u (rank n) h)

-- one more, where a sequence of its own lies between the two bounds
new_at : (rank : ℕ → ℕ) (n t u j : ℕ) → t < rank j → rank j ≤ u → (j ≡ n) ⊎ (j < n) → (j < n → count_to rank n t < count_to rank n u) → count_to rank (suc n) t < count_to rank (suc n) u
new_at rank n t u j p q (inl e) rec =
    let below : t < rank n = subst (λ (m : ℕ). t < rank m) e p in
    let within : rank n ≤ u = subst (λ (m : ℕ). rank m ≤ u) e q in
    omega (arith, count_more rank n t u (omega arith), hit_new t u (rank n) below within)
new_at rank n t u j p q (inr l) rec = omega (arith, rec l, hit_more t u (rank n) (omega arith))

pub count_new : (rank : ℕ → ℕ) (n t u j : ℕ) → j < n → t < rank j → rank j ≤ u → count_to rank n t < count_to rank n u
count_new rank zero t u j h p q = absurd (omega arith)
count_new rank (suc n) t u j h p q = new_at rank n t u j p q (eq-or-lt_of_le (omega arith)) (λ l. count_new rank n t u j l p q)

-- a rank that is at most the number of sequences, in the same order
abbrev pub squeezed : List InstrSeq → (ℕ → ℕ) → ℕ → ℕ
squeezed b rank k = count_to rank (length b) (rank k)

-- what has a rank keeps one
pub squeezed_some : (b : List InstrSeq) (rank : ℕ → ℕ) → IsRank b rank → (k : ℕ) → 0 < rank k → 0 < squeezed b rank k
squeezed_some b rank r k h =
    let s = r k h in
    omega (arith, count_none rank (length b), count_new rank (length b) 0 (rank k) k (slice_get_within b k s.0 s.1) h (omega arith))

falls_squeezed : (b : List InstrSeq) (rank : ℕ → ℕ) → IsRank b rank → (k : ℕ) → 0 < rank k → k < length b → (ks : List ℕ) → Falls rank (rank k) ks → Falls (squeezed b rank) (squeezed b rank k) ks
falls_squeezed b rank r k h l [] f = tt
falls_squeezed b rank r k h l (c ∷ cs) f =
    (squeezed_some b rank r c f.0, count_new rank (length b) (rank c) (rank k) k l f.1 (omega arith), falls_squeezed b rank r k h l cs f.2)

-- what has a squeezed rank had one
ranked_before : (rank : ℕ → ℕ) (n k : ℕ) → 0 < count_to rank n (rank k) → (0 < rank k) ⊎ (rank k ≤ 0) → 0 < rank k
ranked_before rank n k h (inl l) = l
ranked_before rank n k h (inr z) =
    let e : rank k ≡ 0 = omega arith in
    let none : count_to rank n (rank k) ≡ 0 = ap (count_to rank n) e ∙ count_none rank n in
    absurd (omega arith)

pub squeezed_is_rank : (b : List InstrSeq) (rank : ℕ → ℕ) → IsRank b rank → IsRank b (squeezed b rank)
squeezed_is_rank b rank r k h =
    let p = ranked_before rank (length b) k h (cases_lt 0 (rank k)) in
    let s = r k p in
    (s.0, s.1, falls_squeezed b rank r k p (slice_get_within b k s.0 s.1) (children_in s.0.instrs.items) s.2)

-- two walks agree on these sequences
abbrev pub Agree : (ℕ → List Event) → (ℕ → List Event) → List ℕ → Type 0
Agree w v [] = Unit {0}
Agree w v (k ∷ ks) = (w k ≡ v k) × Agree w v ks

agree_split : (w v : ℕ → List Event) (xs ys : List ℕ) → Agree w v (xs ++ ys) → Agree w v xs × Agree w v ys
agree_split w v [] ys h = (tt, h)
agree_split w v (x ∷ xs) ys h = let p = agree_split w v xs ys h.1 in ((h.0, p.0), p.1)

events_agree : (w v : ℕ → List Event) (ks : List ℕ) → Agree w v ks → events_of w ks ≡ events_of v ks
events_agree w v [] h = refl
events_agree w v (k ∷ ks) h =
    let e = h.0 in
    let f = events_agree w v ks h.1 in
    cc

pub items_agree : (w v : ℕ → List Event) (is : List (Instr × InstrLocId)) → Agree w v (children_in is) → of_items w is ≡ of_items v is
items_agree w v [] h = refl
items_agree w v (i ∷ is) h =
    let p = agree_split w v (children i.0) (children_in is) h in
    let e = events_agree w v (children i.0) p.0 in
    let f = items_agree w v is p.1 in
    cc

seq_agrees : (w v : ℕ → List Event) (o : Option InstrSeq) (s : InstrSeq) → o ≡ Some s → Agree w v (children_in s.instrs.items) → of_seq w o ≡ of_seq v o
seq_agrees w v o s e h =
    let F : Option InstrSeq → Type 0 = λ p. of_seq w p ≡ of_seq v p in
    let G : List Event → List Event = λ es. StartOf s ∷ (block_names s.ty ++ (es ++ EndOf s ∷ [])) in
    subst F (sym e) (ap G (items_agree w v s.instrs.items h))

pub falls_agree : (rank : ℕ → ℕ) (w v : ℕ → List Event) (t : ℕ) → ((c : ℕ) → 0 < rank c → rank c < t → w c ≡ v c) → (ks : List ℕ) → Falls rank t ks → Agree w v ks
falls_agree rank w v t same [] f = tt
falls_agree rank w v t same (c ∷ cs) f = (same c f.0 f.1, falls_agree rank w v t same cs f.2)

-- a walk deep enough is as good as a deeper one
same_within : (b : List InstrSeq) (rank : ℕ → ℕ) → IsRank b rank → (n m k : ℕ) → 0 < rank k → rank k ≤ n → rank k ≤ m → walk_within b n k ≡ walk_within b m k
same_within b rank r zero m k p h g = absurd (omega arith)
same_within b rank r (suc n) zero k p h g = absurd (omega arith)
same_within b rank r (suc n) (suc m) k p h g =
    let s = r k p in
    let same = λ (c : ℕ) (q : 0 < rank c) (l : rank c < rank k). same_within b rank r n m c q (omega arith) (omega arith) in
    seq_agrees (walk_within b n) (walk_within b m) (slice_get b k) s.0 s.1
    (falls_agree rank (walk_within b n) (walk_within b m) (rank k) same (children_in s.0.instrs.items) s.2)

-- the walk of a nested sequence is that of its instructions between its start and its end
pub walk_at : (b : List InstrSeq) (k : ℕ) (s : InstrSeq) → IsNested b k → slice_get b k ≡ Some s → walk b k ≡ StartOf s ∷ (block_names s.ty ++ (of_items (walk b) s.instrs.items ++ EndOf s ∷ []))
walk_at b k s h e =
    let rank = squeezed b h.rank in
    let r = squeezed_is_rank b h.rank h.is_rank in
    let most = count_most h.rank (length b) (h.rank k) in
    let deeper : walk_within b (length b) k ≡ walk_within b (suc (length b)) k =
    same_within b rank r (length b) (suc (length b)) k (squeezed_some b h.rank h.is_rank k h.ranked) most (omega arith) in
    deeper ∙ ap (of_seq (walk b)) e

-- each of these is nested
abbrev pub AllNested : List InstrSeq → List ℕ → Type 0
AllNested b [] = Unit {0}
AllNested b (k ∷ ks) = IsNested b k × AllNested b ks

falls_nested : (b : List InstrSeq) (rank : ℕ → ℕ) (t : ℕ) → IsRank b rank → (ks : List ℕ) → Falls rank t ks → AllNested b ks
falls_nested b rank t r [] f = tt
falls_nested b rank t r (c ∷ cs) f = (record { rank = rank; is_rank = r; ranked = f.0 }, falls_nested b rank t r cs f.2)

-- what a nested sequence holds is nested
pub nested_seq : (b : List InstrSeq) (k : ℕ) (s : InstrSeq) → IsNested b k → slice_get b k ≡ Some s → AllNested b (children_in s.instrs.items)
nested_seq b k s h e =
    let t = h.is_rank k h.ranked in
    let some_same : Some t.0 ≡ Some s = sym t.1 ∙ e in
    let same : t.0 ≡ s = cc in
    let F : InstrSeq → Type 0 = λ u. AllNested b (children_in u.instrs.items) in
    subst F same (falls_nested b h.rank (h.rank k) h.is_rank (children_in t.0.instrs.items) t.2)

pub nested_split : (b : List InstrSeq) (xs ys : List ℕ) → AllNested b (xs ++ ys) → AllNested b xs × AllNested b ys
nested_split b [] ys h = (tt, h)
nested_split b (x ∷ xs) ys h = let p = nested_split b xs ys h.1 in ((h.0, p.0), p.1)

-- a nested sequence is known
pub nested_known : (b : List InstrSeq) (k : ℕ) → IsNested b k → k < length b
nested_known b k h = let s = h.is_rank k h.ranked in slice_get_within b k s.0 s.1

-- the read of a nested sequence, at an index that equals its id
pub nested_read : (b : List InstrSeq) (k j : ℕ) (s : InstrSeq) → IsNested b k → j ≡ k → s ≡ get_or b j s → slice_get b k ≡ Some s
nested_read b k j s h e a =
    let F : ℕ → Type 0 = λ i. s ≡ get_or b i s in
    slice_get_read b (length b) k s refl (nested_known b k h) (subst F e a)
