-- Lists of which each two elements are in order.
use Rattle.std.proofs.Common.{◌≡◌, ◌≢◌, ℕ, ◌+◌, ◌<◌, eqb, List, length, get_or, map, All, AllPairs, Contains, IsPermutation, sym, subst, inl, inr, arith}
use Rattle.std.specs.Prelude.{Bool, false}
use Rattle.std.specs.List.{range_with_len}
use Rattle.std.specs.List.Sorted.{IsSortedBy}
use Rattle.std.specs.Cmp.{IsStrictWeakOrder}
use Rattle.std.proofs.lemmas.List.{get_or-map}
use Rattle.std.proofs.Math.ListN.{length-map}
use Rattle.std.proofs.lemmas.List.FromFn.{length-range_with_len, get_or-range_with_len}
use Rattle.std.proofs.lemmas.List.Sorted.{sorted_far, All-permutation, IsPermutation-map}
use Rattle.std.proofs.lemmas.Map.Made.{AllPairs-from_IsDistinct, IsDistinct-from_AllPairs}
use Rattle.std.proofs.lemmas.Map.Keys.{IsDistinct-IsPermutation}
use Rattle.std.proofs.lemmas.Bool.Decides.{Decides-eqb}
use Rattle.std.proofs.lemmas.Cmp.{nat_eq_equiv}
use Rattle.std.proofs.lemmas.Option.{slice_get_cases}

AllPairs-map : {X Y : Type 0} (R : Y → Y → Type 0) (f : X → Y) (xs : List X) → AllPairs (λ a b. R (f a) (f b)) xs → AllPairs R (map f xs)
AllPairs-map R f xs h = λ i j d before in_list.
    let n : length (map f xs) ≡ length xs = length-map xs f in
    let small : j < length xs = omega arith in
    elim (slice_get_cases xs i).1 as (λ _. R (get_or (map f xs) i d) (get_or (map f xs) j d)) [
      | inl (x, inside, found, is) ↦ subst (λ y. R y (get_or (map f xs) j d)) (sym (get_or-map f xs i x d (omega arith))) (subst (λ y. R (f (get_or xs i x)) y) (sym (get_or-map f xs j x d small)) (h i j x before small))
      | inr past ↦ absurd (omega (arith, past.0))
    ]

AllPairs-of_map : {X Y : Type 0} (R : Y → Y → Type 0) (f : X → Y) (xs : List X) → AllPairs R (map f xs) → AllPairs (λ a b. R (f a) (f b)) xs
AllPairs-of_map R f xs h = λ i j d before in_list.
    let n : length (map f xs) ≡ length xs = length-map xs f in
    subst (λ y. R y (f (get_or xs j d))) (get_or-map f xs i d (f d) (omega arith)) (subst (λ y. R (get_or (map f xs) i (f d)) y) (get_or-map f xs j d (f d) in_list) (h i j (f d) before (omega arith)))

pub distinct_permuted : (xs ys : List ℕ) → IsPermutation xs ys → AllPairs ◌≢◌ xs → AllPairs ◌≢◌ ys
distinct_permuted xs ys perm h = AllPairs-from_IsDistinct Decides-eqb ys (IsDistinct-IsPermutation eqb nat_eq_equiv.symm xs ys perm (IsDistinct-from_AllPairs Decides-eqb xs h))

pub distinct_range : (n : ℕ) → AllPairs ◌≢◌ (range_with_len 0 n)
distinct_range n = λ i j d before in_list e.
    let len : length (range_with_len 0 n) ≡ n = length-range_with_len 0 n in
    let a : get_or (range_with_len 0 n) i d ≡ 0 + i = get_or-range_with_len 0 n i d (omega arith) in
    let b : get_or (range_with_len 0 n) j d ≡ 0 + j = get_or-range_with_len 0 n j d (omega arith) in
    omega arith

pub in_range : (n i : ℕ) → Contains (range_with_len 0 n) i → i < n
in_range n i c =
    let len : length (range_with_len 0 n) ≡ n = length-range_with_len 0 n in
    let at : get_or (range_with_len 0 n) c.0 i ≡ 0 + c.0 = get_or-range_with_len 0 n c.0 i (omega (arith, c.1)) in
    omega (arith, c.1, c.2)

-- after a sort: the numbers stand as a test says that holds of each two places in order
pub numbers_in_order : {P : Type 0} (lt : P → P → Bool) → IsStrictWeakOrder lt → (number : P → ℕ) (Good : P → Type 0) (Before : ℕ → ℕ → Type 0) (places sorted : List P) →
    IsPermutation places sorted → IsSortedBy lt sorted → All Good places → AllPairs ◌≢◌ (map number places) →
    ((p q : P) → Good p → Good q → number p ≢ number q → lt q p ≡ false → Before (number p) (number q)) → AllPairs Before (map number sorted)
numbers_in_order lt o number Good Before places sorted perm up good distinct step =
    let differ = AllPairs-of_map ◌≢◌ number sorted (distinct_permuted (map number places) (map number sorted) (IsPermutation-map number places sorted perm) distinct) in
    let fine = All-permutation Good places sorted perm good in
    AllPairs-map Before number sorted (λ i j d before in_list.
    step (get_or sorted i d) (get_or sorted j d) (fine i d (omega arith)) (fine j d in_list) (differ i j d before in_list) (sorted_far lt o sorted up i j d (omega arith) in_list))
