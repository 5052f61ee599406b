-- A list has one order in which it is written.
use Rattle.std.proofs.Common.{◌≡◌, ◌≢◌, ℕ, ◌<◌, ◌⊎◌, zero, suc, Ordering, List, [], ◌∷◌, length, AllPairs, Contains, Option, Some, None, refl, sym, ap, subst, ◌∙◌, inl, inr, arith}
use Rattle.std.specs.Prelude.{slice_get}
use Rattle.std.specs.declared.cmp.Ordering.TheVariants.{Less, Equal, Greater}
use Rattle.std.specs.Ordering.{ordering_reverse, is_lt, is_eq}
use Rattle.std.specs.Cmp.{IsTotalOrder}
use Rattle.std.specs.List.{range_with_len}
use Rattle.std.proofs.lemmas.Bool.{false≢true, cases_lt, cases_eq}
use Rattle.std.proofs.lemmas.List.Sorted.{Contains-permutation, IsPermutation-sym}
use Rattle.std.proofs.lemmas.Option.{slice_get_cases}
use Rattle.walrus_type_order.specs.Order.{HasAnchor, IsLess, IsEmissionOrder}
use Rattle.walrus_type_order.proofs.ListLemmas.{distinct_permuted, distinct_range, in_range}

-- one list's elements stand in another
abbrev Among : List ℕ → List ℕ → Type 0
Among xs ys = (n : ℕ) → Contains xs n → Contains ys n

contains_cases : (y : ℕ) (ys : List ℕ) (n : ℕ) → Contains (y ∷ ys) n → (y ≡ n) ⊎ Contains ys n
contains_cases y ys n (zero, below, is) = inl is
contains_cases y ys n (suc k, below, is) = inr (k, omega arith, is)

contains_first : (y : ℕ) (ys : List ℕ) → Contains (y ∷ ys) y
contains_first y ys = (0, omega arith, refl)

contains_later : (y : ℕ) (ys : List ℕ) (n : ℕ) → Contains ys n → Contains (y ∷ ys) n
contains_later y ys n c = (suc c.0, omega (arith, c.1), c.2)

head_pairs : (R : ℕ → ℕ → Type 0) (x : ℕ) (xs : List ℕ) (n : ℕ) → AllPairs R (x ∷ xs) → Contains xs n → R x n
head_pairs R x xs n pairs c = subst (λ m. R x m) c.2 (pairs 0 (suc c.0) n (omega arith) (omega (arith, c.1)))

tail_pairs : (R : ℕ → ℕ → Type 0) (x : ℕ) (xs : List ℕ) → AllPairs R (x ∷ xs) → AllPairs R xs
tail_pairs R x xs pairs = λ i j d before small. pairs (suc i) (suc j) d (omega arith) (omega arith)

among_tail : (x : ℕ) (xs : List ℕ) (y : ℕ) (ys : List ℕ) → x ≡ y → AllPairs ◌≢◌ (x ∷ xs) → Among (x ∷ xs) (y ∷ ys) → Among xs ys
among_tail x xs y ys e distinct among n c = elim (contains_cases y ys n (among n (contains_later x xs n c))) as (λ _. Contains ys n) [
  | inl is ↦ absurd (head_pairs ◌≢◌ x xs n distinct c (e ∙ is))
  | inr later ↦ later
]

-- of two that stand in both lists, just one may stand before the other
abbrev Asymmetric : (ℕ → ℕ → Type 0) → List ℕ → Type 0
Asymmetric R xs = (i j : ℕ) → Contains xs i → Contains xs j → i ≢ j → R i j → R j i → ⊥

-- lists of the same elements, each in order, are one
one_order : (R : ℕ → ℕ → Type 0) (xs ys : List ℕ) → Asymmetric R xs → Among xs ys → Among ys xs → AllPairs ◌≢◌ xs → AllPairs ◌≢◌ ys → AllPairs R xs → AllPairs R ys → xs ≡ ys
one_order R [] [] asymmetric forth back dx dy px py = refl
one_order R [] (y ∷ ys) asymmetric forth back dx dy px py = let c : Contains [] y = back y (contains_first y ys) in absurd (omega (arith, c.1))
one_order R (x ∷ xs) [] asymmetric forth back dx dy px py = let c : Contains [] x = forth x (contains_first x xs) in absurd (omega (arith, c.1))
one_order R (x ∷ xs) (y ∷ ys) asymmetric forth back dx dy px py = elim (cases_eq x y) as (λ _. x ∷ xs ≡ y ∷ ys) [
  | inl e ↦ (
      let rest : xs ≡ ys = one_order R xs ys (λ i j ci cj. asymmetric i j (contains_later x xs i ci) (contains_later x xs j cj)) (among_tail x xs y ys e dx forth) (among_tail y ys x xs (sym e) dy back) (tail_pairs ◌≢◌ x xs dx) (tail_pairs ◌≢◌ y ys dy) (tail_pairs R x xs px) (tail_pairs R y ys py) in
      ap (λ n. n ∷ xs) e ∙ ap (λ ns. y ∷ ns) rest)
  | inr differ ↦ elim (contains_cases y ys x (forth x (contains_first x xs))) as (λ _. x ∷ xs ≡ y ∷ ys) [
    | inl e ↦ absurd (differ (sym e))
    | inr x_later ↦ elim (contains_cases x xs y (back y (contains_first y ys))) as (λ _. x ∷ xs ≡ y ∷ ys) [
      | inl e ↦ absurd (differ e)
      | inr y_later ↦ absurd (asymmetric x y (contains_first x xs) (contains_later x xs y y_later) differ (head_pairs R x xs y px y_later) (head_pairs R y ys x py x_later))
    ]
  ]
]

module _ {K : Type 0} (cmp : K → K → Ordering) (total : IsTotalOrder cmp) (entries : List (Option K)) where
  -- i is written before j
  abbrev Before : ℕ → ℕ → Type 0
  Before i j = (HasAnchor entries j i → ⊥) × ((HasAnchor entries i j → ⊥) → IsLess cmp entries i j)

  not_anchor : (i j : ℕ) (e : Option K) → slice_get entries i ≡ Some e → i ≢ j → (HasAnchor entries i j → ⊥) → (HasAnchor entries j i → ⊥) → (x : K) × (slice_get entries i ≡ Some (Some x))
  not_anchor i j None at differ forth back = elim (cases_lt i j) as (λ _. (x : K) × (slice_get entries i ≡ Some (Some x))) [
    | inl before ↦ absurd (forth (record { position = i; anchor = at; from = omega arith; upto = omega arith }))
    | inr after ↦ absurd (back (record { position = i; anchor = at; from = after; upto = omega arith }))
  ]
  not_anchor i j (Some x) at differ forth back = (x, at)

  less_once : (x y : K) (i j : ℕ) (o : Ordering) → cmp x y ≡ o → (o ≡ Less) ⊎ ((o ≡ Equal) × (i < j)) → (ordering_reverse o ≡ Less) ⊎ ((ordering_reverse o ≡ Equal) × (j < i)) → ⊥
  less_once x y i j Less e one (inl other) = false≢true (ap is_lt other)
  less_once x y i j Less e one (inr other) = false≢true (ap is_eq other.0)
  less_once x y i j Equal e (inl one) other = false≢true (ap is_lt one)
  less_once x y i j Equal e (inr one) (inl other) = false≢true (ap is_lt other)
  less_once x y i j Equal e (inr one) (inr other) = omega (arith, one.1, other.1)
  less_once x y i j Greater e (inl one) other = false≢true (ap is_lt one)
  less_once x y i j Greater e (inr one) other = false≢true (ap is_eq one.0)

  entry_at : (i : ℕ) → i < length entries → (e : Option K) × (slice_get entries i ≡ Some e)
  entry_at i small = elim (slice_get_cases entries i).1 as (λ _. (e : Option K) × (slice_get entries i ≡ Some e)) [
    | inl (x, inside, found, is) ↦ (x, found)
    | inr past ↦ absurd (omega (arith, past.0))
  ]

  not_both : (i j : ℕ) → i < length entries → j < length entries → i ≢ j → Before i j → Before j i → ⊥
  not_both i j i_in j_in differ one other =
      let at_i = entry_at i i_in in
      let at_j = entry_at j j_in in
      let x = not_anchor i j at_i.0 at_i.1 differ other.0 one.0 in
      let y = not_anchor j i at_j.0 at_j.1 (λ e. differ (sym e)) one.0 other.0 in
      let turned : cmp y.0 x.0 ≡ ordering_reverse (cmp x.0 y.0) = total.antisymm y.0 x.0 in
      less_once x.0 y.0 i j (cmp x.0 y.0) refl (one.1 other.0 x.0 y.0 x.1 y.1)
      (subst (λ (o : Ordering). (o ≡ Less) ⊎ ((o ≡ Equal) × (j < i))) turned (other.1 one.0 y.0 x.0 y.1 x.1))

  both_pairs : (order : List ℕ) → IsEmissionOrder cmp entries order → AllPairs Before order
  both_pairs order is = λ i j d before small. (is.anchored i j d before small, is.sorted i j d before small)

  pub one_emission_order : (a b : List ℕ) → IsEmissionOrder cmp entries a → IsEmissionOrder cmp entries b → a ≡ b
  one_emission_order a b is_a is_b =
      let all = range_with_len 0 (length entries) in
      let below : (i : ℕ) → Contains a i → i < length entries = λ i c. in_range (length entries) i (Contains-permutation a all i (IsPermutation-sym all a is_a.whole) c) in
      one_order Before a b (λ i j ci cj. not_both i j (below i ci) (below j cj))
      (λ n c. Contains-permutation all b n is_b.whole (Contains-permutation a all n (IsPermutation-sym all a is_a.whole) c))
      (λ n c. Contains-permutation all a n is_a.whole (Contains-permutation b all n (IsPermutation-sym all b is_b.whole) c))
      (distinct_permuted all a is_a.whole (distinct_range (length entries))) (distinct_permuted all b is_b.whole (distinct_range (length entries)))
      (both_pairs a is_a) (both_pairs b is_b)
