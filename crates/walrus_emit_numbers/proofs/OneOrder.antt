-- There is one order in which functions are written.
use Rattle.std.specs.Prelude.{ℕ, suc, ◌+◌, ◌-◌, ◌^◌, ◌≡◌, ◌<◌, ◌==◌, Bool, true, false, List, [], ◌∷◌, length, map, slice_index, slice_index_or, refl}
use Rattle.std.specs.List.{sum_by}
use Rattle.std.specs.List.Sorted.{IsSorted}
use Rattle.std.specs.Ordering.{is_lt, nat_cmp, ordering_then}
use Rattle.std.specs.Cmp.{IsTotalOrder, nat_cmp_total, on_total, then_total}
use Rattle.std.proofs.Common.{ap, sym, ◌∙◌, subst, inl, inr, arith, eq-eqb}
use Rattle.std.proofs.lemmas.Bool.{cases_eq}
use Rattle.std.proofs.lemmas.Bool.Decides.{nat_tests}
use Rattle.std.proofs.lemmas.List.Sorted.{ranks_by, sorted_far, sum_by-IsPermutation}
use Rattle.std.proofs.lemmas.List.Sums.{sum_by-cons}
use Rattle.walrus_index_maps.specs.Runs.{run_from}
use Rattle.walrus_emit_numbers.specs.declared.facts.BodyFacts.{BodyFacts}
use Rattle.walrus_emit_numbers.specs.Order.{OrdersAreOne, key_cmp}

abbrev Key : Type 0
Key = ℕ × ℕ × ℕ

total : IsTotalOrder key_cmp
total = then_total (then_total (on_total (λ (k : Key). k.0) nat_cmp_total) (on_total (λ (k : Key). k.1) nat_cmp_total)) (on_total (λ (k : Key). k.2) nat_cmp_total)

-- of two keys neither of which is less the last numbers are one
tie : (a b c d e f : ℕ) → is_lt (ordering_then (ordering_then (nat_cmp c a) (nat_cmp d b)) (nat_cmp f e)) ≡ false
    → is_lt (ordering_then (ordering_then (nat_cmp a c) (nat_cmp b d)) (nat_cmp e f)) ≡ false → e ≡ f
tie a b c d e f h k = grind (arith, nat_tests)

itself : (a b c : ℕ) → is_lt (ordering_then (ordering_then (nat_cmp a a) (nat_cmp b b)) (nat_cmp c c)) ≡ false
itself a b c = grind (arith, nat_tests)

-- how often a number stands in a list
abbrev once : Bool → ℕ
once true = 1
once false = 0

abbrev times : ℕ → List ℕ → ℕ
times n xs = sum_by (λ (m : ℕ). once (m == n)) xs

times_first : (n : ℕ) (xs : List ℕ) → times n (n ∷ xs) ≡ suc (times n xs)
times_first n xs = sum_by-cons (λ (m : ℕ). once (m == n)) n xs ∙ ap (λ (b : Bool). once b + times n xs) (eq-eqb n n refl) ∙ omega arith

module _ (size function : ℕ → ℕ) where
  abbrev key : ℕ → Key
  key at = (size at, function at, at)

  -- the second isn't less
  abbrev Upto : ℕ → ℕ → Type 0
  Upto x y = is_lt (key_cmp (key y) (key x)) ≡ false

  abbrev Before : ℕ → List ℕ → Type 0
  Before x [] = Unit {0}
  Before x (y ∷ ys) = Upto x y × Before x ys

  abbrev Rise : List ℕ → Type 0
  Rise [] = Unit {0}
  Rise (x ∷ xs) = Before x xs × Rise xs

  before_of : (x : ℕ) (xs : List ℕ) → ((k : ℕ) (d : Key) → k < length (map key xs) → is_lt (key_cmp (slice_index_or (map key xs) k d) (key x)) ≡ false) → Before x xs
  before_of x [] h = tt
  before_of x (y ∷ ys) h = (h 0 (key x) (omega arith), before_of x ys (λ k d lt. h (suc k) d (omega (arith, lt))))

  tail_sorted : (x : ℕ) (xs : List ℕ) → IsSorted key_cmp (map key (x ∷ xs)) → IsSorted key_cmp (map key xs)
  tail_sorted x xs h = λ k d from upto.
      let e : suc k + 1 ≡ suc (k + 1) = omega arith in
      subst (λ (n : ℕ). is_lt (key_cmp (slice_index_or (map key (x ∷ xs)) n d) (slice_index_or (map key xs) k d)) ≡ false) e (h (suc k) d (omega arith) (omega (arith, upto)))

  rise_of : (xs : List ℕ) → IsSorted key_cmp (map key xs) → Rise xs
  rise_of [] h = tt
  rise_of (x ∷ xs) h =
      (before_of x xs (λ k d lt. sorted_far (λ (a b : Key). is_lt (key_cmp a b)) (ranks_by total (λ (k : Key). k)) (map key (x ∷ xs)) h 0 (suc k) d (omega arith) (omega (arith, lt))), rise_of xs (tail_sorted x xs h))

  -- one that stands there isn't less than the first
  least : (x n : ℕ) (xs : List ℕ) → Before x xs → 0 < times n xs → Upto x n
  least x n [] h lt = absurd (omega (arith, lt))
  least x n (y ∷ ys) h lt = elim (cases_eq y n) as (λ _. Upto x n) [
    | inl e ↦ subst (λ (m : ℕ). Upto x m) e h.0
    | inr differ ↦ least x n ys h.1 (omega (arith, lt, sum_by-cons (λ (m : ℕ). once (m == n)) y ys, ap once (apart y n differ)))
  ]
    where
      apart : (a b : ℕ) → (a ≡ b → ⊥) → (a == b) ≡ false
      apart a b h = grind (arith, nat_tests)

  least_of : (x n : ℕ) (xs : List ℕ) → Before x xs → 0 < times n (x ∷ xs) → Upto x n
  least_of x n xs h lt = least x n (x ∷ xs) (itself (size x) (function x) x, h) lt

  one : (xs ys : List ℕ) → ((n : ℕ) → times n xs ≡ times n ys) → Rise xs → Rise ys → xs ≡ ys
  one [] [] same p q = refl
  one [] (y ∷ ys) same p q = absurd (omega (arith, same y, times_first y ys))
  one (x ∷ xs) [] same p q = absurd (omega (arith, same x, times_first x xs))
  one (x ∷ xs) (y ∷ ys) same p q =
      let there : Upto x y = least_of x y xs p.0 (omega (arith, same y, times_first y ys)) in
      let back : Upto y x = least_of y x ys q.0 (omega (arith, same x, times_first x xs)) in
      let e : x ≡ y = tie (size x) (function x) (size y) (function y) x y there back in
      let first : (n : ℕ) → once (x == n) ≡ once (y == n) = λ n. ap (λ (m : ℕ). once (m == n)) e in
      let rest : xs ≡ ys = one xs ys (λ n. omega (arith, same n, first n, sum_by-cons (λ (m : ℕ). once (m == n)) x xs, sum_by-cons (λ (m : ℕ). once (m == n)) y ys)) p.1 q.1 in
      ap (λ (m : ℕ). m ∷ xs) e ∙ ap (λ (l : List ℕ). y ∷ l) rest

pub orders_are_one : OrdersAreOne
orders_are_one facts a b of_a of_b =
    let size : ℕ → ℕ = λ at. 2 ^ 64 - 1 - slice_index (map (λ (f : BodyFacts). f.size) facts) at in
    let function : ℕ → ℕ = λ at. slice_index (map (λ (f : BodyFacts). f.function) facts) at in
    let all = run_from 0 (length facts) in
    one size function a b (λ n. sum_by-IsPermutation (λ (m : ℕ). once (m == n)) all a of_a.all ∙ sym (sum_by-IsPermutation (λ (m : ℕ). once (m == n)) all b of_b.all))
    (rise_of size function a of_a.sorted) (rise_of size function b of_b.sorted)
