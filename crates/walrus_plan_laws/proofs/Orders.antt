-- Lemmas: functions with bodies, in the order in which emission writes them.
use Rattle.std.specs.Prelude.{ℕ, zero, suc, ◌+◌, ◌-◌, ◌<◌, ◌≤◌, ◌^◌, ◌≡◌, ◌⊎◌, ◌==◌, Bool, true, false, cond, List, [], ◌∷◌, length, map, Some, slice_get, slice_index, slice_index_or, refl}
use Rattle.std.specs.List.Sorted.{IsPermutation}
use Rattle.std.specs.Option.{option_map}
use Rattle.std.specs.Ordering.{is_lt, nat_cmp, ordering_then}
use Rattle.std.specs.declared.cmp.Ordering.{Ordering}
use Rattle.std.specs.declared.cmp.Ordering.TheVariants.{Less, Equal, Greater}
use Rattle.std.proofs.Common.{ap, sym, ◌∙◌, subst, arith, inl, inr, true≢false}
use Rattle.std.proofs.lemmas.Bool.{cases_eq, cases_lt, eq-eqb, le-ltb, lt-ltb}
use Rattle.std.proofs.lemmas.List.Sorted.{Contains-permutation, IsPermutation-map, IsPermutation-sym}
use Rattle.std.proofs.lemmas.Option.{get_or_from_slice_get, none-some, same_Some, slice_get-map, slice_get_within}
use Rattle.walrus_index_maps.specs.Runs.{run_from}
use Rattle.walrus_emit_numbers.specs.declared.facts.BodyFacts.{BodyFacts}
use Rattle.walrus_emit_numbers.specs.Numbers.{functions_at}
use Rattle.walrus_emit_numbers.specs.Order.{IsOrder, key_at, key_cmp}
use Rattle.walrus_plan_laws.proofs.Counts.{moved_apart}
use Rattle.walrus_plan_laws.proofs.Lists.{Apart, In, RiseFrom, apart_once, contains_at, in_contains, in_later}

-- ---- positions

map_shifted : (f : ℕ → ℕ) (k n : ℕ) → map f (run_from (suc k) n) ≡ map (λ i. f (suc i)) (run_from k n)
map_shifted f k zero = refl
map_shifted f k (suc n) = ap (λ (l : List ℕ). f (suc k) ∷ l) (map_shifted f (suc k) n)

all_read : (ns : List ℕ) → map (λ (at : ℕ). slice_index ns at) (run_from 0 (length ns)) ≡ ns
all_read [] = refl
all_read (n ∷ ns) = ap (λ (l : List ℕ). n ∷ l) (map_shifted (λ (at : ℕ). slice_index (n ∷ ns) at) 0 (length ns) ∙ all_read ns)

in_run : (k n p : ℕ) → In (run_from k n) p → p < k + n
in_run k zero p (i, e) = absurd (none-some p e)
in_run k (suc n) p (zero, e) = let same : k ≡ p = same_Some k p e in omega (arith, same)
in_run k (suc n) p (suc i, e) = let rest = in_run (suc k) n p (i, e) in omega (arith, rest)

run_has : (k n p : ℕ) → k ≤ p → p < k + n → In (run_from k n) p
run_has k zero p le lt = absurd (omega (arith, le, lt))
run_has k (suc n) p le lt = elim (cases_eq k p) as (λ _. In (run_from k (suc n)) p) [
  | inl e ↦ (zero, ap (λ (j : ℕ). Some j) e)
  | inr differs ↦ in_later k p (run_from (suc k) n) (run_has (suc k) n p (omega (arith, le, differs)) (omega (arith, lt)))
]

length_mapped : {A : Type 0} (f : A → ℕ) (xs : List A) → length (map f xs) ≡ length xs
length_mapped f [] = refl
length_mapped f (x ∷ xs) = ap (λ (n : ℕ). suc n) (length_mapped f xs)

-- ---- keys

cmp_less : (x y : ℕ) → x < y → Less ≡ nat_cmp x y
cmp_less x y lt = sym (ap (λ (b : Bool). cond b Less (cond (x == y) Equal Greater)) (lt-ltb x y lt))

cmp_equal : (x y : ℕ) → x ≡ y → Equal ≡ nat_cmp x y
cmp_equal x y e = sym (ap (λ (b : Bool). cond b Less (cond (x == y) Equal Greater)) (le-ltb x y (omega (arith, e))) ∙ ap (λ (b : Bool). cond b Equal Greater) (eq-eqb x y e))

less_is : (a' a b' b c' c : ℕ) → Less ≡ nat_cmp a' a → is_lt (ordering_then (ordering_then (nat_cmp a' a) (nat_cmp b' b)) (nat_cmp c' c)) ≡ true
less_is a' a b' b c' c e = sym (ap (λ (o : Ordering). is_lt (ordering_then (ordering_then o (nat_cmp b' b)) (nat_cmp c' c))) e)

second_is : (a' a b' b c' c : ℕ) → Equal ≡ nat_cmp a' a → Less ≡ nat_cmp b' b → is_lt (ordering_then (ordering_then (nat_cmp a' a) (nat_cmp b' b)) (nat_cmp c' c)) ≡ true
second_is a' a b' b c' c e f =
    sym (ap (λ (o : Ordering). is_lt (ordering_then (ordering_then Equal o) (nat_cmp c' c))) f
    ∙ ap (λ (o : Ordering). is_lt (ordering_then (ordering_then o (nat_cmp b' b)) (nat_cmp c' c))) e)

-- a key that isn't below another
key_le : (a b c a' b' c' : ℕ) → is_lt (key_cmp (a', b', c') (a, b, c)) ≡ false → (a < a') ⊎ ((a ≡ a') × (b ≤ b'))
key_le a b c a' b' c' h = elim (cases_lt a' a) as (λ _. (a < a') ⊎ ((a ≡ a') × (b ≤ b'))) [
  | inl lt ↦ absurd (true≢false (sym (less_is a' a b' b c' c (cmp_less a' a lt)) ∙ h))
  | inr ge ↦ elim (cases_eq a a') as (λ _. (a < a') ⊎ ((a ≡ a') × (b ≤ b'))) [
    | inl e ↦ elim (cases_lt b' b) as (λ _. (a < a') ⊎ ((a ≡ a') × (b ≤ b'))) [
      | inl lt ↦ absurd (true≢false (sym (second_is a' a b' b c' c (cmp_equal a' a (sym e)) (cmp_less b' b lt)) ∙ h))
      | inr le ↦ inr (e, omega (arith, le))
    ]
    | inr differs ↦ inl (omega (arith, ge, differs))
  ]
]

flipped : (top x y : ℕ) → x < top → y < top → top - 1 - x < top - 1 - y → y < x
flipped top x y p q lt = omega (arith, p, q, lt)

flipped_same : (top x y : ℕ) → x < top → y < top → top - 1 - x ≡ top - 1 - y → x ≡ y
flipped_same top x y p q e = omega (arith, p, q, e)

-- ---- larger functions first, those of one size by number

module _ (size_of : ℕ → ℕ) where
  -- the one stands before the other, or it is the other
  abbrev pub Before : ℕ → ℕ → Type 0
  Before k n = (size_of n < size_of k) ⊎ ((size_of k ≡ size_of n) × (k ≤ n))

  before_far : (k m n : ℕ) → Before k m → Before m n → Before k n
  before_far k m n (inl p) (inl q) = inl (omega (arith, p, q))
  before_far k m n (inl p) (inr q) = inl (omega (arith, p, q.0))
  before_far k m n (inr p) (inl q) = inl (omega (arith, p.0, q))
  before_far k m n (inr p) (inr q) = inr (p.0 ∙ q.0, omega (arith, p.1, q.1))

  abbrev Neighbours : List ℕ → Type 0
  Neighbours ns = (i k n : ℕ) → slice_get ns i ≡ Some k → slice_get ns (suc i) ≡ Some n → Before k n

  from_first : (m : ℕ) (ns : List ℕ) → Neighbours (m ∷ ns) → (j n : ℕ) → slice_get ns j ≡ Some n → Before m n
  from_first m [] near j n e = absurd (none-some n e)
  from_first m (x ∷ ns) near zero n e = near zero m n refl e
  from_first m (x ∷ ns) near (suc j) n e = before_far m x n (near zero m x refl refl) (from_first x ns (λ i k n p q. near (suc i) k n p q) j n e)

  all_before : (ns : List ℕ) → Neighbours ns → (i j k n : ℕ) → i < j → slice_get ns i ≡ Some k → slice_get ns j ≡ Some n → Before k n
  all_before [] near i j k n lt p q = absurd (none-some k p)
  all_before (m ∷ ns) near zero zero k n lt p q = absurd (omega (arith, lt))
  all_before (m ∷ ns) near zero (suc j) k n lt p q = subst (λ (x : ℕ). Before x n) (same_Some m k p) (from_first m ns near j n q)
  all_before (m ∷ ns) near (suc i) zero k n lt p q = absurd (omega (arith, lt))
  all_before (m ∷ ns) near (suc i) (suc j) k n lt p q = all_before ns (λ i k n p q. near (suc i) k n p q) i j k n (omega (arith, lt)) p q

module _ (facts : List BodyFacts) (order : List ℕ) (is : IsOrder facts order) where
  abbrev ids : List ℕ
  ids = map (λ (f : BodyFacts). f.function) facts

  abbrev sizes : List ℕ
  sizes = map (λ (f : BodyFacts). f.size) facts

  abbrev ordered : List ℕ
  ordered = functions_at facts order

  pub moved : IsPermutation ids ordered
  moved =
      let read = λ (at : ℕ). slice_index ids at in
      let long : length facts ≡ length ids = sym (length_mapped (λ (f : BodyFacts). f.function) facts) in
      subst (λ (l : List ℕ). IsPermutation l ordered) (ap (λ (n : ℕ). map read (run_from 0 n)) long ∙ all_read ids) (IsPermutation-map read (run_from 0 (length facts)) order is.all)

  pub ordered_apart : (k : ℕ) → RiseFrom k ids → Apart ordered
  ordered_apart k rise = moved_apart k ids ordered rise moved

  contains_in : (xs ys : List ℕ) (n : ℕ) → IsPermutation xs ys → In xs n → In ys n
  contains_in xs ys n moved at = in_contains ys n (Contains-permutation xs ys n moved (contains_at xs at.0 n at.1))

  pub in_ordered : (n : ℕ) → In ids n → In ordered n
  in_ordered n at = contains_in ids ordered n moved at

  pub ordered_in : (n : ℕ) → In ordered n → In ids n
  ordered_in n at = contains_in ordered ids n (IsPermutation-sym ids ordered moved) at

  pub in_order : (p : ℕ) → p < length facts → In order p
  in_order p lt = contains_in (run_from 0 (length facts)) order p is.all (run_has 0 (length facts) p (omega arith) (omega (arith, lt)))

  within : (p : ℕ) → In order p → p < length facts
  within p at =
      let run = run_from 0 (length facts) in
      let lt = in_run 0 (length facts) p (contains_in order run p (IsPermutation-sym run order is.all) at) in
      omega (arith, lt)

  -- the size of each function, and the bound of each
  module _ (size_of : ℕ → ℕ) (sized : (at : ℕ) → at < length facts → size_of (slice_index ids at) ≡ slice_index sizes at) (fits : (at : ℕ) → at < length facts → slice_index sizes at < 2 ^ 64) where
    near_keys : (p q : ℕ) → p < length facts → q < length facts → is_lt (key_cmp (key_at facts q) (key_at facts p)) ≡ false → Before size_of (slice_index ids p) (slice_index ids q)
    near_keys p q a b h = go (key_le (2 ^ 64 - 1 - slice_index sizes p) (slice_index ids p) p (2 ^ 64 - 1 - slice_index sizes q) (slice_index ids q) q h)
      where
        go : (2 ^ 64 - 1 - slice_index sizes p < 2 ^ 64 - 1 - slice_index sizes q) ⊎ ((2 ^ 64 - 1 - slice_index sizes p ≡ 2 ^ 64 - 1 - slice_index sizes q) × (slice_index ids p ≤ slice_index ids q))
            → Before size_of (slice_index ids p) (slice_index ids q)
        go (inl lt) =
            let less = flipped (2 ^ 64) (slice_index sizes p) (slice_index sizes q) (fits p a) (fits q b) lt in
            inl (omega (arith, less, sized p a, sized q b))
        go (inr e) =
            let same = flipped_same (2 ^ 64) (slice_index sizes p) (slice_index sizes q) (fits p a) (fits q b) e.0 in
            inr (sized p a ∙ same ∙ sym (sized q b), e.1)

    key_read : (i p : ℕ) (d : ℕ × ℕ × ℕ) → slice_get order i ≡ Some p → slice_index_or (map (key_at facts) order) i d ≡ key_at facts p
    key_read i p d e = get_or_from_slice_get (map (key_at facts) order) i (key_at facts p) d (slice_get-map (key_at facts) order i ∙ ap (option_map (key_at facts)) e)

    mapped : (f : ℕ → ℕ) (xs : List ℕ) (i k : ℕ) → slice_get (map f xs) i ≡ Some k → (p : ℕ) × ((slice_get xs i ≡ Some p) × (f p ≡ k))
    mapped f [] i k e = absurd (none-some k e)
    mapped f (x ∷ xs) zero k e = (x, (refl, same_Some (f x) k e))
    mapped f (x ∷ xs) (suc i) k e = mapped f xs i k e

    near : (i k n : ℕ) → slice_get ordered i ≡ Some k → slice_get ordered (suc i) ≡ Some n → Before size_of k n
    near i k n e f =
        let read = λ (at : ℕ). slice_index ids at in
        let p = mapped read order i k e in
        let q = mapped read order (suc i) n f in
        let far : suc i < length order = slice_get_within order (suc i) q.0 q.1.0 in
        let d = key_at facts 0 in
        let long : length (map (key_at facts) order) ≡ length order = keys_long order in
        let more : i + 1 ≡ suc i = omega arith in
        let at : is_lt (key_cmp (slice_index_or (map (key_at facts) order) (suc i) d) (slice_index_or (map (key_at facts) order) i d)) ≡ false =
        subst (λ (j : ℕ). is_lt (key_cmp (slice_index_or (map (key_at facts) order) j d) (slice_index_or (map (key_at facts) order) i d)) ≡ false) more (is.sorted i d (omega arith) (omega (arith, far, long))) in
        let keys : is_lt (key_cmp (key_at facts q.0) (key_at facts p.0)) ≡ false =
        sym (ap (λ (x : ℕ × ℕ × ℕ). is_lt (key_cmp x (slice_index_or (map (key_at facts) order) i d))) (key_read (suc i) q.0 d q.1.0)
        ∙ ap (λ (x : ℕ × ℕ × ℕ). is_lt (key_cmp (key_at facts q.0) x)) (key_read i p.0 d p.1.0)) ∙ at in
        subst (λ (x : ℕ). Before size_of x n) p.1.1
        (subst (λ (y : ℕ). Before size_of (read p.0) y) q.1.1 (near_keys p.0 q.0 (within p.0 (i, p.1.0)) (within q.0 (suc i, q.1.0)) keys))
      where
        keys_long : (ps : List ℕ) → length (map (key_at facts) ps) ≡ length ps
        keys_long [] = refl
        keys_long (p ∷ ps) = ap (λ (n : ℕ). suc n) (keys_long ps)

    -- each before the next ones
    pub functions_ordered : (k : ℕ) → RiseFrom k ids → (i j x y : ℕ) → i < j → slice_get ordered i ≡ Some x → slice_get ordered j ≡ Some y → (size_of y < size_of x) ⊎ ((size_of x ≡ size_of y) × (x < y))
    functions_ordered k rise i j x y lt e f = go (all_before size_of ordered near i j x y lt e f)
      where
        differ : x ≡ y → ⊥
        differ same = let once : i ≡ j = apart_once ordered (ordered_apart k rise) i j y (e ∙ ap (λ (n : ℕ). Some n) same) f in omega (arith, lt, once)

        go : Before size_of x y → (size_of y < size_of x) ⊎ ((size_of x ≡ size_of y) × (x < y))
        go (inl less) = inl less
        go (inr h) = inr (h.0, strict h.1)
          where
            strict : x ≤ y → x < y
            strict le = go_on (cases_eq x y)
              where
                go_on : (x ≡ y) ⊎ (x ≡ y → ⊥) → x < y
                go_on (inl same) = absurd (differ same)
                go_on (inr other) = omega (arith, le, other)
