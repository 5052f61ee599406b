-- Lemmas: of so many numbers those that are among others, by flags, and by their order.
use Rattle.std.proofs.Common.{ℕ, zero, suc, ◌≡◌, ◌≢◌, ◌+◌, ◌<◌, ◌≤◌, ◌==◌, ◌||◌, Bool, true, false, List, [], ◌∷◌, ◌++◌, All, length, map, replicate, take, cond, inl, inr, refl, ap, sym, subst, ◌∙◌, arith}
use Rattle.std.specs.Prelude.{◌↔◌, Contains, Some, nat_eq, slice_get, slice_index_or, slice_set}
use Rattle.std.specs.declared.cmp.Ordering.{Ordering}
use Rattle.std.specs.declared.cmp.Ordering.TheVariants.{Less}
use Rattle.std.specs.Ordering.{nat_cmp}
use Rattle.std.specs.Cmp.{nat_cmp_total, unsigned_ties}
use Rattle.std.specs.List.{AllByRecursion, list_any, range_with_len}
use Rattle.std.specs.List.Retain.{DiffersFromLast, IsFiltered}
use Rattle.std.specs.List.Sorted.{IsPermutation, IsSorted, IsStrictlySortedBy}
use Rattle.std.proofs.lemmas.Bool.{cases_Bool, cases_eq, eq-eqb, eqb-false, eqb-true, ne_eqb}
use Rattle.std.proofs.lemmas.Cmp.{ranked}
use Rattle.std.proofs.lemmas.List.{get_or-set_same, get_or-set_other, length-set}
use Rattle.std.proofs.lemmas.List.Elements.{All-contains}
use Rattle.std.proofs.lemmas.Option.{slice_get-get_or}
use Rattle.std.proofs.lemmas.List.Filters.{dedup_is}
use Rattle.std.proofs.lemmas.List.Kept.{Contains-dedup_nat, Contains-from_dedup, IsStrictlySortedBy-dedup}
use Rattle.std.proofs.lemmas.List.Sorted.{Contains-permutation, IsPermutation-sym}
use Rattle.walrus_body_locals.specs.Named.{among, is_among, kept_numbers}
use Rattle.walrus_body_locals.proofs.DeclaringRuns.{take_length, take_one}

-- ---- by flags

abbrev pub flag : List Bool → ℕ → Bool
flag fs n = slice_index_or fs n false

pub record Flagged (count : ℕ) (ns : List ℕ) (fs : List Bool) : Type 0 where
  pub many : length fs ≡ count
  pub are : (n : ℕ) → n < count → flag fs n ≡ is_among ns n

pub none_flagged : (count : ℕ) (fs : List Bool) → fs ≡ replicate count false → Flagged count [] fs
none_flagged count fs e = record { many = ap (λ (l : List Bool). length l) e ∙ many count; are = λ n lt. ap (λ (l : List Bool). flag l n) e ∙ no_flag n count }
  where
    many : (k : ℕ) → length (replicate k false) ≡ k
    many zero = refl
    many (suc k) = ap suc (many k)

    no_flag : (n k : ℕ) → flag (replicate k false) n ≡ false
    no_flag n zero = refl
    no_flag zero (suc k) = refl
    no_flag (suc n) (suc k) = no_flag n k

or_false : (b : Bool) → b ≡ (b || (false || false))
or_false true = refl
or_false false = refl

or_true : (b : Bool) → true ≡ (b || (true || false))
or_true true = refl
or_true false = refl

among_more : (n : ℕ) (xs : List ℕ) (y : ℕ) → is_among (xs ++ y ∷ []) n ≡ (is_among xs n || ((y == n) || false))
among_more n [] y = refl
among_more n (x ∷ xs) y = ap (λ (b : Bool). (x == n) || b) (among_more n xs y) ∙ assoc (x == n) (is_among xs n) ((y == n) || false)
  where
    assoc : (a b c : Bool) → (a || (b || c)) ≡ ((a || b) || c)
    assoc true b c = refl
    assoc false b c = refl

pub flagged_more : (count at : ℕ) (ns : List ℕ) (fs gs : List Bool) → Flagged count ns fs → gs ≡ slice_set fs at true → Flagged count (ns ++ at ∷ []) gs
flagged_more count at ns fs gs h e = record {
  many = ap (λ (l : List Bool). length l) e ∙ length-set fs at true ∙ h.many;
  are = λ n lt. ap (λ (l : List Bool). flag l n) e ∙ (elim (cases_eq at n) as (λ _. flag (slice_set fs at true) n ≡ is_among (ns ++ at ∷ []) n) [
    | inl same ↦
        let inside : at < length fs = (let m = h.many in omega (arith, m, same, lt)) in
        ap (flag (slice_set fs at true)) (sym same) ∙ get_or-set_same fs at true false inside ∙ or_true (is_among ns n)
        ∙ ap (λ (b : Bool). is_among ns n || (b || false)) (sym (eq-eqb at n same)) ∙ sym (among_more n ns at)
    | inr other ↦
        get_or-set_other fs at n true false (λ q. other (sym q)) ∙ h.are n lt ∙ or_false (is_among ns n)
        ∙ ap (λ (b : Bool). is_among ns n || (b || false)) (sym (ne_eqb at n other)) ∙ sym (among_more n ns at)
  ]);
}

pub flagged_next : (count index at : ℕ) (numbers : List ℕ) (fs gs : List Bool) → slice_get numbers index ≡ Some at → Flagged count (take index numbers) fs → gs ≡ slice_set fs at true → Flagged count (take (index + 1) numbers) gs
flagged_next count index at numbers fs gs next h e =
    let more : take (index + 1) numbers ≡ take index numbers ++ at ∷ [] = ap (λ (n : ℕ). take n numbers) (let z : index + 1 ≡ suc index = omega arith in z) ∙ take_one numbers index at next in
    subst (λ (l : List ℕ). Flagged count l gs) (sym more) (flagged_more count at (take index numbers) fs gs h e)

pub flagged_are : (count : ℕ) (ns : List ℕ) (fs : List Bool) → Flagged count ns fs → fs ≡ among count ns
flagged_are count ns fs h = go fs 0 (λ n lt. ap (is_among ns) (let z : 0 + n ≡ n = omega arith in z) ∙ sym (h.are n (let m = h.many in omega (arith, m, lt)))) ∙ ap (λ (n : ℕ). map (is_among ns) (range_with_len 0 n)) h.many
  where
    go : (fs : List Bool) (from : ℕ) → ((n : ℕ) → n < length fs → is_among ns (from + n) ≡ flag fs n) → fs ≡ map (is_among ns) (range_with_len from (length fs))
    go [] from h = refl
    go (f ∷ fs) from h =
        ap (λ (b : Bool). b ∷ fs) (sym (h 0 (omega arith)) ∙ ap (is_among ns) (let z : from + 0 ≡ from = omega arith in z))
        ∙ ap (λ (l : List Bool). is_among ns from ∷ l) (go fs (from + 1) (λ n lt. ap (is_among ns) (let z : from + 1 + n ≡ from + suc n = omega arith in z) ∙ h (suc n) (omega (arith, lt))))

-- ---- by their order

-- rising numbers, from this one on, below that one
abbrev Rises : ℕ → ℕ → List ℕ → Type 0
Rises from end [] = Unit {0}
Rises from end (x ∷ xs) = (from ≤ x) × (x < end) × Rises (suc x) end xs

rises_less : (from less end : ℕ) (xs : List ℕ) → less ≤ from → Rises from end xs → Rises less end xs
rises_less from less end [] le h = tt
rises_less from less end (x ∷ xs) le h = let first = h.0 in (omega (arith, le, first), h.1, h.2)

none_in_front : (n from end : ℕ) (xs : List ℕ) → n < from → Rises from end xs → is_among xs n ≡ false
none_in_front n from end [] lt h = refl
none_in_front n from end (x ∷ xs) lt h =
    let first = h.0 in
    ap (λ (b : Bool). b || is_among xs n) (ne_eqb x n (λ e. omega (arith, e, lt, first))) ∙ none_in_front n (suc x) end xs (omega (arith, lt, first)) h.2

no_numbers : (k from at : ℕ) (test : ℕ → Bool) → ((n : ℕ) → from ≤ n → n < from + k → test n ≡ false) → [] ≡ kept_numbers at (map test (range_with_len from k))
no_numbers zero from at test h = refl
no_numbers (suc k) from at test h =
    no_numbers k (from + 1) (suc at) test (λ n le lt. h n (omega (arith, le)) (omega (arith, lt)))
    ∙ sym (ap (λ (b : Bool). kept_numbers at (b ∷ map test (range_with_len (from + 1) k))) (h from (omega arith) (omega arith)))

rising_are : (k from : ℕ) (xs : List ℕ) (test : ℕ → Bool) → Rises from (from + k) xs → ((n : ℕ) → from ≤ n → n < from + k → test n ≡ is_among xs n) → xs ≡ kept_numbers from (map test (range_with_len from k))
rising_are zero from [] test h are = refl
rising_are zero from (x ∷ xs) test h are = absurd (let a = h.0 in let b = h.1 in omega (arith, a, b))
rising_are (suc k) from [] test h are = no_numbers (suc k) from from test are
rising_are (suc k) from (x ∷ xs) test h are =
    elim (cases_eq x from) as (λ _. x ∷ xs ≡ kept_numbers from (map test (range_with_len from (suc k)))) [
      | inl e ↦
          let on : test from ≡ true = are from (omega arith) (omega arith) ∙ ap (λ (b : Bool). b || is_among xs from) (eq-eqb x from e) in
          let end : from + suc k ≡ from + 1 + k = omega arith in
          let rest : Rises (from + 1) (from + 1 + k) xs = subst (λ (n : ℕ). Rises (from + 1) n xs) end (rises_less (suc x) (from + 1) (from + suc k) xs (omega (arith, e)) h.2) in
          let later = rising_are k (from + 1) xs test rest
          (λ n le lt. are n (omega (arith, le)) (omega (arith, lt)) ∙ ap (λ (b : Bool). b || is_among xs n) (ne_eqb x n (λ q. omega (arith, q, e, le)))) in
          ap (λ (n : ℕ). n ∷ xs) e
          ∙ ap (λ (l : List ℕ). from ∷ l) (later ∙ ap (λ (n : ℕ). kept_numbers n (map test (range_with_len (from + 1) k))) (let z : from + 1 ≡ suc from = omega arith in z))
          ∙ sym (ap (λ (b : Bool). kept_numbers from (b ∷ map test (range_with_len (from + 1) k))) on)
      | inr other ↦
          let a = h.0 in
          let behind : Rises (from + 1) (from + suc k) (x ∷ xs) = (omega (arith, a, other), h.1, h.2) in
          let off : test from ≡ false = are from (omega arith) (omega arith) ∙ none_in_front from (from + 1) (from + suc k) (x ∷ xs) (omega arith) behind in
          let end : from + suc k ≡ from + 1 + k = omega arith in
          let later = rising_are k (from + 1) (x ∷ xs) test (subst (λ (n : ℕ). Rises (from + 1) n (x ∷ xs)) end behind) (λ n le lt. are n (omega (arith, le)) (omega (arith, lt))) in
          later ∙ ap (λ (n : ℕ). kept_numbers n (map test (range_with_len (from + 1) k))) (let z : from + 1 ≡ suc from = omega arith in z)
          ∙ sym (ap (λ (b : Bool). kept_numbers from (b ∷ map test (range_with_len (from + 1) k))) off)
    ]

-- ---- elements

among_from : (xs : List ℕ) (n : ℕ) → Contains xs n → is_among xs n ≡ true
among_from [] n c = absurd (let lt = c.1 in omega (arith, lt))
among_from (x ∷ xs) n (zero, lt, e) = ap (λ (b : Bool). b || is_among xs n) (eq-eqb x n e)
among_from (x ∷ xs) n (suc k, lt, e) = ap (λ (b : Bool). (x == n) || b) (among_from xs n (k, omega (arith, lt), e)) ∙ or_yes (x == n)
  where
    or_yes : (b : Bool) → (b || true) ≡ true
    or_yes true = refl
    or_yes false = refl

from_among : (xs : List ℕ) (n : ℕ) → is_among xs n ≡ true → Contains xs n
from_among [] n e = absurd cc
from_among (x ∷ xs) n e = go (x == n) refl e (from_among xs n)
  where
    go : (b : Bool) → (x == n) ≡ b → (b || is_among xs n) ≡ true → (is_among xs n ≡ true → Contains xs n) → Contains (x ∷ xs) n
    go true same e later = (0, omega arith, eqb-true x n same)
    go false same e later = let c = later e in (suc c.0, (let lt = c.1 in omega (arith, lt)), c.2)

same_among : (xs ys : List ℕ) (n : ℕ) → Contains xs n ↔ Contains ys n → is_among xs n ≡ is_among ys n
same_among xs ys n h = go (is_among xs n) (is_among ys n) refl refl
  where
    go : (b c : Bool) → is_among xs n ≡ b → is_among ys n ≡ c → b ≡ c
    go true true d e = refl
    go false false d e = refl
    go true false d e = absurd (let z = among_from ys n (h.0 (from_among xs n d)) in cc)
    go false true d e = absurd (let z = among_from xs n (h.1 (from_among ys n e)) in cc)

all_of : (P : ℕ → Type 0) (xs : List ℕ) → ((y : ℕ) → Contains xs y → P y) → AllByRecursion P xs
all_of P [] f = tt
all_of P (x ∷ xs) f = (f x (0, omega arith, refl), all_of P xs (λ y c. f y (suc c.0, (let lt = c.1 in omega (arith, lt)), c.2)))

rises_of : (xs : List ℕ) (from end : ℕ) → IsStrictlySortedBy nat_cmp xs → AllByRecursion (λ x. from ≤ x) xs → AllByRecursion (λ x. x < end) xs → Rises from end xs
unfolding IsStrictlySortedBy
rises_of [] from end h least below = tt
rises_of (x ∷ xs) from end h least below = (least.0, below.0, rises_of xs (suc x) end h.1 (behind xs h.0) below.1)
  where
    behind : (ys : List ℕ) → AllByRecursion (λ y. nat_cmp x y ≡ Less) ys → AllByRecursion (λ y. suc x ≤ y) ys
    behind [] h = tt
    behind (y ∷ ys) h = (let lt : x < y = ranked x y Less (sym h.0) in omega (arith, lt), behind ys h.1)

-- what was put in order, without repeats
pub ordered_are : (numbers sorted kept : List ℕ) → IsPermutation numbers sorted → IsSorted nat_cmp sorted → IsFiltered (DiffersFromLast nat_eq) [] sorted kept → (count : ℕ) → All (λ n. n < count) numbers → kept ≡ kept_numbers 0 (among count numbers)
ordered_are numbers sorted kept moved up filtered count below =
    let is = dedup_is nat_eq sorted kept filtered in
    let rising : IsStrictlySortedBy nat_cmp kept = subst (IsStrictlySortedBy nat_cmp) (sym is) (IsStrictlySortedBy-dedup nat_cmp_total unsigned_ties sorted up) in
    let members : (k : ℕ) → Contains kept k ↔ Contains numbers k = λ k. (
      (λ c. Contains-permutation sorted numbers k (IsPermutation-sym numbers sorted moved) (Contains-from_dedup nat_eq sorted k (subst (λ (z : List ℕ). Contains z k) is c))),
      (λ c. subst (λ (z : List ℕ). Contains z k) (sym is) (Contains-dedup_nat sorted k (Contains-permutation numbers sorted k moved c))),
    ) in
    let rises = rises_of kept 0 (0 + count) rising (all_of (λ n. 0 ≤ n) kept (λ y c. omega arith))
    (all_of (λ n. n < 0 + count) kept (λ y c. let lt = All-contains (λ n. n < count) numbers y below ((members y).0 c) in omega (arith, lt))) in
    rising_are count 0 kept (is_among numbers) rises (λ n le lt. sym (same_among kept numbers n (members n)))

-- ---- the numbers of flags, one after another

pub numbers_on : (from : ℕ) (fs gs : List Bool) → kept_numbers from (fs ++ gs) ≡ kept_numbers from fs ++ kept_numbers (from + length fs) gs
numbers_on from [] gs = ap (λ (n : ℕ). kept_numbers n gs) (let z : from ≡ from + 0 = omega arith in z)
numbers_on from (true ∷ fs) gs =
    ap (λ (l : List ℕ). from ∷ l) (numbers_on (suc from) fs gs ∙ ap (λ (n : ℕ). kept_numbers (suc from) fs ++ kept_numbers n gs) (let z : suc from + length fs ≡ from + suc (length fs) = omega arith in z))
numbers_on from (false ∷ fs) gs =
    numbers_on (suc from) fs gs ∙ ap (λ (n : ℕ). kept_numbers (suc from) fs ++ kept_numbers n gs) (let z : suc from + length fs ≡ from + suc (length fs) = omega arith in z)

-- one more
pub numbers_next : (fs : List Bool) (at : ℕ) (f : Bool) → slice_get fs at ≡ Some f → at < length fs → kept_numbers 0 (take (at + 1) fs) ≡ kept_numbers 0 (take at fs) ++ kept_numbers at (f ∷ [])
numbers_next fs at f e lt =
    ap (λ (n : ℕ). kept_numbers 0 (take n fs)) (let z : at + 1 ≡ suc at = omega arith in z) ∙ ap (kept_numbers 0) (take_one fs at f e) ∙ numbers_on 0 (take at fs) (f ∷ [])
    ∙ ap (λ (n : ℕ). kept_numbers 0 (take at fs) ++ kept_numbers n (f ∷ [])) (let size = take_length at fs (omega (arith, lt)) in omega (arith, size))

pub numbers_flagged : (fs : List Bool) (at : ℕ) (d : Bool) (ns : List ℕ) → at < length fs → ns ≡ kept_numbers 0 (take at fs) → ns ++ kept_numbers at (slice_index_or fs at d ∷ []) ≡ kept_numbers 0 (take (at + 1) fs)
numbers_flagged fs at d ns lt e = ap (λ (l : List ℕ). l ++ kept_numbers at (slice_index_or fs at d ∷ [])) e ∙ sym (numbers_next fs at (slice_index_or fs at d) (slice_get-get_or fs at d lt) lt)
