-- Lemmas: entries by rising number.
use Rattle.std.specs.Prelude.{ℕ, zero, suc, ◌+◌, ◌<◌, ◌≤◌, ◌≡◌, ◌++◌, List, [], ◌∷◌, Option, Some, None, refl}
use Rattle.std.specs.List.{AllByRecursion, flat_map, range_with_len}
use Rattle.std.proofs.Common.{◌∙◌, subst, arith, inl, inr}
use Rattle.std.proofs.lemmas.Bool.{cases_lt, eq-eqb, ne_eqb}
use Rattle.wasm_named_modules.specs.Modules.{Rise, entries_below, entry_at, entry_if, some_of}

-- an entry of another number is passed over
passed : {A : Type 0} (s n : ℕ) (o : Option A) (rest : List (ℕ × A)) → (s ≡ n → ⊥) → entry_at n (entry_if s o ++ rest) ≡ entry_at n rest
passed s n None rest apart = refl
passed s n (Some x) rest apart = rw (ne_eqb s n apart) refl

taken : {A : Type 0} (n : ℕ) (o : Option A) (rest : List (ℕ × A)) → entry_at n rest ≡ None → entry_at n (entry_if n o ++ rest) ≡ o
taken n None rest none = none
taken n (Some x) rest none = rw (eq-eqb n n refl) refl

module _ {A : Type 0} (has : ℕ → Option A) where
  abbrev from : ℕ → ℕ → List (ℕ × A)
  from s count = flat_map (λ n. entry_if n (has n)) (range_with_len s count)

  none_before : (s count n : ℕ) → n < s → entry_at n (from s count) ≡ None
  none_before s zero n lt = refl
  none_before s (suc count) n lt = passed s n (has s) (from (s + 1) count) (λ is. omega (arith, is, lt)) ∙ none_before (s + 1) count n (omega (arith, lt))

  none_behind : (s count n : ℕ) → s + count ≤ n → entry_at n (from s count) ≡ None
  none_behind s zero n le = refl
  none_behind s (suc count) n le = passed s n (has s) (from (s + 1) count) (λ is. omega (arith, is, le)) ∙ none_behind (s + 1) count n (omega (arith, le))

  between : (s count n : ℕ) → s ≤ n → n < s + count → entry_at n (from s count) ≡ has n
  between s zero n le lt = absurd (omega (arith, le, lt))
  between s (suc count) n le lt = elim (cases_lt s n) as (λ _. entry_at n (from s (suc count)) ≡ has n) [
    | inl before ↦ passed s n (has s) (from (s + 1) count) (λ is. omega (arith, is, before)) ∙ between (s + 1) count n (omega (arith, before)) (omega (arith, lt))
    | inr behind ↦ subst (λ k. entry_at k (from s (suc count)) ≡ has k) (omega (arith, le, behind)) (taken s (has s) (from (s + 1) count) (none_before (s + 1) count s (omega arith)))
  ]

  pub entry_below : (count n : ℕ) → n < count → entry_at n (entries_below count has) ≡ has n
  entry_below count n lt = between 0 count n (omega arith) (omega (arith, lt))

  pub no_entry : (count n : ℕ) → count ≤ n → entry_at n (entries_below count has) ≡ None
  no_entry count n le = none_behind 0 count n (omega (arith, le))

  -- ---- they rise

  later_than : (b s : ℕ) (o : Option A) (rest : List (ℕ × A)) → b < s → AllByRecursion (λ (later : ℕ × A). b < later.0) rest → AllByRecursion (λ (later : ℕ × A). b < later.0) (entry_if s o ++ rest)
  later_than b s None rest lt h = h
  later_than b s (Some x) rest lt h = (lt, h)

  all_later : (s count b : ℕ) → b < s → AllByRecursion (λ (later : ℕ × A). b < later.0) (from s count)
  all_later s zero b lt = tt
  all_later s (suc count) b lt = later_than b s (has s) (from (s + 1) count) lt (all_later (s + 1) count b (omega (arith, lt)))

  rise_on : (s : ℕ) (o : Option A) (rest : List (ℕ × A)) → AllByRecursion (λ (later : ℕ × A). s < later.0) rest → Rise rest → Rise (entry_if s o ++ rest)
  rise_on s None rest later h = h
  rise_on s (Some x) rest later h = (later, h)

  rise_from : (s count : ℕ) → Rise (from s count)
  rise_from s zero = tt
  rise_from s (suc count) = rise_on s (has s) (from (s + 1) count) (all_later (s + 1) count s (omega arith)) (rise_from (s + 1) count)

  pub entries_rise : (count : ℕ) → Rise (entries_below count has)
  entries_rise count = rise_from 0 count

-- so does each of lists of entries
module _ {A : Type 0} (has : ℕ → List (ℕ × A)) (rise : (n : ℕ) → Rise (has n)) where
  abbrev AllRise : List (ℕ × List (ℕ × A)) → Type 0
  AllRise = AllByRecursion (λ (e : ℕ × List (ℕ × A)). Rise e.1)

  one_rises : (s : ℕ) (xs : List (ℕ × A)) (rest : List (ℕ × List (ℕ × A))) → Rise xs → AllRise rest → AllRise (entry_if s (some_of xs) ++ rest)
  one_rises s [] rest h k = k
  one_rises s (x ∷ xs) rest h k = (h, k)

  all_rise : (s count : ℕ) → AllRise (flat_map (λ n. entry_if n (some_of (has n))) (range_with_len s count))
  all_rise s zero = tt
  all_rise s (suc count) = one_rises s (has s) (flat_map (λ n. entry_if n (some_of (has n))) (range_with_len (s + 1) count)) (rise s) (all_rise (s + 1) count)

  pub each_rises : (count : ℕ) → AllRise (entries_below count (λ n. some_of (has n)))
  each_rises count = all_rise 0 count
