-- Lemmas: a table by number says what the runs say.
use Rattle.std.proofs.Common.{◌≡◌, ◌<◌, ◌≤◌, ◌+◌, ◌-◌, ◌&&◌, ◌⊎◌, ◌∙◌, inl, inr, nat_le, nat_lt, ℕ, Bool, true, false, List, [], ◌∷◌, length, Option, None, refl, sym, arith, ap, map, if◌then◌else◌}
use Rattle.std.specs.List.{range_with_len}
use Rattle.std.proofs.lemmas.Bool.{cases_Bool, cases_lt, leb-true, ltb-true, lt-ltb, le-ltb}
use Rattle.std.proofs.lemmas.List.{get_or_past}
use Rattle.std.proofs.lemmas.List.FromFn.{get_or-map-range_with_len, length-map-range_with_len}
use Rattle.std.proofs.Math.ListN.{get_or-map}
use Rattle.walrus_pairing.specs.declared.code_tables.numeric.Numeric.{Numeric}
use Rattle.walrus_pairing.specs.declared.code_tables.numeric.Numeric.TheVariants.{Nothing}
use Rattle.walrus_codes.specs.Runs.{Run, in_runs}
use Rattle.walrus_pairing.specs.Tables.{entry_at}

-- all runs lie between two numbers
abbrev pub within : {A : Type 0} → ℕ → ℕ → List (Run A) → Bool
within first end [] = true
within first end (r ∷ rs) = (nat_le first r.first && nat_le (r.first + length r.ops) end) && within first end rs

-- outside of these numbers
abbrev pub Outside : ℕ → ℕ → ℕ → Type 0
Outside first end n = (n < first) ⊎ (end ≤ n)

both : (a b : Bool) → (a && b) ≡ true → (a ≡ true) × (b ≡ true)
both true b e = (refl, e)
both false b e = absurd cc

apart : (first end from to n : ℕ) → first ≤ from → to ≤ end → Outside first end n → from ≤ n → n < to → ⊥
apart first end from to n lo hi (inl below) up down = omega (arith, lo, hi, below, up, down)
apart first end from to n lo hi (inr above) up down = omega (arith, lo, hi, above, up, down)

pub none_outside : {A : Type 0} (runs : List (Run A)) (first end n : ℕ) → within first end runs ≡ true → Outside first end n → in_runs runs n ≡ None
none_outside [] first end n lie out = refl
none_outside (r ∷ rs) first end n lie out =
    let parts = both (nat_le first r.first && nat_le (r.first + length r.ops) end) (within first end rs) lie in
    let ends = both (nat_le first r.first) (nat_le (r.first + length r.ops) end) parts.0 in
    elim (cases_Bool (nat_le r.first n && nat_lt n (r.first + length r.ops))) [
      | inl holds ↦
          let tests = both (nat_le r.first n) (nat_lt n (r.first + length r.ops)) holds in
          absurd (apart first end r.first (r.first + length r.ops) n (leb-true first r.first ends.0) (leb-true (r.first + length r.ops) end ends.1) out
          (leb-true r.first n tests.0) (ltb-true n (r.first + length r.ops) tests.1))
      | inr other ↦ rw other (none_outside rs first end n parts.1 out)
    ]

-- the same of runs in two parts
pub none_outside_both : {A : Type 0} (low high : List (Run A)) (bound first end n : ℕ) → within first end low ≡ true → within first end high ≡ true → Outside first end n
    → (if nat_lt n bound then in_runs low n else in_runs high n) ≡ None
none_outside_both low high bound first end n lows highs out = elim (cases_Bool (nat_lt n bound)) [
  | inl is ↦ rw is (none_outside low first end n lows out)
  | inr not ↦ rw not (none_outside high first end n highs out)
]

-- what a part of an entry is, if those of all entries are known, and there are no others
stands_at : {A : Type 0} (part : Numeric → Option A) → part Nothing ≡ None → (f : ℕ → Option A) (first size n : ℕ) (table : List Numeric)
    → map part table ≡ map f (range_with_len first size) → (Outside first (first + size) n → f n ≡ None) → part (entry_at table first n) ≡ f n
unfolding entry_at
stands_at part nothing f first size n table same outside = elim (cases_lt n first) [
  | inl below ↦ rw (lt-ltb n first below) (nothing ∙ sym (outside (inl below)))
  | inr above ↦ rw (le-ltb n first above) (sym (rw nothing at (get_or-map part table (n - first) Nothing)) ∙ rw same (elim (cases_lt (n - first) size) [
    | inl low ↦ get_or-map-range_with_len f first size (n - first) n None low (omega (arith, above))
    | inr high ↦ get_or_past (map f (range_with_len first size)) (n - first) None (rw (length-map-range_with_len f first size) high)
        ∙ sym (outside (inr (omega (arith, above, high))))
  ]))
]

pub found_at : {A : Type 0} (part : Numeric → Option A) → part Nothing ≡ None → (f : ℕ → Option A) (first size n : ℕ) (found : Numeric) (table : List Numeric)
    → found ≡ entry_at table first n → map part table ≡ map f (range_with_len first size) → (Outside first (first + size) n → f n ≡ None) → part found ≡ f n
found_at part nothing f first size n found table is same outside = ap part is ∙ stands_at part nothing f first size n table same outside
