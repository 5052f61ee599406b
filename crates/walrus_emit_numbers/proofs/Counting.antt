-- There are as many numbers as ids at most.
use Rattle.std.proofs.Common.{ℕ, zero, suc, ◌+◌, ◌<◌, ◌≤◌, ◌^◌, ◌≡◌, Bool, false, Option, Some, None, refl, ap, ◌∙◌, arith, inl, inr}
use Rattle.std.proofs.lemmas.Bool.{cases_eq, ne_eqb, eq-eqb}
use Rattle.std.specs.Prelude.{◌==◌, if◌then◌else◌, is_some}
use Rattle.walrus_index_maps.specs.Maps.{Indices, Numbering, next_numbered, no_indices, unnumbered}
use Rattle.walrus_emit_numbers.specs.Numbers.{AreCounted, IsCounted, in_turn, numbered_below, one_if}

abbrev with_number : (ℕ → Option ℕ) → ℕ → ℕ → ℕ → Option ℕ
with_number number id n other = if other == id then Some n else number other

one_at_most : (n : Option ℕ) → one_if n ≤ 1
one_at_most None = omega arith
one_at_most (Some n) = omega arith

at_most : (number : ℕ → Option ℕ) (count : ℕ) → numbered_below number count ≤ count
unfolding numbered_below
at_most number zero = omega arith
at_most number (suc count) = let one = one_at_most (number count) in let rest = at_most number count in omega (arith, one, rest)

other_stays : (number : ℕ → Option ℕ) (id n other : ℕ) → (other ≡ id → ⊥) → with_number number id n other ≡ number other
other_stays number id n other differs = ap (λ (b : Bool). if b then Some n else number other) (ne_eqb other id differs)

it_is : (number : ℕ → Option ℕ) (id n other : ℕ) → other ≡ id → with_number number id n other ≡ Some n
it_is number id n other e = ap (λ (b : Bool). if b then Some n else number other) (eq-eqb other id e)

-- ids below another one are as they were
below_it : (number : ℕ → Option ℕ) (id n count : ℕ) → count ≤ id → numbered_below (with_number number id n) count ≡ numbered_below number count
unfolding numbered_below
below_it number id n zero le = refl
below_it number id n (suc count) le =
    ap (λ (o : Option ℕ). one_if o + numbered_below (with_number number id n) count) (other_stays number id n count (λ e. omega (arith, e, le)))
    ∙ ap (λ (k : ℕ). one_if (number count) + k) (below_it number id n count (omega (arith, le)))

-- one more has a number
one_more : (number : ℕ → Option ℕ) (id n count : ℕ) → id < count → number id ≡ None → numbered_below (with_number number id n) count ≡ numbered_below number count + 1
unfolding numbered_below
one_more number id n zero lt none = absurd (omega (arith, lt))
one_more number id n (suc count) lt none = elim (cases_eq count id) as (λ _. numbered_below (with_number number id n) (suc count) ≡ numbered_below number (suc count) + 1) [
  | inl e ↦
      let first : one_if (with_number number id n count) ≡ 1 = ap one_if (it_is number id n count e) in
      let before : one_if (number count) ≡ 0 = ap one_if (ap number e ∙ none) in
      let rest = below_it number id n count (omega (arith, e)) in
      omega (arith, first, before, rest)
  | inr other ↦
      let first : one_if (with_number number id n count) ≡ one_if (number count) = ap one_if (other_stays number id n count other) in
      let rest = one_more number id n count (omega (arith, lt, other)) none in
      omega (arith, first, rest)
]

-- an id without a number is left, so there is room for one
pub has_room : (m : Numbering) (id count : ℕ) → count ≡ 2 ^ 32 → IsCounted m → id < count → m.number id ≡ None → m.given < count
has_room m id count e h lt none =
    let most = h.most count (omega (arith, e)) in
    let more = one_more m.number id 0 count lt none in
    let fits = at_most (with_number m.number id 0) count in
    omega (arith, most, more, fits)

pub counted_next : (m : Numbering) (id : ℕ) → IsCounted m → id < 2 ^ 32 → m.number id ≡ None → IsCounted (next_numbered id m)
counted_next m id h lt none = record {
  most = λ count le.
      let before = h.most count le in
      let more = one_more m.number id m.given count (omega (arith, lt, le)) none in
      omega (arith, before, more);
}

pub counted_in_turn : (m : Numbering) (id : ℕ) → IsCounted m → id < 2 ^ 32 → IsCounted (in_turn id m)
counted_in_turn m id h lt = by_number (m.number id) refl
  where
    by_number : (o : Option ℕ) → m.number id ≡ o → IsCounted (if is_some (m.number id) then m else next_numbered id m)
    by_number None e = rw e (counted_next m id h lt e)
    by_number (Some n) e = rw e h

pub counted_none : IsCounted unnumbered
counted_none = record { most = λ count le. omega arith }

pub none_counted : AreCounted no_indices
none_counted = record { types = counted_none; functions = counted_none; tables = counted_none; memories = counted_none; tags = counted_none; globals = counted_none; elements = counted_none }

-- ---- one space has other numbers

module _ (m : Indices) (n : Numbering) (h : AreCounted m) (more : IsCounted n) where
  pub with_types : AreCounted (record m { types = n })
  with_types = record { types = more; functions = h.functions; tables = h.tables; memories = h.memories; tags = h.tags; globals = h.globals; elements = h.elements }

  pub with_functions : AreCounted (record m { functions = n })
  with_functions = record { types = h.types; functions = more; tables = h.tables; memories = h.memories; tags = h.tags; globals = h.globals; elements = h.elements }

  pub with_tables : AreCounted (record m { tables = n })
  with_tables = record { types = h.types; functions = h.functions; tables = more; memories = h.memories; tags = h.tags; globals = h.globals; elements = h.elements }

  pub with_memories : AreCounted (record m { memories = n })
  with_memories = record { types = h.types; functions = h.functions; tables = h.tables; memories = more; tags = h.tags; globals = h.globals; elements = h.elements }

  pub with_tags : AreCounted (record m { tags = n })
  with_tags = record { types = h.types; functions = h.functions; tables = h.tables; memories = h.memories; tags = more; globals = h.globals; elements = h.elements }

  pub with_globals : AreCounted (record m { globals = n })
  with_globals = record { types = h.types; functions = h.functions; tables = h.tables; memories = h.memories; tags = h.tags; globals = more; elements = h.elements }

  pub with_elements : AreCounted (record m { elements = n })
  with_elements = record { types = h.types; functions = h.functions; tables = h.tables; memories = h.memories; tags = h.tags; globals = h.globals; elements = more }

pub none_is : (o : Option ℕ) → is_some o ≡ false → o ≡ None
none_is None e = refl
none_is (Some n) e = absurd cc
