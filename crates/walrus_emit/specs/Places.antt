-- Where code stands in what was written.
use Rattle.std.specs.Prelude.{ℕ, ◌+◌, ◌≡◌, ◌≤◌, ◌↔◌, List, Contains, map}
use Rattle.std.specs.List.Sorted.{IsPermutation, IsSortedByKey, IsStrictlySortedBy}
use Rattle.std.specs.Ordering.{nat_cmp}
use Rattle.std.specs.declared.ops.Range.{Range}
use Rattle.walrus_instr.specs.declared.seq.InstrLocId.{InstrLocId}
use Rattle.walrus_sections.specs.declared.transform.CodeTransform.{CodeTransform}

-- an operator of the location stands at this place, and none of it further on
pub record IsLastPlace (locations : List (ℕ × ℕ)) (location at : ℕ) : Type 0 where
  pub stands : Contains locations (location, at)
  pub last : (other : ℕ) → Contains locations (location, other) → other ≤ at

-- places are counted from there
pub record IsPlaceOf (locations : List (ℕ × ℕ)) (start : ℕ) (p : InstrLocId × ℕ) : Type 0 where
  pub at : ℕ
  pub counted : p.1 ≡ start + at
  pub last : IsLastPlace locations p.0.0 at

-- of each location its last place, by rising location
pub record ArePlaces (locations : List (ℕ × ℕ)) (start : ℕ) (found : List (InstrLocId × ℕ)) : Type 0 where
  pub rising : IsStrictlySortedBy nat_cmp (map (λ (p : InstrLocId × ℕ). p.0.0) found)
  pub each : (p : InstrLocId × ℕ) → Contains found p ↔ IsPlaceOf locations start p

-- a range of places that are counted from there
abbrev pub range_from : ℕ → ℕ × Range ℕ → ℕ × Range ℕ
range_from start r = (r.0, record { start = start + r.1.start; end = start + r.1.end })

-- the same functions, by rising id, each with its range
pub record AreRanges (ranges : List (ℕ × Range ℕ)) (start : ℕ) (found : List (ℕ × Range ℕ)) : Type 0 where
  pub same : IsPermutation (map (range_from start) ranges) found
  pub rising : IsSortedByKey (λ (r : ℕ × Range ℕ). r.0) nat_cmp found

-- where the operators of these locations and these bodies stand, which are counted from there
pub record Tells (locations : List (ℕ × ℕ)) (ranges : List (ℕ × Range ℕ)) (start : ℕ) (transform : CodeTransform) : Type 0 where
  pub map : ArePlaces locations start transform.instruction_map.items
  pub bodies : AreRanges ranges start transform.function_ranges.items
  pub begins : transform.code_section_start ≡ start
