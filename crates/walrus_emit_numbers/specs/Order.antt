-- The order in which functions are written.
use Rattle.std.specs.Prelude.{ℕ, ◌≡◌, ◌-◌, ◌<◌, ◌^◌, List, length, map, slice_index, All}
use Rattle.std.specs.List.Sorted.{IsPermutation, IsSorted}
use Rattle.std.specs.Ordering.{nat_cmp, ordering_then}
use Rattle.std.specs.declared.cmp.Ordering.{Ordering}
use Rattle.walrus_index_maps.specs.Runs.{run_from}
use Rattle.walrus_emit_numbers.specs.declared.facts.BodyFacts.{BodyFacts}

-- the positions are those of facts
abbrev pub AreWithin : List BodyFacts → List ℕ → Type 0
AreWithin facts order = All (λ (at : ℕ). at < length facts) order

-- what a function is sorted by, and where its facts are: the largest first, equal ones by id
abbrev pub key_at : List BodyFacts → ℕ → ℕ × ℕ × ℕ
key_at facts at = (2 ^ 64 - 1 - slice_index (map (λ (f : BodyFacts). f.size) facts) at, slice_index (map (λ (f : BodyFacts). f.function) facts) at, at)

-- keys stand by their first number, then by their second, then by their third
abbrev pub key_cmp : ℕ × ℕ × ℕ → ℕ × ℕ × ℕ → Ordering
key_cmp x y = ordering_then (ordering_then (nat_cmp x.0 y.0) (nat_cmp x.1 y.1)) (nat_cmp x.2 y.2)

-- the position of each of the facts, once, by what it is sorted by
pub record IsOrder (facts : List BodyFacts) (order : List ℕ) : Type 0 where
  pub all : IsPermutation (run_from 0 (length facts)) order
  pub sorted : IsSorted key_cmp (map (key_at facts) order)

-- there is one
abbrev pub OrdersAreOne : Type 0
OrdersAreOne = (facts : List BodyFacts) (a b : List ℕ) → IsOrder facts a → IsOrder facts b → a ≡ b
