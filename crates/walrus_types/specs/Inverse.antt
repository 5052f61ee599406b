-- The types in the order in which they are written, and the index of each.
use Rattle.std.specs.Prelude.{◌≡◌, ◌↔◌, ℕ, List, Option, Some, None, slice_get, slice_index_or}

-- the id at an index and the index of an id give back one another
abbrev pub AreInverse : List ℕ → List (Option ℕ) → Type 0
AreInverse ids indices = (index id : ℕ) → (slice_get ids index ≡ Some id) ↔ (slice_index_or indices id None ≡ Some index)
