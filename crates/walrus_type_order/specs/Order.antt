-- The order in which the entries of a list are written: anchors keep their order, and the entries of
-- each run before, between or after anchors are sorted by key.
use Rattle.std.specs.Prelude.{◌≡◌, ℕ, ◌<◌, ◌≤◌, ◌⊎◌, List, length, Option, Some, None, slice_get, AllPairs, IsPermutation}
use Rattle.std.specs.List.{range_with_len}
use Rattle.std.specs.declared.cmp.Ordering.{Ordering}
use Rattle.std.specs.declared.cmp.Ordering.TheVariants.{Less, Equal}

-- an entry has its key, or none where it is an anchor
module _ {K : Type 0} where
  -- an anchor stands at one of these two positions or between them
  pub record HasAnchor (entries : List (Option K)) (low high : ℕ) : Type 0 where
    pub position : ℕ
    pub anchor : slice_get entries position ≡ Some None
    pub from : low ≤ position
    pub upto : position ≤ high

  -- the key of the one position is less, or they are equal and the position is
  abbrev pub IsLess : (K → K → Ordering) → List (Option K) → ℕ → ℕ → Type 0
  IsLess cmp entries i j = (x y : K) → slice_get entries i ≡ Some (Some x) → slice_get entries j ≡ Some (Some y)
      → (cmp x y ≡ Less) ⊎ ((cmp x y ≡ Equal) × (i < j))

  -- `order` has the positions of the entries as these are written
  pub record IsEmissionOrder (cmp : K → K → Ordering) (entries : List (Option K)) (order : List ℕ) : Type 0 where
    -- each position, once
    pub whole : IsPermutation (range_with_len 0 (length entries)) order
    -- no entry is written before an earlier one from which an anchor divides it
    pub anchored : AllPairs (λ i j. ¬ HasAnchor entries j i) order
    -- those that none divides are written by their keys, equal ones by position
    pub sorted : AllPairs (λ i j. ¬ HasAnchor entries i j → IsLess cmp entries i j) order
