-- How an arena keeps its slots: the live items, each with its id, in one list without holes, and for each id ever given out the place
-- of its item in that list, or none.
use Rattle.std.specs.Prelude.{◌≡◌, ◌⊎◌, ℕ, ◌-◌, ◌^◌, ◌<◌, List, map, length, count_by, Option, Some, is_some, slice_get}
use Rattle.std.specs.Option.{option_map}

-- the place of an id whose item is dead
abbrev pub nowhere : ℕ
nowhere = 2 ^ 32 - 1

module _ {T : Type 0} where
  -- the item at a place, or none past the last one
  abbrev pub item_in : List (ℕ × T) → ℕ → Option T
  item_in live place = option_map (λ pair. pair.1) (slice_get live place)

  -- by id, the item while it lives
  abbrev pub slots_of : List (ℕ × T) → List ℕ → List (Option T)
  slots_of live index = map (item_in live) index

  -- the live items and the index name each other
  pub record IsDense (live : List (ℕ × T)) (index : List ℕ) : Type 0 where
    -- an item lies where the index says of its id
    pub placed : (place id : ℕ) (item : T) → slice_get live place ≡ Some (id, item) → slice_get index id ≡ Some place
    -- the index says of an id where its item lies, or nowhere
    pub found : (id place : ℕ) → slice_get index id ≡ Some place
        → (place ≡ nowhere) ⊎ ((item : T) × (slice_get live place ≡ Some (id, item)))
    pub counted : length live ≡ count_by is_some (slots_of live index)
    pub fits : length index < 2 ^ 32
