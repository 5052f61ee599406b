-- The name of one item of a collection.
use Rattle.std.specs.Prelude.{ℕ, ◌≡◌, ◌==◌, List, Option, Some, map, if◌then◌else◌}
use Rattle.std.specs.Option.{option_map}
use Rattle.walrus_arena.specs.Arena.{Arena, item_at}

-- the name that an item has, where that of this id is given another
abbrev pub renamed : ℕ → List ℕ → ℕ → Option (List ℕ) → Option (List ℕ)
renamed id name other found = if id == other then Some name else found

-- the items without their names
abbrev pub bare_items : {T : Type 0} → (T → T) → Arena T → Arena T
bare_items bare a = record a { slots = map (option_map bare) a.slots }

-- the item of the id has the name, if there is one; names aside all is as it was
pub record IsCalled {T : Type 0} (called : T → Option (List ℕ)) (bare : T → T) (id : ℕ) (name : List ℕ) (old new : Arena T) : Type 0 where
  pub names : (other : ℕ) → option_map called (item_at new other) ≡ option_map (renamed id name other) (option_map called (item_at old other))
  pub same : bare_items bare new ≡ bare_items bare old
