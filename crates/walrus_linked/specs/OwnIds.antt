-- That each item of a collection has the id by which it is found.
use Rattle.std.specs.Prelude.{◌≡◌, ℕ, [], ◌∷◌, ◌++◌, Some, None, slice_set}
use Rattle.walrus_arena.specs.Arena.{Arena, item_at, next_id}

module _ {T : Type 0} (id_of : T → ℕ) where
  -- each live item's own id is the id by which it is found
  abbrev pub HaveOwnIds : Arena T → Type 0
  HaveOwnIds a = (id : ℕ) (x : T) → item_at a id ≡ Some x → id_of x ≡ id

  -- one call changed the items, or left them. An item that was lent for writing kept its id.
  pub data Edit (old new : Arena T) : Type 0 where
    Stays : new.slots ≡ old.slots → Edit old new
    Adds : (x : T) → id_of x ≡ next_id old → new.slots ≡ old.slots ++ Some x ∷ [] → Edit old new
    Deletes : (id : ℕ) → new.slots ≡ slice_set old.slots id None → Edit old new
    Writes : (id : ℕ) (x y : T) → item_at old id ≡ Some x → id_of y ≡ id_of x → new.slots ≡ slice_set old.slots id (Some y) → Edit old new

  -- items keep the ids by which they are found
  pub record OwnIdsAreKept : Type 0 where
    pub begins : (a : Arena T) → a.slots ≡ [] → HaveOwnIds a
    pub keeps : (old new : Arena T) → Edit old new → HaveOwnIds old → HaveOwnIds new
