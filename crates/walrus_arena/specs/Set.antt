-- What a contract sees of a set of values under ids: an arena in which no two live items are equal.
use Rattle.std.specs.Prelude.{◌≡◌, ℕ, Bool, true, List, Option, Some, None, slice_index_or}
use Rattle.walrus_arena.specs.Arena.{Arena, item_at, lowest_id}

module _ {T : Type 0} (eq : T → T → Bool) where
  -- the live id whose item equals this value
  abbrev pub id_equal_to : T → Arena T → Option ℕ
  id_equal_to value a = lowest_id (eq value) a

  -- equal live items have one id
  abbrev pub AreDistinct : Arena T → Type 0
  AreDistinct a = (i j : ℕ) (x y : T) → item_at a i ≡ Some x → item_at a j ≡ Some y → eq x y ≡ true → i ≡ j

  -- the look-up finds for each value the live slot whose item equals it
  pub record IsIndex (find : T → Option ℕ) (slots : List (Option T)) : Type 0 where
    pub forth : (value : T) (id : ℕ) → find value ≡ Some id
        → (item : T) × (slice_index_or slots id None ≡ Some item) × (eq value item ≡ true)
    pub back : (value : T) (id : ℕ) (item : T) → slice_index_or slots id None ≡ Some item
        → eq value item ≡ true → find value ≡ Some id
