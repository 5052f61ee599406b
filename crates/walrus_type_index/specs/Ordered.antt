-- What a table's index holds.
use Rattle.std.specs.Prelude.{◌≡◌, ◌≤◌, ℕ, length, Bool, true, false, not, ◌&&◌, ◌==◌, List, Option, Some, None, is_some, slice_index_or}
use Rattle.std.specs.List.{AllByRecursion, list_any}
use Rattle.std.specs.List.Sorted.{IsStrictlySortedBy}
use Rattle.walrus_items.specs.walrus_forms.Kinds.{Kind}
use Rattle.walrus_type_index.specs.Places.{Hashed, hashed_cmp, is_exactly}
use Rattle.walrus_type_index.specs.Hashes.{hash_at}

abbrev pub is_at : Option ℕ → ℕ → Bool
is_at None id = false
is_at (Some x) id = x == id

abbrev pub has : ℕ → List Hashed → Bool
has id index = list_any (λ x. x.id == id) index

abbrev pub lives_at : List (Option Kind) → ℕ → Bool
lives_at kinds id = is_some (slice_index_or kinds id None)

-- whether that id is marked; those past the marks aren't
abbrev pub is_marked : List Bool → ℕ → Bool
is_marked marks id = slice_index_or marks id false

-- ids in order, each with its type's hash
pub record IsIndex (kinds : List (Option Kind)) (index : List Hashed) : Type 0 where
  pub sorted : IsStrictlySortedBy (hashed_cmp kinds) index
  pub hashed : AllByRecursion (λ x. x.hash ≡ hash_at kinds x.id) index

-- the index has just the live types in order, the one that is lent aside, which lives
pub record IsOrdered (lent : Option ℕ) (index : List Hashed) (kinds : List (Option Kind)) : Type 0 where
  pub sorted : IsIndex kinds index
  pub listed : (id : ℕ) → has id index ≡ (lives_at kinds id && not (is_at lent id))
  pub lent_lives : (id : ℕ) → lent ≡ Some id → lives_at kinds id ≡ true

-- what an index holds, and below which number ids have a place in it
pub record Indexed : Type 0 where
  pub ids : List Hashed
  pub room : ℕ

-- it has the live types in order, the one that is lent aside, and a place for each id
pub record IsHeld (lent : Option ℕ) (index : Indexed) (kinds : List (Option Kind)) : Type 0 where
  pub ordered : IsOrdered lent index.ids kinds
  pub room : length kinds ≤ index.room

-- the last of a kind, and no later one is of it
pub record IsLast (ks : List (Option Kind)) (kind : Kind) (own : Bool) (index : List Hashed) (id : ℕ) : Type 0 where
  pub is : is_exactly ks kind own id ≡ true
  pub in_it : has id index ≡ true
  pub latest : (y : ℕ) → has y index ≡ true → is_exactly ks kind own y ≡ true → y ≤ id
