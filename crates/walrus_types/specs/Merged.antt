-- What adds and deletes keep of a table, so that what it emits is read back as it was.
use Rattle.std.specs.Prelude.{◌≡◌, ℕ, ◌<◌, true, false, [], ◌∷◌, length, Contains, Some}
use Rattle.walrus_type_arenas.specs.walrus_type_index.walrus_items.Items.{Item, Group}
use Rattle.walrus_type_arenas.specs.Table.{Table, type_at, group_at, names_itself, merges}

-- the group of a type that stands alone and isn't written as a group
abbrev pub single_group : ℕ → Group
single_group id = record { explicit = false; types = id ∷ [] }

pub record IsMerged (t : Table) : Type 0 where
  -- no single type would merge with an earlier one
  pub apart : (place a b : ℕ) (x y : Item) → group_at t place ≡ Some (single_group b) → type_at t b ≡ Some y → names_itself b y.kind ≡ false
      → a < b → type_at t a ≡ Some x → merges y.kind (a, x) ≡ false
  -- an entry type is alone in its group
  pub entries : (place : ℕ) (group : Group) → group_at t place ≡ Some group → (id : ℕ) (item : Item) → Contains group.types id → type_at t id ≡ Some item
      → item.kind.entry ≡ true → group.types ≡ id ∷ []

-- groups without a mark have one member
abbrev pub UnmarkedAreSingle : Table → Type 0
UnmarkedAreSingle t = (place : ℕ) (group : Group) → group_at t place ≡ Some group → group.explicit ≡ false → length group.types ≡ 1

-- a type's own id is the id by which it is found
abbrev pub TypesHaveOwnIds : Table → Type 0
TypesHaveOwnIds t = (id : ℕ) (item : Item) → type_at t id ≡ Some item → item.id ≡ id
