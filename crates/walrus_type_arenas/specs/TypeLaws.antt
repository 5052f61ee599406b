-- What the words on types and tables mean to a reader.
use Rattle.std.specs.Prelude.{◌≡◌, ◌≢◌, ℕ, ◌<◌, Bool, true, false, Some, Contains, AllPairs, MatchOption}
use Rattle.walrus_type_index.specs.walrus_items.Items.{Item, Group}
use Rattle.walrus_type_arenas.specs.Table.{Table, type_at, group_at, HasMember, latest_id}

-- each live type stands in exactly one group, once, and groups have live members alone
pub record AreGrouped (t : Table) : Type 0 where
  pub listed : (id : ℕ) (item : Item) → type_at t id ≡ Some item → (group : Group) × HasMember t id group
  pub live : (place : ℕ) (group : Group) → group_at t place ≡ Some group → (id : ℕ) → Contains group.types id
      → (item : Item) × (type_at t id ≡ Some item)
  pub one : (id p q : ℕ) (g h : Group) → group_at t p ≡ Some g → Contains g.types id → group_at t q ≡ Some h → Contains h.types id → p ≡ q
  pub once : (place : ℕ) (group : Group) → group_at t place ≡ Some group → AllPairs (λ x y. x ≢ y) group.types
  -- the types of a later group have the higher ids
  pub rising : (p q : ℕ) (g h : Group) → p < q → group_at t p ≡ Some g → group_at t q ≡ Some h
      → (i j : ℕ) → Contains g.types i → Contains h.types j → i < j

-- the id has a live type that passes, and no higher id has
pub record IsLatest (test : ℕ × Item → Bool) (t : Table) (id : ℕ) : Type 0 where
  pub item : Item
  pub live : type_at t id ≡ Some item
  pub passes : test (id, item) ≡ true
  pub latest : (other : ℕ) (x : Item) → id < other → type_at t other ≡ Some x → test (other, x) ≡ false

-- a search for the latest answers it, or nothing where none passes
abbrev pub FindsLatest : (ℕ × Item → Bool) → Table → Type 0
FindsLatest test t = MatchOption (latest_id test t)
    ((id : ℕ) (item : Item) → type_at t id ≡ Some item → test (id, item) ≡ false)
    (IsLatest test t)
