-- The types of a file in a table that may have more behind them, as bodies ask for them.
use Rattle.std.specs.Prelude.{◌≡◌, ◌≢◌, ℕ, ◌<◌, ◌≤◌, ◌⊎◌, List, ◌++◌, length, Option, Some, slice_get}
use Rattle.std.specs.List.{flat_map}
use Rattle.walrus_forms.specs.Kinds.{Kind}
use Rattle.walrus_forms.specs.Records.{TypeGroup}
use Rattle.walrus_forms.specs.Renaming.{KindBelow, at, renamed_kind}
use Rattle.walrus_types.specs.Items.{Item}
use Rattle.walrus_types.specs.Table.{Table, next_id, type_at}
use Rattle.walrus_types.specs.Parsing.{AreBelow, parsed, unparsed}
use Rattle.walrus_functions_into.specs.walrus_types_into.Into.{no_types}

-- the index names a live type of this kind, with ids in the place of its names; its id is one of those that the file's types have
pub record IsTypeAt (ids : List ℕ) (own : ℕ) (t : Table) (index : ℕ) (kind : Kind) : Type 0 where
  pub id : ℕ
  pub named : slice_get ids index ≡ Some id
  pub owned : id < own
  pub item : Item
  pub live : type_at t id ≡ Some item
  pub kind_is : item.kind ≡ renamed_kind (at ids) kind

-- each id is behind those of all indices before its own, or one of theirs
abbrev pub AreRising : List ℕ → Type 0
AreRising ids = (m n x y : ℕ) → m < n → slice_get ids m ≡ Some x → slice_get ids n ≡ Some y → (x < y) ⊎ ((k : ℕ) × (k < n) × (slice_get ids k ≡ Some y))

-- types of these kinds have these ids by their indices, and no other type has an id below `own`; each names types that are there, and
-- no type behind them is of the kind of one of them
pub record AreFiled (kinds : List Kind) (ids : List ℕ) (own : ℕ) (t : Table) : Type 0 where
  pub sized : length ids ≡ length kinds
  pub stand : (index : ℕ) (kind : Kind) → slice_get kinds index ≡ Some kind → IsTypeAt ids own t index kind
  pub only : (id : ℕ) (item : Item) → id < own → type_at t id ≡ Some item → (index : ℕ) × (slice_get ids index ≡ Some id)
  pub names : (index : ℕ) (kind : Kind) → slice_get kinds index ≡ Some kind → KindBelow (length ids) kind
  pub apart : (id other : ℕ) (x y : Item) → id < own → own ≤ other → type_at t id ≡ Some x → type_at t other ≡ Some y → x.kind ≢ y.kind
  pub rising : AreRising ids

-- the table has more types behind those before, none of them of the kind of one of those
pub record HasBehind (old new : Table) : Type 0 where
  pub more : List (Option Item)
  pub behind : new.types ≡ old.types ++ more
  pub apart : (id other : ℕ) (x y : Item) → id < next_id old → next_id old ≤ other → type_at new id ≡ Some x → type_at new other ≡ Some y → x.kind ≢ y.kind

-- groups that were read into a new table are filed there, whatever was added behind them
abbrev pub ReadTypesAreFiled : Type 0
ReadTypesAreFiled = (groups : List TypeGroup) (t : Table) → AreBelow 0 groups → HasBehind (parsed groups (unparsed no_types)).table t
    → AreFiled (flat_map (λ (g : TypeGroup). g.kinds) groups) (parsed groups (unparsed no_types)).ids (next_id (parsed groups (unparsed no_types)).table) t
