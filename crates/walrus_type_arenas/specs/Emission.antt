-- How a table is written: its groups in order, and the index of each type that is written.
use Rattle.std.specs.Prelude.{◌≡◌, ℕ, ◌+◌, ⊤, Bool, false, List, [], ◌∷◌, length, map, filter, flat_map, Contains, Option, Some, None, IsSome, is_some, slice_get, slice_index_or, if◌then◌else◌, nat_lt}
use Rattle.std.specs.List.{list_any, filter_map}
use Rattle.std.specs.Option.{option_map_or, option_or, option_and_then}
use Rattle.walrus_type_index.specs.walrus_items.walrus_arena.Arena.{entries_from}
use Rattle.walrus_type_order.specs.Order.{IsEmissionOrder}
use Rattle.walrus_type_arenas.specs.declared.error.IrError.{IrError}
use Rattle.walrus_type_arenas.specs.declared.error.IrError.TheVariants.{Memory, WrongCount, Dead, EntryOnly, Later}
use Rattle.walrus_type_index.specs.walrus_items.walrus_forms.Kinds.{Kind, kind_names}
use Rattle.walrus_type_index.specs.walrus_items.walrus_forms.Order.{kind_cmp}
use Rattle.walrus_type_index.specs.walrus_items.walrus_forms.Records.{TypeGroup}
use Rattle.walrus_type_index.specs.walrus_items.walrus_forms.Renaming.{renamed_kind}
pub use Rattle.walrus_type_index.specs.walrus_items.walrus_forms.Renaming.{index_at}
use Rattle.walrus_type_index.specs.walrus_items.Items.{Item, Group}
use Rattle.walrus_type_arenas.specs.Table.{Table, type_at}

-- the kind of a type that is written: one that lives and isn't an entry type
abbrev pub shown_kind : Kind → Option Kind
shown_kind kind = if kind.entry then None else Some kind

abbrev pub written_kind : Table → ℕ → Option Kind
written_kind t id = option_and_then (λ item. shown_kind item.kind) (type_at t id)

abbrev pub is_written : Table → ℕ → Bool
is_written t id = is_some (written_kind t id)

-- the groups with a type that is written, by rising id
abbrev pub written_groups : Table → List Group
written_groups t = filter (λ group. list_any (is_written t) group.types) (map (λ e. e.1) (entries_from 0 t.groups))

-- the kind by which a single type that names no type is sorted; explicit groups and single types that
-- name a type are anchors and have none
abbrev pub loose_kind : List ℕ → Kind → Option Kind
loose_kind [] kind = Some kind
loose_kind (name ∷ names) kind = None

abbrev pub single_kind : (ℕ → Option Item) → List ℕ → Option Kind
single_kind item_at (id ∷ []) = option_map_or (λ item. loose_kind (kind_names item.kind) item.kind) (item_at id) None
single_kind item_at ids = None

abbrev pub key_of : Table → Group → Option Kind
key_of t group = if group.explicit then None else single_kind (type_at t) group.types

-- what stands where there is no group
abbrev pub no_group : Group
no_group = record { explicit = false; types = [] }

-- these are the groups of a table as they are written
pub record AreInOrder (t : Table) (groups : List Group) : Type 0 where
  pub order : List ℕ
  pub ordered : IsEmissionOrder kind_cmp (map (key_of t) (written_groups t)) order
  pub places : groups ≡ map (λ i. slice_index_or (written_groups t) i no_group) order

-- the types of a group, of these groups, that are written
abbrev pub written_in : Table → Group → List ℕ
written_in t group = filter (is_written t) group.types

abbrev pub written_types : Table → List Group → List ℕ
written_types t groups = flat_map (written_in t) groups

-- the index of each type is its place in the list, and types that aren't in it have none
pub record AreIndices (count : ℕ) (types : List ℕ) (indices : List (Option ℕ)) : Type 0 where
  pub sized : length indices ≡ count
  pub place : (id index : ℕ) → slice_index_or indices id None ≡ Some index → slice_get types index ≡ Some id
  pub each : (id : ℕ) → Contains types id → IsSome (slice_index_or indices id None)

-- what is wrong with a type that a group names which ends before the index `end`: it is dead, an entry
-- type, or past the group
abbrev pub fault_at : Table → (ℕ → ℕ) → ℕ → ℕ → Option IrError
fault_at t index end name =
    option_map_or (λ item. if item.kind.entry then Some EntryOnly else if nat_lt (index name) end then None else Some Later) (type_at t name) (Some Dead)

-- what is wrong with the first of these names with which anything is
abbrev pub first_fault : (ℕ → Option IrError) → List ℕ → Option IrError
first_fault fault [] = None
first_fault fault (name ∷ names) = option_or (fault name) (first_fault fault names)

-- the types that the written types of a group name, in their order
abbrev pub group_names : Table → Group → List ℕ
group_names t group = flat_map kind_names (filter_map (written_kind t) group.types)

-- what is wrong with the first name in these groups with which anything is, where the first group
-- begins at the index `start`
abbrev pub groups_fault : Table → (ℕ → ℕ) → ℕ → List Group → Option IrError
groups_fault t index start [] = None
groups_fault t index start (group ∷ groups) =
    option_or (first_fault (fault_at t index (start + length (written_in t group))) (group_names t group)) (groups_fault t index (start + length (written_in t group)) groups)

-- a group as it is written: its types' kinds, in which each type is named by its index
abbrev pub described_group : Table → (ℕ → ℕ) → Group → TypeGroup
described_group t index group = record { marked = group.explicit; kinds = map (renamed_kind index) (filter_map (written_kind t) group.types) }

-- these are the groups of a table as they are written, and the indices of their types
pub record AreArranged (t : Table) (groups : List Group) (indices : List (Option ℕ)) : Type 0 where
  pub in_order : AreInOrder t groups
  pub indexed : AreIndices (length t.types) (written_types t groups) indices

-- the records by which a table is written, and the indices of its types
pub record IsEmission (t : Table) (records : List TypeGroup) (indices : List (Option ℕ)) : Type 0 where
  pub groups : List Group
  pub arranged : AreArranged t groups indices
  pub sound : groups_fault t (index_at indices) 0 groups ≡ None
  pub described : records ≡ map (described_group t (index_at indices)) groups

-- a table isn't written for this fault, the first in its groups as they would be
pub record HasFault (t : Table) (fault : IrError) : Type 0 where
  pub groups : List Group
  pub indices : List (Option ℕ)
  pub arranged : AreArranged t groups indices
  pub found : groups_fault t (index_at indices) 0 groups ≡ Some fault

-- why a table isn't written: a fault, or want of memory, of which nothing is said
abbrev pub IsRefusal : Table → IrError → Type 0
IsRefusal t Memory = ⊤
IsRefusal t WrongCount = ⊥
IsRefusal t Dead = HasFault t Dead
IsRefusal t EntryOnly = HasFault t EntryOnly
IsRefusal t Later = HasFault t Later
