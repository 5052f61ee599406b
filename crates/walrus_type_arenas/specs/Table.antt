-- What a contract sees of a type table: the types and the groups by id, live or dead.
use Rattle.std.specs.Prelude.{◌≡◌, ◌≢◌, ℕ, suc, ◌<◌, ◌≤◌, Bool, true, false, not, ◌&&◌, ◌==◌, List, [], ◌∷◌, ◌++◌, length, map, filter, find, Contains, AllPairs, Option, Some, None, is_some, IsSome, IsTrue, MatchOption, slice_index, slice_index_or, slice_set, if◌then◌else◌}
use Rattle.std.specs.List.{list_any}
use Rattle.std.specs.Option.{option_map, option_map_or, option_and_then}
use Rattle.walrus_type_index.specs.walrus_items.walrus_arena.Arena.{entries_from}
use Rattle.walrus_type_index.specs.walrus_items.walrus_forms.declared.value.ValType.{ValType}
use Rattle.walrus_type_index.specs.walrus_items.declared.subtype.Type.{«Type» as TypeItem}
use Rattle.walrus_type_index.specs.walrus_items.declared.subtype.RecGroup.{RecGroup}
use Rattle.walrus_type_index.specs.walrus_items.walrus_forms.Forms.{is_function}
use Rattle.walrus_type_index.specs.walrus_items.walrus_forms.Kinds.{Kind, kind_names, function_kind}
use Rattle.walrus_type_index.specs.walrus_items.Items.{Item, Group, item_of, group_of, has_name}
use Rattle.walrus_type_index.specs.walrus_items.walrus_forms.Same.{same_kind}
use Rattle.walrus_type_index.specs.Ordered.{Indexed, IsHeld, is_marked}
-- whether a type of an id and kind names itself
pub use Rattle.walrus_type_index.specs.Places.{names_itself}

-- for each id ever given out, the type or the group while it lives
pub record Table : Type 0 where
  pub types : List (Option Item)
  pub groups : List (Option Group)

abbrev pub table_of : List (Option TypeItem) → List (Option RecGroup) → Table
table_of types groups = record { types = map (option_map item_of) types; groups = map (option_map group_of) groups }

-- the live type of an id
abbrev pub type_at : Table → ℕ → Option Item
type_at t id = slice_index_or t.types id None

-- the live group of an id
abbrev pub group_at : Table → ℕ → Option Group
group_at t id = slice_index_or t.groups id None

-- the id has been given out, and its type wasn't deleted
abbrev pub IsLive : Table → ℕ → Type 0
IsLive t id = IsSome (type_at t id)

-- the id has a live function type
abbrev pub IsFunctionType : Table → ℕ → Type 0
IsFunctionType t id = MatchOption (type_at t id) ⊥ (λ item. IsTrue (is_function item.kind.form))

-- the id that the next new type gets
abbrev pub next_id : Table → ℕ
next_id t = length t.types

-- the live types with their ids, by rising id
abbrev pub entries : Table → List (ℕ × Item)
entries t = entries_from 0 t.types

-- the last of these entries that passes the test, else what was found before
abbrev pub latest_in : (ℕ × Item → Bool) → Option ℕ → List (ℕ × Item) → Option ℕ
latest_in test found [] = found
latest_in test found (e ∷ es) = latest_in test (if test e then Some e.0 else found) es

-- the latest live type that passes the test
abbrev pub latest_id : (ℕ × Item → Bool) → Table → Option ℕ
latest_id test t = latest_in test None (entries t)

-- the latest final function type without supertype of just these parameters and results
abbrev pub found_type : List ValType → List ValType → Table → Option ℕ
found_type params results t = latest_id (λ e. same_kind e.1.kind (function_kind params results)) t

-- whether a new type of this kind stands for that type: the kinds are equal, and a type that names
-- itself equals no other
abbrev pub merges : Kind → ℕ × Item → Bool
merges kind e = same_kind e.1.kind kind && not (names_itself e.0 e.1.kind)

-- the type that stands for a new type of this kind: the latest equal one
abbrev pub equal_type : Kind → Table → Option ℕ
equal_type kind t = if names_itself (next_id t) kind then None else latest_id (merges kind) t

-- the lowest live type of this name
abbrev pub named_type : List ℕ → Table → Option ℕ
named_type name t = option_map (λ e. e.0) (find (λ e. has_name name e.1) (entries t))

-- a live group has the type among its members
pub record HasMember (t : Table) (id : ℕ) (group : Group) : Type 0 where
  pub place : ℕ
  pub live : group_at t place ≡ Some group
  pub listed : Contains group.types id

-- the new table has one more type, of this kind, under the next id, and a group of it alone
pub record Adds (kind : Kind) (id : ℕ) (old new : Table) : Type 0 where
  pub given : id ≡ next_id old
  pub types : new.types ≡ old.types ++ Some (record { id = id; kind = kind; name = None }) ∷ []
  pub groups : new.groups ≡ old.groups ++ Some (record { explicit = false; types = id ∷ [] }) ∷ []

-- an equal live type is answered, or else there is one more
abbrev pub Merges : Kind → ℕ → Table → Table → Type 0
Merges kind id old new = MatchOption (equal_type kind old) (Adds kind id old new) (λ found. (id ≡ found) × (new ≡ old))

-- a group after a member is deleted: an emptied group goes
abbrev pub nonempty_group : Bool → List ℕ → Option Group
nonempty_group explicit [] = None
nonempty_group explicit (id ∷ ids) = Some (record { explicit = explicit; types = id ∷ ids })

abbrev pub without_member : ℕ → Group → Option Group
without_member id group = nonempty_group group.explicit (filter (λ member. not (member == id)) group.types)

-- the type is gone, from its group too
pub record Deletes (id : ℕ) (old new : Table) : Type 0 where
  pub types : new.types ≡ slice_set old.types id None
  pub groups : (place : ℕ) (group : Group) → group_at old place ≡ Some group → Contains group.types id
      → new.groups ≡ slice_set old.groups place (without_member id group)

-- the types after those of these ids are deleted
abbrev pub clear_all : List ℕ → List (Option Item) → List (Option Item)
clear_all [] types = types
clear_all (id ∷ ids) types = clear_all ids (slice_set types id None)

-- the places of the marks that are set, counted from this one
abbrev pub marked_from : ℕ → List Bool → List ℕ
marked_from place [] = []
marked_from place (mark ∷ marks) = if mark then place ∷ marked_from (suc place) marks else marked_from (suc place) marks

-- the marked ids
abbrev pub marked : List Bool → List ℕ
marked marks = marked_from 0 marks

-- the group of the type is gone, with all its members
abbrev pub DeletesGroup : ℕ → Table → Table → Type 0
DeletesGroup id old new = (place : ℕ) (group : Group) → group_at old place ≡ Some group → Contains group.types id
    → new ≡ record { types = clear_all group.types old.types; groups = slice_set old.groups place None }

-- whether the group of this id lives and is explicit
abbrev pub is_explicit_at : List (Option Group) → ℕ → Bool
is_explicit_at groups place = option_map_or (λ group. group.explicit) (slice_index_or groups place None) false

-- whether the type is an entry type, and its home no explicit group
abbrev pub is_spared : Table → List ℕ → ℕ → Bool
is_spared t homes id = option_map_or (λ item. item.kind.entry && not (is_explicit_at t.groups (slice_index homes id))) (type_at t id) false

-- the type is an entry type in no explicit group
pub record IsSpared (t : Table) (id : ℕ) : Type 0 where
  pub item : Item
  pub live : type_at t id ≡ Some item
  pub entry : item.kind.entry ≡ true
  pub alone : (group : Group) → HasMember t id group → group.explicit ≡ true → ⊥

-- a group without its members that aren't among these types
abbrev pub with_live : List (Option Item) → Group → Option Group
with_live types group = nonempty_group group.explicit (filter (λ id. is_some (slice_index_or types id None)) group.types)

-- a group without its marked members
abbrev pub without_marked : List Bool → Group → Option Group
without_marked marks group = nonempty_group group.explicit (filter (λ id. not (is_marked marks id)) group.types)

-- those of these types that live are gone, from their groups too
pub record DeletesAll (ids : List ℕ) (old new : Table) : Type 0 where
  pub types : new.types ≡ clear_all ids old.types
  pub groups : new.groups ≡ map (option_and_then (with_live new.types)) old.groups

-- whether the type of that id, if it lives, names this one
abbrev pub is_named_at : Table → ℕ → ℕ → Bool
is_named_at t id other = option_map_or (λ item. list_any (λ name. name == id) (kind_names item.kind)) (type_at t other) false

-- whether another member of the type's group names it
abbrev pub is_named_in : Table → ℕ → Group → Bool
is_named_in t id group = list_any (λ other. not (other == id) && is_named_at t id other) group.types

-- the numbers are below the count, and never fall along the list
pub record RiseBelow (count : ℕ) (xs : List ℕ) : Type 0 where
  pub below : (i : ℕ) → i < length xs → slice_index xs i < count
  pub rising : (i j : ℕ) → i < j → j < length xs → slice_index xs i ≤ slice_index xs j

-- each live type stands in one group, its home, once, and groups have live members alone; homes never fall
-- along the ids
pub record IsGrouped (types : List (Option Item)) (groups : List (Option Group)) (homes : List ℕ) : Type 0 where
  pub sized : length homes ≡ length types
  pub listed : (id : ℕ) (item : Item) → slice_index_or types id None ≡ Some item
      → (g : Group) × (slice_index_or groups (slice_index homes id) None ≡ Some g) × Contains g.types id
  pub member : (group : ℕ) (g : Group) → slice_index_or groups group None ≡ Some g → (id : ℕ) → Contains g.types id
      → (item : Item) × (slice_index_or types id None ≡ Some item) × (slice_index homes id ≡ group)
  pub once : (group : ℕ) (g : Group) → slice_index_or groups group None ≡ Some g → AllPairs (λ x y. x ≢ y) g.types
  pub homes_rise : RiseBelow (length groups) homes

-- what holds of every table: types are grouped, and the index has those of these kinds in order, with a place for each id
pub record IsSound (lent : Option ℕ) (index : Indexed) (kinds : List (Option Kind)) (t : Table) (homes : List ℕ) : Type 0 where
  pub held : IsHeld lent index kinds
  pub grouped : IsGrouped t.types t.groups homes
