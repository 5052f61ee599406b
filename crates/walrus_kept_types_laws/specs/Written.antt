-- The types that are written of a module that was read, once what isn't kept is deleted, in words of the file's module (Core Specification, binary format: type
-- section).
use Rattle.std.specs.Prelude.{ℕ, ◌≡◌, ◌<◌, List, Contains, length, map, Option, Some, IsSome, slice_get}
use Rattle.std.specs.List.{range_with_len}
use Rattle.walrus_forms.specs.Kinds.{Kind, kind_names}
use Rattle.walrus_forms.specs.Records.{TypeGroup}
use Rattle.walrus_forms.specs.Renaming.{index_at}
use Rattle.walrus_types.specs.Emission.{IsEmission, written_kind, written_types}
use Rattle.walrus_types.specs.Items.{Item, Group}
use Rattle.walrus_types.specs.Table.{Table, group_at, type_at}
use Rattle.walrus_types.specs.TypeLaws.{AreGrouped}
use Rattle.walrus_type_laws.specs.Edits.{IsSettled}
use Rattle.walrus_meaning.specs.Meaning.{own_groups, type_ids}
use Rattle.walrus_passes.specs.Part.{TypesRest, left_of}
use Rattle.wasm_grammar.specs.States.{types_of}
use Rattle.wasm_merged_modules.specs.Merged.{ids_of, kinds_of}
use Rattle.wasm_references.specs.References.{Numbered}
use Rattle.wasm_part.specs.Written.{GroupsStand}
use Rattle.walrus_kept_types_laws.specs.Placed.{place_among, placed_indices, placed_table}

-- types as they are read: those of the file have the ids 0, 1 and on, in the order of the groups, and stand in front of those of handlers; each names types of the
-- file alone
pub record AreRead (t : Table) : Type 0 where
  pub grouped : AreGrouped t
  pub settled : IsSettled t
  pub count : ℕ
  pub first : (n : ℕ) → n < count → slice_get (type_ids t) n ≡ Some n
  pub names : (id : ℕ) (kind : Kind) → written_kind t id ≡ Some kind → (n : ℕ) → Contains (kind_names kind) n → n < count

-- what is left of types of which some are deleted: each as it was, in its group
pub record AreLeft (old new : Table) : Type 0 where
  pub places : length new.groups ≡ length old.groups
  pub only : (id : ℕ) (ty : Item) → type_at new id ≡ Some ty → type_at old id ≡ Some ty
  pub rest : (place : ℕ) (group : Group) → group_at old place ≡ Some group → (id : ℕ) → Contains group.types id → IsSome (type_at new id) → group_at new place ≡ Some (left_of new group)
  pub left : (place : ℕ) (group : Group) → group_at new place ≡ Some group → (before : Group) × (group_at old place ≡ Some before) × (group ≡ left_of new before)

-- so are those that a pass leaves
pub are_left : (stays : ℕ → Type 0) (old new : Table) → TypesRest stays old new → AreLeft old new
are_left stays old new rest = record { places = rest.places; only = rest.only; rest = rest.rest; left = rest.left }

-- a table is written by these records, which list these types; each is one that the module has, the groups are the module's, without the types that aren't
-- written, and what is read back has each type once
pub record WritesTypes (v : Numbered) (t : Table) (out : List TypeGroup) (indices : List (Option ℕ)) (written : List ℕ) : Type 0 where
  pub emitted : IsEmission t out indices
  pub types : written ≡ written_types t emitted.groups
  pub known : (n : ℕ) (kind : Kind) → written_kind t n ≡ Some kind → slice_get (types_of v.filled) n ≡ Some kind
  pub grouped : GroupsStand t v
  pub once : ids_of out ≡ range_with_len 0 (length (kinds_of out))

-- what is written of types of which some are deleted, in words of the module that has them all, where types have the places of their ids as numbers: those of
-- the file have their ids
abbrev pub KeptTypesAreWritten : Type 0
KeptTypesAreWritten = (old new : Table) (v : Numbered) → AreRead old → AreGrouped new → AreLeft old new
    → v.filled.groups ≡ own_groups old → v.types ≡ range_with_len 0 (length (types_of v.filled)) → (out : List TypeGroup) (indices : List (Option ℕ)) (e : IsEmission new out indices)
    → (let ids = type_ids old in WritesTypes v (placed_table ids new) out (placed_indices ids indices) (map (place_among ids) (written_types new e.groups)))

-- there each has the index that it has by its id
pub record PlacesHaveIndices (old : Table) (count : ℕ) (indices : List (Option ℕ)) : Type 0 where
  pub each : (k id : ℕ) → slice_get (type_ids old) k ≡ Some id → index_at (placed_indices (type_ids old) indices) k ≡ index_at indices id
  pub first : (n : ℕ) → n < count → index_at (placed_indices (type_ids old) indices) n ≡ index_at indices n

abbrev pub TypesHaveTheirIndices : Type 0
TypesHaveTheirIndices = (old : Table) (are : AreRead old) (indices : List (Option ℕ)) → PlacesHaveIndices old are.count indices
