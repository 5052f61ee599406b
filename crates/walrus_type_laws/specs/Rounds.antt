-- A section of types that is parsed and emitted, and parsed and emitted again.
use Rattle.std.specs.Prelude.{◌≡◌, ◌↔◌, ℕ, ◌+◌, ◌<◌, Bool, not, List, [], length, map, take, Option, Some}
use Rattle.std.specs.List.{slice_get}
use Rattle.walrus_forms.specs.declared.record.GroupRecord.{GroupRecord}
use Rattle.walrus_forms.specs.Records.{TypeGroup, type_group}
use Rattle.walrus_forms.specs.Renaming.{at, renamed_kind}
use Rattle.walrus_types.specs.Table.{Table}
use Rattle.walrus_types.specs.Parsing.{Parsed, parsed, unparsed, AreBelow}
use Rattle.walrus_types.specs.Mergers.{Entry, is_single, entries_of, IsSame}
use Rattle.walrus_types.specs.Emission.{index_at, IsEmission}

abbrev pub empty_table : Table
empty_table = record { types = []; groups = [] }

-- what a new table is after a section was read into it
abbrev pub read : List TypeGroup → Parsed
read groups = parsed groups (unparsed empty_table)

-- from the index of a type of a section to its index in what is emitted, given the indices of the ids
abbrev pub index_map : List TypeGroup → List (Option ℕ) → ℕ → ℕ
index_map groups indices i = index_at indices (at (read groups).ids i)

-- the group is one of these, and its first type has this index
pub record IsGroupAt (groups : List TypeGroup) (index : ℕ) (group : TypeGroup) : Type 0 where
  pub position : ℕ
  pub there : slice_get groups position ≡ Some group
  pub before : index ≡ length (entries_of (take position groups))

-- a group with each name replaced
abbrev pub renamed_types : (ℕ → ℕ) → TypeGroup → TypeGroup
renamed_types m group = record { marked = group.marked; kinds = map (renamed_kind m) group.kinds }

-- a group is explicit in the table into which it is read, but where it is of one type without a mark
abbrev pub is_explicit : TypeGroup → Bool
is_explicit group = not (is_single group)

-- a group as that table writes it, with each name replaced
abbrev pub carried_group : (ℕ → ℕ) → TypeGroup → TypeGroup
carried_group m group = record { marked = is_explicit group; kinds = map (renamed_kind m) group.kinds }

-- m carries the types of a section, of which `same` says which stand for which, onto those of `out`
pub record IsCarried (groups : List TypeGroup) (same : List ℕ) (m : ℕ → ℕ) (out : List TypeGroup) : Type 0 where
  -- types go to one index exactly where they stand for one type
  pub one : (i j : ℕ) → i < length (entries_of groups) → j < length (entries_of groups) → (m i ≡ m j) ↔ (at same i ≡ at same j)
  -- each index is reached
  pub onto : (k : ℕ) → k < length (entries_of out) → (i : ℕ) × (i < length (entries_of groups)) × (m i ≡ k)
  -- a type goes to one of its kind, in which each name is the index that it goes to
  pub kinds : (i : ℕ) (e : Entry) → slice_get (entries_of groups) i ≡ Some e
      → (other : Entry) × (slice_get (entries_of out) (m i) ≡ Some other) × (other.kind ≡ renamed_kind m e.kind)
  -- a group whose types stand for themselves goes to a group, marked but where it is of one type without a mark, member by member
  pub whole : (index : ℕ) (group : TypeGroup) → IsGroupAt groups index group → 0 < length group.kinds → at same index ≡ index
      → IsGroupAt out (m index) (carried_group m group)
  pub members : (index : ℕ) (group : TypeGroup) → IsGroupAt groups index group → (k : ℕ) → k < length group.kinds → at same index ≡ index
      → m (index + k) ≡ m index + k

-- what is emitted after a section was read has all its types, carried by the index map
abbrev pub SectionsAreCarried : Type 0
SectionsAreCarried = (section : List GroupRecord) → AreBelow 0 (map type_group section) → (same : List ℕ) → IsSame (entries_of (map type_group section)) same
    → (out : List TypeGroup) (indices : List (Option ℕ)) → IsEmission (read (map type_group section)).table out indices
    → IsCarried (map type_group section) same (index_map (map type_group section) indices) out

-- reading what was emitted and emitting it again changes nothing
abbrev pub SecondRoundIsFirst : Type 0
SecondRoundIsFirst = (section : List GroupRecord) (out again : List TypeGroup) (indices others : List (Option ℕ))
    → IsEmission (read (map type_group section)).table out indices → IsEmission (read out).table again others
    → (again ≡ out) × ((i : ℕ) → i < length (entries_of out) → index_map out others i ≡ i)
