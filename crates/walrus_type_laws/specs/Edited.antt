-- What a table emits after adds and deletes, and what that is read back as.
use Rattle.std.specs.Prelude.{◌≡◌, ℕ, ◌<◌, true, not, ◌&&◌, ◌==◌, List, length, map, Option, Some, None}
use Rattle.std.specs.List.{range_with_len}
use Rattle.walrus_forms.specs.Kinds.{Kind}
use Rattle.walrus_forms.specs.Records.{TypeGroup}
use Rattle.walrus_forms.specs.Renaming.{renamed_kind}
use Rattle.walrus_types.specs.Items.{Group}
use Rattle.walrus_types.specs.declared.error.IrError.{IrError}
use Rattle.walrus_types.specs.declared.error.IrError.TheVariants.{Memory}
use Rattle.walrus_types.specs.Table.{Table, type_at, next_id, HasMember}
use Rattle.walrus_types.specs.TypeLaws.{AreGrouped}
use Rattle.walrus_types.specs.Merged.{IsMerged, UnmarkedAreSingle}
use Rattle.walrus_types.specs.Parsing.{Parsed}
use Rattle.walrus_types.specs.Emission.{written_kind, is_written, index_at, IsEmission, IsRefusal}
use Rattle.walrus_type_laws.specs.Rounds.{read, is_explicit}

-- a group that comes back is explicit but where it is of one type without a mark, as a group of several can be written no other way
abbrev pub group_back : (ℕ → ℕ) → Group → Group
group_back r group = record { explicit = not (not group.explicit && length group.types == 1); types = map r group.types }

abbrev pub explicit_group : TypeGroup → TypeGroup
explicit_group group = record { marked = is_explicit group; kinds = group.kinds }

-- the types of t were written at the indices that m gives, and this was read
pub record IsReadBack (t : Table) (m : ℕ → ℕ) (p : Parsed) : Type 0 where
  -- the type at an index gets this index as its id
  pub ids : p.ids ≡ range_with_len 0 (next_id p.table)
  -- a type comes back as one of its kind, in which each name is the index of its type
  pub kinds : (id : ℕ) (kind : Kind) → written_kind t id ≡ Some kind
      → type_at p.table (m id) ≡ Some (record { id = m id; kind = renamed_kind m kind; name = None })
  -- two come back as two, and no others come
  pub one : (id other : ℕ) → is_written t id ≡ true → is_written t other ≡ true → m id ≡ m other → id ≡ other
  pub onto : (k : ℕ) → k < next_id p.table → (id : ℕ) × (is_written t id ≡ true) × (m id ≡ k)
  -- its group comes back member by member
  pub groups : (id : ℕ) (group : Group) → is_written t id ≡ true → HasMember t id group → HasMember p.table (m id) (group_back m group)

-- what a table emits is read back as its types
abbrev pub EditedAreReadBack : Type 0
EditedAreReadBack = (t : Table) → AreGrouped t → IsMerged t → (out : List TypeGroup) (indices : List (Option ℕ)) → IsEmission t out indices
    → IsReadBack t (index_at indices) (read out)

-- what was read back is emitted as it was, each type at its index, but that groups of several types have a mark, which they have anyway where the table's
-- groups without a mark have one member
abbrev pub EditedAreWrittenAgain : Type 0
EditedAreWrittenAgain = (t : Table) → AreGrouped t → IsMerged t → (out again : List TypeGroup) (indices others : List (Option ℕ))
    → IsEmission t out indices → IsEmission (read out).table again others
    → (again ≡ map explicit_group out) × (UnmarkedAreSingle t → again ≡ out) × ((id : ℕ) → is_written t id ≡ true → index_at others (index_at indices id) ≡ index_at indices id)

-- and refused for want of memory alone
abbrev pub EditedAreSound : Type 0
EditedAreSound = (t : Table) → AreGrouped t → IsMerged t → (out : List TypeGroup) (indices : List (Option ℕ)) → IsEmission t out indices
    → (fault : IrError) → IsRefusal (read out).table fault → fault ≡ Memory
