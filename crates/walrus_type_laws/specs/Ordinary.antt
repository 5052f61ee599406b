-- Groups of types as files have them.
use Rattle.std.specs.Prelude.{◌≡◌, ℕ, false, List, Option, All, length, map}
use Rattle.walrus_forms.specs.declared.record.GroupRecord.{GroupRecord}
use Rattle.walrus_forms.specs.Records.{TypeGroup, type_group}
use Rattle.walrus_types.specs.Table.{Table}
use Rattle.walrus_types.specs.Merged.{UnmarkedAreSingle}
use Rattle.walrus_types.specs.Emission.{IsEmission}

-- none of the group's types is an entry type
abbrev pub IsOrdinary : TypeGroup → Type 0
IsOrdinary group = All (λ kind. kind.entry ≡ false) group.kinds

abbrev pub AreOrdinary : List TypeGroup → Type 0
AreOrdinary groups = All IsOrdinary groups

-- records are ordinary
abbrev pub RecordsAreOrdinary : Type 0
RecordsAreOrdinary = (section : List GroupRecord) → AreOrdinary (map type_group section)

-- the group has one type where it has no mark
abbrev pub IsSingleUnmarked : TypeGroup → Type 0
IsSingleUnmarked group = group.marked ≡ false → length group.kinds ≡ 1

-- what a table is written as is ordinary, and has one type in each group without a mark where the table's groups without a mark have one member
abbrev pub EmittedAreOrdinary : Type 0
EmittedAreOrdinary = (t : Table) (out : List TypeGroup) (indices : List (Option ℕ)) → IsEmission t out indices → AreOrdinary out × (UnmarkedAreSingle t → All IsSingleUnmarked out)
