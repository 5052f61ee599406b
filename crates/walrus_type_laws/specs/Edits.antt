-- What the calls that change a table do, and what they keep.
use Rattle.std.specs.Prelude.{◌≡◌, ℕ, true, List, [], map, Some, slice_set, Vec, Result, Ok, Err, IfOk, OnOk, OnErr}
use Rattle.std.specs.declared.alloc.Global.{Global}
use Rattle.walrus_types.specs.declared.error.IrError.{IrError}
use Rattle.walrus_types.specs.declared.group.NewType.{NewType}
use Rattle.walrus_forms.specs.Kinds.{Kind}
use Rattle.walrus_forms.specs.Records.{TypeGroup}
use Rattle.walrus_types.specs.Items.{Item}
use Rattle.walrus_types.specs.Groups.{member_kind, AddsGroup, IsBuilt}
use Rattle.walrus_types.specs.Table.{Table, type_at, IsLive, Merges, Deletes, DeletesGroup, DeletesAll as AllGo}
use Rattle.walrus_types.specs.Pairs.{MergesBoth}
use Rattle.walrus_types.specs.Parsing.{parsed, unparsed, IsPartOf}
use Rattle.walrus_types.specs.TypeLaws.{AreGrouped}
use Rattle.walrus_types.specs.Merged.{IsMerged, UnmarkedAreSingle, TypesHaveOwnIds}
use Rattle.walrus_type_laws.specs.Ordinary.{AreOrdinary}

-- one call changed the table, or left it. Of a type that was lent for writing its name alone was written.
pub data Edit (old new : Table) : Type 0 where
  Stays : new ≡ old → Edit old new
  Adds : (kind : Kind) (id : ℕ) → Merges kind id old new → Edit old new
  AddsBoth : (first second : Kind) (id other : ℕ) → MergesBoth first id second other old new → Edit old new
  AddsAll : (members : List NewType) → AddsGroup true (map member_kind members) old new → Edit old new
  Parses : (groups : List TypeGroup) → AreOrdinary groups → new ≡ (parsed groups (unparsed old)).table → Edit old new
  ParsesPart : (groups : List TypeGroup) → AreOrdinary groups → IsPartOf groups old new → Edit old new
  DeletesOne : (id : ℕ) → IsLive old id → Deletes id old new → Edit old new
  DeletesAll : (id : ℕ) → IsLive old id → DeletesGroup id old new → Edit old new
  DeletesThese : (ids : List ℕ) → AllGo ids old new → Edit old new
  Names : (id : ℕ) (x y : Item) → type_at old id ≡ Some x → y.id ≡ x.id → y.kind ≡ x.kind
      → new ≡ record old { types = slice_set old.types id (Some y) } → Edit old new

-- calls are edits, whatever they answer
pub add_edits : {E : Type 0} (kind : Kind) (r : Result ℕ E) (old new : Table) → IfOk r (λ id. Merges kind id old new) → OnErr r (new ≡ old) → Edit old new
add_edits kind (Ok id) old new merges refused = Adds kind id merges
add_edits kind (Err e) old new merges refused = Stays refused

pub group_edits : {X E : Type 0} (returns : Result (Vec NewType Global) IrError → Type 0) (count : ℕ) (r : Result X E) (old new : Table)
    → OnOk r (IsBuilt returns count old new) → OnErr r (new ≡ old) → Edit old new
group_edits returns count (Ok ids) old new built refused = AddsAll built.members.items built.added
group_edits returns count (Err e) old new built refused = Stays refused

pub parse_edits : {X E : Type 0} (groups : List TypeGroup) (r : Result X E) (old new : Table) → AreOrdinary groups
    → OnOk r (new ≡ (parsed groups (unparsed old)).table) → OnErr r (IsPartOf groups old new) → Edit old new
parse_edits groups (Ok ids) old new ordinary read part = Parses groups ordinary read
parse_edits groups (Err e) old new ordinary read part = ParsesPart groups ordinary part

-- what is emitted of the table is read back as its types, and deletes keep this
pub record IsSettled (t : Table) : Type 0 where
  pub merged : IsMerged t
  pub single : UnmarkedAreSingle t

-- P holds of a new table, and each call keeps it
pub record IsKept (P : Table → Type 0) : Type 0 where
  pub begins : P (record { types = []; groups = [] })
  pub keeps : (old new : Table) → AreGrouped old → Edit old new → P old → P new

-- tables stay settled
abbrev pub SettledIsKept : Type 0
SettledIsKept = IsKept IsSettled

-- types keep the ids by which they are found
abbrev pub OwnIdsAreKept : Type 0
OwnIdsAreKept = IsKept TypesHaveOwnIds
