-- Types of a file in a module's table, and their ids by their indices.
use Rattle.std.specs.Prelude.{ℕ, ◌≡◌, ◌⊎◌, List, [], ◌++◌, length, slice_get, Some, None}
use Rattle.wasm_features.specs.declared.WasmFeatures.{WasmFeatures}
use Rattle.walrus_forms.specs.Kinds.{Kind}
use Rattle.walrus_forms.specs.Records.{TypeGroup}
use Rattle.walrus_forms.specs.Renaming.{at, renamed_kind}
use Rattle.walrus_index_maps.specs.Maps.{Ids}
use Rattle.walrus_types.specs.Table.{Table, type_at}
use Rattle.walrus_types.specs.Parsing.{AreBelow, IsPartOf, parsed, unparsed}
use Rattle.walrus_known_sections.specs.Types.{kinds_in}
use Rattle.wasm_grammar.specs.States.{State}
use Rattle.walrus_known_sections.specs.wasm_sections.Laws.{ReadsSections}

abbrev pub no_types : Table
no_types = record { types = []; groups = [] }

-- the map with these ids of types behind those before
abbrev pub with_types : List ℕ → Ids → Ids
with_types types m = record m { types = m.types ++ types }

-- the map with some of the ids, the first ones
abbrev pub AddsSome : List ℕ → Ids → Ids → Type 0
AddsSome types old new = (front later : List ℕ) × (types ≡ front ++ later) × (new ≡ with_types front old)

-- the table with some of the groups, the first ones, or with all
abbrev pub AddsTypes : List TypeGroup → Table → Table → Type 0
AddsTypes groups old new = IsPartOf groups old new ⊎ (new ≡ (parsed groups (unparsed old)).table)

-- types that were read name types below the end of their group
abbrev pub TypesNameBelow : Type 0
TypesNameBelow = (features : WasmFeatures) (bytes : List ℕ) (s : State) → ReadsSections features bytes s → AreBelow 0 s.filled.groups

-- each type that was read has an id under its index, of a live type of its kind with such ids for indices
pub record TypesStand (groups : List TypeGroup) (ids : List ℕ) (t : Table) : Type 0 where
  pub sized : length ids ≡ length (kinds_in groups)
  pub stand : (index : ℕ) (kind : Kind) → slice_get (kinds_in groups) index ≡ Some kind
      → (id : ℕ) × (slice_get ids index ≡ Some id) × (type_at t id ≡ Some (record { id = id; kind = renamed_kind (at ids) kind; name = None }))

-- of groups that are put into a new table
abbrev pub NewTypesStand : Type 0
NewTypesStand = (groups : List TypeGroup) → AreBelow 0 groups → let p = parsed groups (unparsed no_types) in TypesStand groups p.ids p.table
