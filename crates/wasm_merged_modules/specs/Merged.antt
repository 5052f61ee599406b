-- A module whose types are merged: each group stands as it is, each type named by its id, but for single types that stand for an earlier one.
use Rattle.std.specs.Prelude.{ℕ, ◌≡◌, ◌+◌, ◌<◌, ◌==◌, ◌&&◌, Bool, true, false, not, List, [], ◌∷◌, ◌++◌, length, map, filter, take, Option, Some, slice_get, if◌then◌else◌, None}
use Rattle.std.specs.List.{AllByRecursion, flat_map, list_any}
use Rattle.std.specs.Option.{is_some}
use Rattle.walrus_forms.specs.Kinds.{Kind, function_kind}
use Rattle.walrus_forms.specs.Records.{TypeGroup}
use Rattle.walrus_forms.specs.Renaming.{KindBelow, at, renamed_kind, renamed_value}
use Rattle.walrus_forms.specs.Same.{same_kind}
use Rattle.walrus_forms.specs.declared.value.ValType.{ValType}
use Rattle.walrus_types.specs.Mergers.{is_single}
use Rattle.walrus_types.specs.Parsing.{Parsed, parsed, unparsed}
use Rattle.walrus_types.specs.Table.{Table, found_type, type_at}
use Rattle.walrus_types.specs.walrus_items.Items.{Item}
use Rattle.wasm_normal_modules.specs.Modules.{BringsNoTypes, MeetsRules, OriginPicked, normal_module}
use Rattle.wasm_normal_modules.specs.wasm_ruled_renamed.Types.{RetypesInOrder}
use Rattle.wasm_normal_modules.specs.wasm_ruled_renamed.wasm_ruled_normal.wasm_ruled_modules.Rules.{GroupsBelow, around_bodies}
use Rattle.wasm_normal_modules.specs.wasm_ruled_renamed.wasm_ruled_normal.wasm_ruled_modules.wasm_module_rules.Linked.{Each}
use Rattle.wasm_normal_modules.specs.wasm_ruled_renamed.wasm_ruled_normal.wasm_ruled_modules.wasm_module_rules.wasm_modules.Modules.{Reads}
use Rattle.wasm_normal_modules.specs.wasm_ruled_renamed.wasm_ruled_normal.wasm_ruled_modules.wasm_module_rules.wasm_modules.wasm_body_grammar.Rules.{Around, found_in, serves}
use Rattle.wasm_normal_modules.specs.wasm_ruled_renamed.wasm_ruled_normal.wasm_ruled_modules.wasm_module_rules.wasm_modules.wasm_body_grammar.wasm_formats.wasm_features.declared.WasmFeatures.{WasmFeatures}
use Rattle.wasm_normal_modules.specs.wasm_ruled_renamed.wasm_ruled_normal.wasm_ruled_modules.wasm_module_rules.wasm_modules.wasm_body_grammar.wasm_grammar.Modules.{Function, Module}
use Rattle.wasm_normal_modules.specs.wasm_ruled_renamed.wasm_ruled_normal.wasm_ruled_modules.wasm_module_rules.wasm_modules.wasm_body_grammar.wasm_grammar.States.{types_of}

-- the types of some groups, put into a table that has none
abbrev pub new_table : Table
new_table = record { types = []; groups = [] }

abbrev pub merged_types : List TypeGroup → Parsed
merged_types groups = parsed groups (unparsed new_table)

-- the id of each type
abbrev pub ids_of : List TypeGroup → List ℕ
ids_of groups = (merged_types groups).ids

-- no type before this one has its id
abbrev pub is_new : List ℕ → ℕ → Bool
is_new ids n = not (list_any (λ m. m == at ids n) (take n ids))

abbrev pub is_filled : List Kind → Bool
is_filled [] = false
is_filled (kind ∷ kinds) = true

-- marked but where it is of one type without a mark
abbrev pub renamed_group : (ℕ → ℕ) → TypeGroup → TypeGroup
renamed_group r g = record { marked = not (is_single g); kinds = map (renamed_kind r) g.kinds }

-- where types have these ids, and so many stand before: the groups that have types, but for a single one whose type has the id of an earlier one
abbrev pub kept : List ℕ → ℕ → List TypeGroup → List TypeGroup
kept ids n [] = []
kept ids n (g ∷ groups) =
    if is_filled g.kinds && is_new ids n then renamed_group (at ids) g ∷ kept ids (n + length g.kinds) groups else kept ids (n + length g.kinds) groups

abbrev pub kept_of : List TypeGroup → List TypeGroup
kept_of groups = kept (ids_of groups) 0 groups

-- a module's normal form with its types merged, and these groups behind them
abbrev pub merged_module : (Option ℕ → ℕ) → WasmFeatures → Bool → List TypeGroup → Module → Module
merged_module place features counted more m = normal_module place (around_bodies features counted m) (at (ids_of m.groups)) (kept_of m.groups ++ more) m

abbrev pub kinds_of : List TypeGroup → List Kind
kinds_of groups = flat_map (λ (g : TypeGroup). g.kinds) groups

-- groups that may stand behind the merged types of a file: they name types that are there, each of them and of those stands for itself, and none serves
-- what a type of the file serves
pub record StandBehind (a : Around) (more : List TypeGroup) : Type 0 where
  pub below : GroupsBelow (length (kinds_of (kept_of a.filled.groups))) more
  pub own : (k : ℕ) → k < length (kinds_of (kept_of a.filled.groups ++ more)) → at (ids_of (kept_of a.filled.groups ++ more)) k ≡ k
  pub others : (k : ℕ) (kind : Kind) → slice_get (kinds_of more) k ≡ Some kind → (params results : List ValType) → is_some (found_in a.same params results (types_of a.filled)) ≡ true
      → serves (at (ids_of (kept_of a.filled.groups ++ more))) (map (renamed_value (at (ids_of a.filled.groups))) params) (map (renamed_value (at (ids_of a.filled.groups))) results) kind ≡ true → ⊥

-- none at all may
abbrev pub NoneStandBehind : Type 0
NoneStandBehind = (features : WasmFeatures) (counted : Bool) (m : Module) → GroupsBelow 0 m.groups → StandBehind (around_bodies features counted m) []

-- so may single types of new kinds: each names types that are there, and none that is there has it
abbrev pub AreNew : List Kind → List Kind → Type 0
AreNew there [] = Unit {0}
AreNew there (k ∷ kinds) = KindBelow (length there) k × ((n : ℕ) → slice_get there n ≡ Some k → ⊥) × AreNew (there ++ k ∷ []) kinds

abbrev pub single : Kind → TypeGroup
single kind = record { marked = false; kinds = kind ∷ [] }

abbrev pub NewKindsStandBehind : Type 0
NewKindsStandBehind = (features : WasmFeatures) (counted : Bool) (m : Module) (kinds : List Kind) → GroupsBelow 0 m.groups → AreNew (kinds_of (kept_of m.groups)) kinds
    → StandBehind (around_bodies features counted m) (map single kinds)

-- each of these kinds once, where it stands first
abbrev pub once : List Kind → List Kind
once [] = []
once (k ∷ kinds) = k ∷ filter (λ other. not (same_kind k other)) (once kinds)

-- it names types that are there, and no type of the table has it
abbrev pub IsMissing : List TypeGroup → Kind → Type 0
IsMissing groups kind = KindBelow (length (kinds_of (kept_of groups))) kind × ((id : ℕ) (item : Item) → type_at (merged_types groups).table id ≡ Some item → item.kind ≡ kind → ⊥)

-- kinds that are missing, each once, are new
abbrev pub MissingKindsAreNew : Type 0
MissingKindsAreNew = (groups : List TypeGroup) (kinds : List Kind) → GroupsBelow 0 groups → AllByRecursion (IsMissing groups) kinds → AreNew (kinds_of (kept_of groups)) (once kinds)

-- so is the kind of a function type that isn't found
abbrev pub UnfoundKindsAreMissing : Type 0
UnfoundKindsAreMissing = (groups : List TypeGroup) (params results : List ValType) → KindBelow (length (kinds_of (kept_of groups))) (function_kind params results) → found_type params results (merged_types groups).table ≡ None
    → IsMissing groups (function_kind params results)

-- the types of a file stand among its merged types, and what is behind them, in their order
abbrev pub TypesAreMerged : Type 0
TypesAreMerged = (place : Option ℕ → ℕ) (features : WasmFeatures) (counted : Bool) (more : List TypeGroup) (m : Module) → GroupsBelow 0 m.groups
    → (let a = around_bodies features counted m in StandBehind a more
    → RetypesInOrder (at (ids_of m.groups)) a (around_bodies features counted (merged_module place features counted more m)) × GroupsBelow 0 (kept_of m.groups ++ more))

-- so the normal form of a module that meets the rules meets them with its types merged, and each block type in it is its own pick
abbrev pub MergedModulesAreRuled : Type 0
MergedModulesAreRuled = (place : Option ℕ → ℕ) (features : WasmFeatures) (counted : Bool) (more : List TypeGroup) (m : Module) → BringsNoTypes m → MeetsRules features counted m
    → (let n = merged_module place features counted more m in StandBehind (around_bodies features counted m) more
    → MeetsRules features counted n × Each (λ (f : Function). OriginPicked (around_bodies features counted n) f.origin) n.functions)

-- so it is with each module that is read, with single types of missing kinds behind its own: taken to have a data count section, which a module doesn't
-- tell
abbrev pub MergedFilesAreRuled : Type 0
MergedFilesAreRuled = (place : Option ℕ → ℕ) (features : WasmFeatures) (bytes : List ℕ) (m : Module) (kinds : List Kind) → Reads features bytes m → AllByRecursion (IsMissing m.groups) kinds
    → (let n = merged_module place features true (map single (once kinds)) m in
    MeetsRules features true n × Each (λ (f : Function). OriginPicked (around_bodies features true n) f.origin) n.functions)
