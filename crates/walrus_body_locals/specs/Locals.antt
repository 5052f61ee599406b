-- The locals that a body declares: what is read, and what is added.
use Rattle.std.specs.Prelude.{◌≡◌, ◌⊎◌, ◌<◌, ◌≤◌, ℕ, suc, ◌+◌, ◌==◌, nat_le, Bool, true, false, List, [], ◌∷◌, ◌++◌, length, map, fold, Option, None, Ok, Err, if◌then◌else◌}
use Rattle.wasm_features.specs.declared.WasmFeatures.{WasmFeatures}
use Rattle.wasm_reader.specs.Cursor.{Cursor, rest, end_of}
use Rattle.wasm_ref_types.specs.declared.value.ValType.{ValType as Written}
use Rattle.walrus_forms.specs.declared.value.ValType.{ValType}
use Rattle.walrus_forms.specs.Renaming.{at, renamed_value}
use Rattle.walrus_pairing.specs.declared.error.PairError.{PairError}
use Rattle.walrus_pairing.specs.declared.error.PairError.TheVariants as errors
use Rattle.walrus_pairing.specs.walrus_items.declared.local.Local.{Local}
use Rattle.walrus_index_maps.specs.Maps.{Ids}
use Rattle.walrus_index_maps.specs.Runs.{nowhere}
use Rattle.wasm_formats.specs.declared.fault.Limited.TheVariants as limits
use Rattle.wasm_formats.specs.declared.fault.Form.TheVariants as unsupported
use Rattle.wasm_formats.specs.declared.fault.Space.TheVariants as spaces
use Rattle.wasm_formats.specs.Stops.{Trouble, Index, Unsupported, Stop, Limit}
use Rattle.wasm_formats.specs.Formats.{Format}
use Rattle.wasm_formats.specs.Joined.{checked, after}
use Rattle.wasm_formats.specs.Wholes.{u32}
use Rattle.walrus_body_nesting.specs.wasm_grammar.Values.{must, value_type}
use Rattle.walrus_body_nesting.specs.wasm_grammar.TypeWords.{value_from}
use Rattle.walrus_body_nesting.specs.wasm_grammar.States.{types_of}
use Rattle.walrus_body_nesting.specs.wasm_body_grammar.Rules.{Around}
use Rattle.walrus_body_nesting.specs.wasm_body_grammar.Bodies as grammar
use Rattle.walrus_body_nesting.specs.wasm_body_grammar.Bodies.{Run, next_total, most_locals, declared}
use Rattle.walrus_body_nesting.specs.walrus_body_env.declared.error.BodyError.{BodyError}
use Rattle.walrus_body_nesting.specs.walrus_body_env.declared.error.BodyError.TheVariants.{Memory}
use Rattle.walrus_body_locals.specs.Calls.{IsFaultOf}
use Rattle.walrus_body_locals.specs.Told.{Telling, Pass, Fails}
use Rattle.walrus_body_locals.specs.Named.{AreKept, kept_count, kept_of}

-- ---- what is read

-- the trouble of a value type that has no ids in the place of its names
abbrev pub trouble_of : PairError → Trouble
trouble_of (errors.Unknown space) = Index spaces.Type
trouble_of _ = Unsupported unsupported.SharedType

-- a value type as it was read and with ids in the place of its names, of one that names types by their indices
abbrev pub IsTypeOf : List ℕ → Written × ValType → ValType → Type 0
IsTypeOf types x ty = (x.0 ≡ value_from ty) × (x.1 ≡ renamed_value (at types) ty)

abbrev pub IsRunOf : List ℕ → ℕ × ValType → Run → Type 0
IsRunOf types x run = (x.0 ≡ run.0) × (x.1 ≡ renamed_value (at types) run.1)

-- behind so many locals a count is tested before its type is read
abbrev pub count_in : ℕ → Format ℕ
count_in total = checked u32 (λ n. must (nat_le (total + n) most_locals) (Limit limits.Locals))

-- a run, under these features, where there are so many types
abbrev pub run_in : WasmFeatures → ℕ → ℕ → Format Run
run_in features types total = after (count_in total) (λ _. value_type features types)

-- what a validator answers that is told of a run
abbrev pub run_told : {V : Type 0} → (V → ℕ → ℕ → Written → Option BodyError × V) → Telling Run V
run_told step v offset run = step v offset run.0 (value_from run.1)

-- the file around the body has these features, and so many types
pub record IsSeen (features : WasmFeatures) (types : List ℕ) (a : Around) : Type 0 where
  pub features_are : a.features ≡ features
  pub types_are : length (types_of a.filled) ≡ length types

-- these runs stand at the front of the bytes, behind their count, and the validator accepts each
abbrev pub PassRuns : {V : Type 0} → Telling Run V → (ℕ → Format Run) → ℕ → ℕ → V → List ℕ → List Run → List ℕ → V → Type 0
PassRuns told run params end v bytes runs later w =
    (mid : List ℕ) × (u32.parse bytes ≡ Ok (length runs, mid)) × Pass next_total (λ total. (run total).parse) told end params v mid runs later w

-- the validator was told of some runs at the front of the bytes, behind their count, and accepts each; or of none
abbrev pub SomeRuns : {V : Type 0} → Telling Run V → (ℕ → Format Run) → ℕ → ℕ → V → List ℕ → V → Type 0
SomeRuns told run params end v bytes w =
    (w ≡ v)
    ⊎ ((count : ℕ) × (mid : List ℕ) × (runs : List Run) × (later : List ℕ) × (u32.parse bytes ≡ Ok (count, mid)) × (length runs ≤ count)
    × Pass next_total (λ total. (run total).parse) told end params v mid runs later w)

-- the count is refused, and the validator is as it was; or it stands there, some runs behind it pass, and the next one doesn't
abbrev pub FailRuns : {V : Type 0} → Telling Run V → (ℕ → Format Run) → ℕ → ℕ → V → List ℕ → V → BodyError → Type 0
FailRuns {V} told run params end v bytes w e =
    ((s : Stop) × (u32.parse bytes ≡ Err s) × IsFaultOf end s e × (w ≡ v))
    ⊎ ((count : ℕ) × (mid : List ℕ) × (runs : List Run) × (later : List ℕ) × (u : V) × (u32.parse bytes ≡ Ok (count, mid)) × (length runs < count)
    × Pass next_total (λ total. (run total).parse) told end params v mid runs later u
    × Fails (run (fold next_total params runs)).parse told end u later w e)

-- these runs were read, behind so many parameters: as they are in the file, and with ids in the place of the names of types; there are so many locals
-- with the parameters
pub record ReadsRuns {V : Type 0} (told : Telling Run V) (params : ℕ) (old new : Cursor) (types : List ℕ) (v w : V) (own : List Run) (total : ℕ) : Type 0 where
  pub runs : List Run
  pub read : (a : Around) → IsSeen old.window.features types a → (grammar.runs a params).parse (rest old) ≡ Ok (runs, rest new)
  pub passed : (a : Around) → IsSeen old.window.features types a → PassRuns told (grammar.run a) params (end_of old) v (rest old) runs (rest new) w
  pub own_are : declared own ≡ map (renamed_value (at types)) (declared runs)
  pub total_is : total ≡ params + length (declared own)
  pub few : (total ≡ params) ⊎ (total ≤ 50000)

-- ---- what is added

abbrev pub locals_from : ℕ → List ValType → List Local
locals_from id [] = []
locals_from id (ty ∷ tys) = record { id = id; ty = ty; name = None } ∷ locals_from (suc id) tys

abbrev pub ids_from : ℕ → List ValType → List ℕ
ids_from id [] = []
ids_from id (ty ∷ tys) = id ∷ ids_from (suc id) tys

-- the function has these locals too
abbrev pub with_more : ℕ → List ℕ → (ℕ → List ℕ) → ℕ → List ℕ
with_more function ids locals f = if f == function then locals f ++ ids else locals f

abbrev pub with_locals : ℕ → List ℕ → Ids → Ids
with_locals function ids i = record i { locals = with_more function ids i.locals }

-- locals of these types were added to the module, and the next indices of the function name them
pub record Adds (function : ℕ) (tys : List ValType) (ls ms : List Local) (i j : Ids) : Type 0 where
  pub added : ms ≡ ls ++ locals_from (length ls) tys
  pub named : j ≡ with_locals function (ids_from (length ls) tys) i

-- ids from this one on for those that are kept; the others have none
abbrev pub kept_ids : ℕ → List Bool → List ℕ
kept_ids id [] = []
kept_ids id (true ∷ ks) = id ∷ kept_ids (suc id) ks
kept_ids id (false ∷ ks) = nowhere ∷ kept_ids id ks

-- locals of these types were declared: those that are kept were added to the module, and the next indices of the function name them, or none
pub record AddsKept (function : ℕ) (kept : List Bool) (tys : List ValType) (ls ms : List Local) (i j : Ids) : Type 0 where
  pub many : length kept ≡ length tys
  pub added : ms ≡ ls ++ locals_from (length ls) (kept_of kept tys)
  pub named : j ≡ with_locals function (kept_ids (length ls) kept) i

-- of locals of these types, behind so many parameters, those were added that the operators of these bytes name, or all, where all are wanted
pub record Chooses (features : WasmFeatures) (function params : ℕ) (bytes : List ℕ) (tys : List ValType) (ls ms : List Local) (i j : Ids) : Type 0 where
  pub kept : List Bool
  pub are_kept : AreKept features i.all_locals params (length tys) bytes kept
  pub adds : AddsKept function kept tys ls ms i j

-- what a refusal leaves: some locals were added to the module, and the next indices of the function name them, all or all but the last, or none
pub record Leaves (function : ℕ) (ls ms : List Local) (i j : Ids) : Type 0 where
  pub tys : List ValType
  pub ids : List ℕ
  pub added : ms ≡ ls ++ locals_from (length ls) tys
  pub named : j ≡ with_locals function ids i
  pub kept : List Bool
  pub ids_are : ids ≡ kept_ids (length ls) kept
  pub unnamed : ℕ
  pub all : kept_count kept + unnamed ≡ length tys
  pub few : unnamed ≤ 1

-- ---- the whole

-- these runs were read, behind so many parameters, and declared
pub record Declares {V : Type 0} (told : Telling Run V) (function params : ℕ) (old new : Cursor) (types : List ℕ) (ls ms : List Local) (i j : Ids) (v w : V) : Type 0 where
  pub runs : List Run
  pub read : (a : Around) → IsSeen old.window.features types a → (grammar.runs a params).parse (rest old) ≡ Ok (runs, rest new)
  pub passed : (a : Around) → IsSeen old.window.features types a → PassRuns told (grammar.run a) params (end_of old) v (rest old) runs (rest new) w
  pub kept : List Bool
  pub are_kept : AreKept old.window.features i.all_locals params (length (declared runs)) (rest new) kept
  pub adds : AddsKept function kept (map (renamed_value (at types)) (declared runs)) ls ms i j

-- in a file with these types, the locals are refused so; or memory is wanted behind some runs
abbrev pub RefusesRuns : {V : Type 0} → Telling Run V → ℕ → Cursor → List ℕ → V → V → BodyError → Type 0
RefusesRuns told params old types v w e =
    ((e ≡ Memory) × ((a : Around) → IsSeen old.window.features types a → SomeRuns told (grammar.run a) params (end_of old) v (rest old) w))
    ⊎ ((a : Around) → IsSeen old.window.features types a → FailRuns told (grammar.run a) params (end_of old) v (rest old) w e)
