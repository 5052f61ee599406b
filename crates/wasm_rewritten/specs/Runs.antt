-- Runs of a file's module and of what is written of it.
use Rattle.std.specs.Prelude.{ℕ, [], ◌≡◌, ◌==◌, ◌⊎◌, ◌↔◌, Bool, true, false, IsTrue, List, map, Option, Some, None, slice_get, slice_index_or}
use Rattle.std.specs.List.{AllByRecursion, flat_map}
use Rattle.walrus_forms.specs.Kinds.{Kind}
use Rattle.walrus_forms.specs.Records.{TypeGroup}
use Rattle.walrus_forms.specs.Renaming.{at, renamed_value}
use Rattle.walrus_types.specs.Table.{Table}
use Rattle.wasm_features.specs.declared.WasmFeatures.{WasmFeatures}
use Rattle.wasm_formats.specs.declared.fault.Space.TheVariants as spaces
use Rattle.wasm_operators.specs.declared.block_type.BlockType.{BlockType}
use Rattle.wasm_operators.specs.Items.{Types, Functions}
use Rattle.wasm_operators.specs.Names.{Name, Renaming, item_names}
use Rattle.wasm_grammar.specs.Modules.{Origin, Imported, Own, Body, Export, Function, Module}
use Rattle.wasm_body_grammar.specs.Codes.{param_count}
use Rattle.wasm_body_grammar.specs.Rules.{Around}
use Rattle.wasm_ruled_modules.specs.Rules.{around_bodies}
use Rattle.wasm_normal_form.specs.Bodies.{new_number, used_keys}
use Rattle.wasm_normal_form.specs.Normal.{normal_ops}
use Rattle.wasm_ruled_normal.specs.Normal.{text_of}
use Rattle.wasm_run_names.specs.Picks.{block_pick}
use Rattle.wasm_normal_modules.specs.Modules.{MeetsRules, by_types}
use Rattle.wasm_merged_modules.specs.Merged.{IsMissing, StandBehind, ids_of, once, single}
use Rattle.wasm_part.specs.Part.{IsIn, Plan}
use Rattle.wasm_modules.specs.Modules.{Reads}
use Rattle.wasm_rewritten.specs.Rewritten.{Rewritten}
use Rattle.wasm_part.specs.Stands.{StandsWith}
use Rattle.wasm_run_laws.specs.wasm_runs.Modules.{program_of, signature_in}
use Rattle.wasm_run_laws.specs.wasm_runs.Outcomes.{Outcome, Ending}
use Rattle.wasm_run_laws.specs.wasm_runs.Programs.{Event, Executed, Plain, Shown, Typed, function_in}
use Rattle.wasm_run_laws.specs.wasm_runs.Renamed.{Fits, Maps, renamed_event, renamed_outcome}
use Rattle.wasm_run_laws.specs.wasm_runs.Traces.{Trace}
use Rattle.wasm_run_laws.specs.Laws.{SameRuns}
use Rattle.wasm_run_laws.specs.Stands.{PicksKeep, StandsNormal}

-- ---- from the file to what is written: types merge first, and locals have the numbers of the normal form

abbrev pub items_of : Module → Plan → Renaming
items_of file p Types n = p.renames Types (at (ids_of file.groups) n)
items_of file p space n = p.renames space n

abbrev pub numbers_of : Around → Renaming → ℕ → Origin Body → ℕ → ℕ
numbers_of a r params (Imported i) n = n
numbers_of a r params (Own x) n = new_number params (used_keys params (map (renamed_value (r Types)) x.locals) (normal_ops (block_pick a) (text_of x.operators))) n

abbrev pub slot_numbers : Around → Renaming → Option Function → ℕ → ℕ
slot_numbers a r None n = n
slot_numbers a r (Some f) n = numbers_of a r (param_count a.filled f.ty) f.origin n

abbrev pub maps_of : WasmFeatures → Module → Plan → Maps
maps_of features file p = record {
  items = items_of file p;
  locals = λ f n. slot_numbers (around_bodies features true file) (by_types (at (ids_of file.groups))) (slice_index_or file.functions f None) n;
}

-- the pick of a file's block types
abbrev pub pick_in : WasmFeatures → Module → BlockType → BlockType
pick_in features file = block_pick (around_bodies features true file)

-- ---- the picks of the grammar, where a renaming sees types only by what they stand for

abbrev pub PicksKeepThrough : Type 0
PicksKeepThrough = (a : Around) (r : Renaming) (q : ℕ → ℕ) → ((n : ℕ) → r Types n ≡ q (a.same n)) → PicksKeep r (block_pick a) (signature_in a.filled)

-- ---- laws

-- kept functions, for the law on runs, which asks for a decision
abbrev pub is_number : Option ℕ → ℕ → Bool
is_number None n = false
is_number (Some k) n = k == n

abbrev pub is_kept : Plan → ℕ → Bool
is_kept p f = is_number (slice_get (p.listed Functions) (p.renames Functions f)) f

abbrev pub KeptIsDecided : Type 0
KeptIsDecided = (p : Plan) (f : ℕ) → IsTrue (is_kept p f) ↔ IsIn p Functions f

-- what is asked of the file: it meets the rules, as each that is read does; the handlers' types may stand behind its own
abbrev pub Asked : WasmFeatures → List TypeGroup → Module → Type 0
Asked features more file = MeetsRules features true file × StandBehind (around_bodies features true file) more

-- each kept function of the file stands in what is written, in normal form and renamed; what its normal form names is kept
abbrev pub WrittenStandsNormal : Type 0
WrittenStandsNormal = (place : Option ℕ → ℕ) (keep : Bool) (features : WasmFeatures) (more : List TypeGroup) (file n : Module) (t : Table) (p : Plan) → StandsWith place keep features more file n t p → Asked features more file
    → StandsNormal (IsIn p Functions) (maps_of features file p) (pick_in features file) (program_of file) (program_of n)

-- so each of its runs, with outcomes that enter kept functions, is a run there
abbrev pub WrittenRunsTheSame : Type 0
WrittenRunsTheSame = (place : Option ℕ → ℕ) (keep : Bool) (features : WasmFeatures) (more : List TypeGroup) (file n : Module) (t : Table) (p : Plan) → StandsWith place keep features more file n t p → Asked features more file
    → SameRuns (IsIn p Functions) (maps_of features file p) (program_of file) (program_of n)

-- an exported function, or the start function
abbrev pub IsEntry : Module → ℕ → Type 0
IsEntry m f = ((e : ℕ) × (x : Export) × (slice_index_or m.exports e None ≡ Some x) × (x.item.space ≡ spaces.Function) × (x.item.number ≡ f)) ⊎ (m.start ≡ Some f)

abbrev pub EntriesAreKept : Type 0
EntriesAreKept = (place : Option ℕ → ℕ) (keep : Bool) (features : WasmFeatures) (more : List TypeGroup) (file n : Module) (t : Table) (p : Plan) → StandsWith place keep features more file n t p → (f : ℕ) → IsEntry file f → IsIn p Functions f

-- for each exported or start function, each bound and each fitting list of outcomes: the trace there, with the outcomes renamed, is the trace here, renamed;
-- both ways, as each run has just one
abbrev pub SameTraces : WasmFeatures → Module → Module → Plan → Type 0
SameTraces features file n p = (f : ℕ) → IsEntry file f → (outcomes : List Outcome) → Fits (IsIn p Functions) outcomes → (bound : ℕ) (others : List Event) (ending : Ending)
    → Trace (program_of n) (p.renames Functions f) (map (renamed_outcome (p.renames Functions)) outcomes) bound others ending
    ↔ ((events : List Event) × Trace (program_of file) f outcomes bound events ending × (others ≡ map (renamed_event (maps_of features file p)) events))

abbrev pub CorrespondingRuns : Type 0
CorrespondingRuns = (place : Option ℕ → ℕ) (keep : Bool) (features : WasmFeatures) (more : List TypeGroup) (file n : Module) (t : Table) (p : Plan) → StandsWith place keep features more file n t p → Asked features more file
    → SameTraces features file n p

-- so it is with each file that is read, where the handlers' types are single ones of kinds that it hasn't
abbrev pub HasHandlers : Module → List TypeGroup → Type 0
HasHandlers file more = (kinds : List Kind) × AllByRecursion (IsMissing file.groups) kinds × (more ≡ map single (once kinds))

abbrev pub ReadFilesAreAsked : Type 0
ReadFilesAreAsked = (features : WasmFeatures) (bytes : List ℕ) (file : Module) (more : List TypeGroup) → Reads features bytes file → HasHandlers file more → Asked features more file

abbrev pub RewrittenRunsCorrespond : Type 0
RewrittenRunsCorrespond = (place : Option ℕ → ℕ) (names producers keep : Bool) (features : WasmFeatures) (input bytes : List ℕ) (places : Option (List (ℕ × ℕ)))
    (w : Rewritten place names producers keep features input bytes places) → SameTraces features w.file w.n w.p

-- ---- calls

-- the functions that an executed operator names
abbrev pub functions_shown : Shown → List ℕ
functions_shown (Plain item) = flat_map (λ (n : Name). function_in n.0 n.1) (item_names item)
functions_shown (Typed s) = []

abbrev pub functions_executed : Executed → List ℕ
functions_executed x = flat_map functions_shown x.items

-- it stands in a kept function, and names kept functions
abbrev pub IsOfKept : Plan → Event → Type 0
IsOfKept p v = IsIn p Functions v.function × AllByRecursion (IsIn p Functions) (functions_executed v.executed)

-- each operator that a run of a kept function executes does: so does each direct call, that of a tail, too
abbrev pub CallsAreKept : Type 0
CallsAreKept = (place : Option ℕ → ℕ) (keep : Bool) (features : WasmFeatures) (more : List TypeGroup) (file n : Module) (t : Table) (p : Plan) → StandsWith place keep features more file n t p → Asked features more file
    → (f : ℕ) → IsIn p Functions f → (outcomes : List Outcome) → Fits (IsIn p Functions) outcomes → (bound : ℕ) (events : List Event) (ending : Ending)
    → Trace (program_of file) f outcomes bound events ending → AllByRecursion (IsOfKept p) events
