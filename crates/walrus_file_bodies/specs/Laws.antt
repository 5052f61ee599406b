-- Bodies of a file that are read into its module, and where the file's bodies stop.
use Rattle.std.specs.Prelude.{ℕ, ◌+◌, ◌<◌, ◌≡◌, List, All, length, Option, Some}
use Rattle.walrus_items_into.specs.Filled.{IsFilledFrom}
use Rattle.walrus_items_into.specs.Laws.{HasLocals, NamesLocals}
use Rattle.walrus_items_into.specs.Spaces.{Spaces}
use Rattle.walrus_items_into.specs.wasm_module_rules.wasm_modules.Modules.{IsShort, around, code_left, codes}
use Rattle.walrus_items_into.specs.wasm_sections.Laws.{ReadsSections}
use Rattle.walrus_items_into.specs.walrus_tables_into.walrus_sections_into.walrus_collections.walrus_local_function.walrus_body_locals.walrus_body_nesting.Faults.{fault_at}
use Rattle.walrus_items_into.specs.walrus_tables_into.walrus_sections_into.walrus_collections.walrus_local_function.walrus_body_locals.walrus_body_nesting.walrus_body_env.declared.error.BodyError.{BodyError}
use Rattle.walrus_items_into.specs.walrus_tables_into.walrus_sections_into.walrus_collections.walrus_local_function.walrus_body_locals.walrus_body_nesting.wasm_formats.Stops.{Stop}
use Rattle.walrus_items_into.specs.walrus_tables_into.walrus_sections_into.walrus_collections.walrus_local_function.walrus_body_locals.walrus_body_nesting.wasm_formats.wasm_features.declared.WasmFeatures.{WasmFeatures}
use Rattle.walrus_items_into.specs.walrus_tables_into.walrus_sections_into.walrus_collections.walrus_local_function.walrus_body_locals.wasm_body_grammar.Codes.{ReadsCodes, StopsCodes}
use Rattle.walrus_items_into.specs.walrus_tables_into.walrus_sections_into.walrus_collections.walrus_local_function.walrus_body_locals.wasm_grammar.Modules.{Body}
use Rattle.walrus_items_into.specs.walrus_tables_into.walrus_sections_into.walrus_index_maps.Maps.{Ids}
use Rattle.walrus_items_into.specs.walrus_tables_into.walrus_sections_into.walrus_instr.walrus_types.walrus_items.declared.local.Local.{Local}
use Rattle.walrus_items_into.specs.walrus_tables_into.walrus_sections_into.walrus_known_sections.declared.sections.Sections.{Sections}
use Rattle.walrus_items_into.specs.walrus_tables_into.walrus_sections_into.walrus_known_sections.State.{state_of}
use Rattle.walrus_items_into.specs.walrus_module_bodies.declared.file.FileEnv.{FileEnv}
use Rattle.walrus_items_into.specs.walrus_module_bodies.Steps.{State, Steps, StopsIn, state}
use Rattle.walrus_file_bodies.specs.Ready.{IsFileOf, bodies_in}

-- the fault that is told where reading stops so, in bytes that end at this offset
abbrev pub IsTold : ℕ → Stop → BodyError → Type 0
IsTold end t fault = (place : ℕ) × (place + t.left ≡ end) × (fault_at t.trouble place ≡ Some fault)

-- where bodies that are read into the module stop, the file's bodies stop, for that fault, at its place
abbrev pub BodiesStopFiles : Type 0 → Type 0
BodiesStopFiles B = (features : WasmFeatures) (bytes : List ℕ) (s : Sections) (begin : Option ℕ) (i : Ids) (m : Spaces B) (file : FileEnv) (locals : List Local) (fault : BodyError)
    → All (λ b. b < 256) bytes → ReadsSections features bytes (state_of s) → IsFilledFrom s begin i m → IsFileOf s m.types m.tags m.memories file
    → StopsIn file features (bodies_in s m.functions) (state m.types locals i m.functions) fault
    → (t : Stop) × StopsCodes (around features (state_of s)) (code_left bytes (state_of s)) (codes (state_of s)) t × IsTold (length bytes) t fault

-- bodies that were read into the module are the file's: each reads as its body, its function names its locals, and of the map locals alone
-- have changed
abbrev pub BodiesReadFiles : Type 0 → Type 0
BodiesReadFiles B = (features : WasmFeatures) (bytes : List ℕ) (s : Sections) (begin : Option ℕ) (i : Ids) (m : Spaces B) (file : FileEnv) (locals : List Local) (new : State)
    → IsShort bytes → All (λ b. b < 256) bytes → ReadsSections features bytes (state_of s) → IsFilledFrom s begin i m → IsFileOf s m.types m.tags m.memories file
    → Steps file features (bodies_in s m.functions) (state m.types locals i m.functions) new
    → (xs : List Body) × ReadsCodes (around features (state_of s)) (codes (state_of s)) xs × NamesLocals s m xs new.ids × HasLocals i new.ids
