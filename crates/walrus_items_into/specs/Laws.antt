-- Laws of modules that the sections of a file have filled.
use Rattle.std.specs.Prelude.{ℕ, ◌+◌, ◌<◌, ◌≡◌, List, [], length, slice_get, Option, Some}
use Rattle.std.specs.List.{AllZip}
use Rattle.std.specs.Option.{is_some}
use Rattle.walrus_module_bodies.specs.walrus_module_env.walrus_body_parser.wasm_operators.wasm_features.declared.WasmFeatures.{WasmFeatures}
use Rattle.walrus_module_bodies.specs.walrus_functions_into.wasm_sections.Laws.{ReadsSections}
use Rattle.walrus_module_bodies.specs.walrus_functions_into.wasm_module_rules.wasm_modules.Modules.{around, module_of}
use Rattle.wasm_name_payloads.specs.Names.{local_count}
use Rattle.walrus_read_laws.specs.walrus_tables_into.walrus_sections_into.walrus_instr.walrus_types.Table.{next_id, IsFunctionType}
use Rattle.walrus_module_bodies.specs.walrus_module_env.walrus_body_parser.walrus_body_rules.wasm_grammar.Modules.{Body}
use Rattle.walrus_payloads_into.specs.Numbered.{IsNumbered}
use Rattle.walrus_module_bodies.specs.walrus_module_env.declared.env.ModuleEnv.{ModuleEnv}
use Rattle.walrus_module_bodies.specs.walrus_module_env.Around.{IsFiled}
use Rattle.walrus_module_bodies.specs.walrus_module_env.Filled.{HasBehind}
use Rattle.walrus_read_laws.specs.walrus_tables_into.walrus_sections_into.walrus_index_maps.Maps.{Ids}
use Rattle.walrus_read_laws.specs.walrus_tables_into.walrus_sections_into.walrus_known_sections.declared.sections.Sections.{Sections}
use Rattle.walrus_read_laws.specs.walrus_tables_into.walrus_sections_into.walrus_known_sections.State.{state_of}
use Rattle.walrus_module_bodies.specs.walrus_functions_into.wasm_module_rules.Linked.{Each}
use Rattle.walrus_module_bodies.specs.walrus_functions_into.Bodies.{bodiless, paired}
use Rattle.walrus_module_bodies.specs.walrus_functions_into.declared.bodies.FunctionBody.{FunctionBody}
use Rattle.walrus_module_bodies.specs.walrus_functions_into.Laws.{ArePaired, code_of, read_bodies}
use Rattle.walrus_read_laws.specs.walrus_tables_into.walrus_sections_into.walrus_known_sections.declared.items.Function.{Function as ReadFunction}
use Rattle.walrus_module_bodies.specs.walrus_module_env.walrus_collections.walrus_module_items.declared.function.Function.{Function}
use Rattle.walrus_module_bodies.specs.walrus_module_env.walrus_collections.walrus_module_items.Functions.{type_of}
use Rattle.walrus_items_into.specs.Filled.{IsFilledFrom}
use Rattle.walrus_items_into.specs.Spaces.{Spaces}

-- the same map, some locals aside
abbrev pub HasLocals : Ids → Ids → Type 0
HasLocals old new = new ≡ record old { locals = new.locals }

-- what bodies ask of a module that this file filled: its types, which may have more behind them, its memories, and whether there is a
-- data count section
pub record IsEnvOf {B : Type 0} (s : Sections) (m : Spaces B) (e : ModuleEnv) : Type 0 where
  pub types : HasBehind m.types e.types.now
  pub memories : e.memories.now ≡ m.memories
  pub own_types : e.own_types ≡ next_id m.types
  pub has_data_count : e.has_data_count ≡ is_some s.data_count

-- to a body of a function with so many locals such a module is that of the file, as the grammar has it around its bodies
abbrev pub FilledModulesAreFiled : Type 0 → Type 0
FilledModulesAreFiled B = (features : WasmFeatures) (bytes : List ℕ) (s : Sections) (begin : Option ℕ) (i j : Ids) (m : Spaces B) (e : ModuleEnv) (function : ℕ)
    → ReadsSections features bytes (state_of s) → IsFilledFrom s begin i m → IsEnvOf s m e → HasLocals i j
    → IsFiled e j function (length (j.locals function)) features (around features (state_of s))

-- with as many locals named in each function as it has, the map numbers the file's module, whose bodies are these
abbrev pub FilledModulesAreNumbered : Type 0 → Type 0
FilledModulesAreNumbered B = (features : WasmFeatures) (bytes : List ℕ) (s : Sections) (begin : Option ℕ) (i j : Ids) (m : Spaces B) (bodies : List Body)
    → ReadsSections features bytes (state_of s) → IsFilledFrom s begin i m → HasLocals i j
    → ((function : ℕ) → function < length s.functions.items → length (j.locals function) ≡ local_count (module_of (state_of s) bodies) function)
    → IsNumbered (module_of (state_of s) bodies) j

-- what bodies are read for: each function has a live function type, and those without a body get those of the file in turn
pub record FunctionsStand {B : Type 0} (s : Sections) (m : Spaces B) : Type 0 where
  pub typed : Each (λ (f : Function). IsFunctionType m.types (type_of f.kind)) m.functions.slots
  pub paired : ArePaired s (bodiless m.functions)

abbrev pub FilledFunctionsStand : Type 0 → Type 0
FilledFunctionsStand B = (features : WasmFeatures) (bytes : List ℕ) (s : Sections) (begin : Option ℕ) (i : Ids) (m : Spaces B)
    → ReadsSections features bytes (state_of s) → IsFilledFrom s begin i m → FunctionsStand s m

-- each function with a body names its parameters and as many locals more as the body declares; an imported one names none
pub record NamesLocals {B : Type 0} (s : Sections) (m : Spaces B) (bodies : List Body) (j : Ids) : Type 0 where
  pub own : AllZip (λ (b : FunctionBody) (x : Body). length (j.locals b.number) ≡ (code_of s b).params + length x.locals) (paired (bodiless m.functions) (read_bodies s.bodies)) bodies
  pub imported : (function n : ℕ) (f : ReadFunction) → slice_get s.functions.items function ≡ Some f → f.import ≡ Some n → j.locals function ≡ []

-- these are as many as the function has in the file's module
abbrev pub NamedLocalsCount : Type 0 → Type 0
NamedLocalsCount B = (features : WasmFeatures) (bytes : List ℕ) (s : Sections) (begin : Option ℕ) (i j : Ids) (m : Spaces B) (bodies : List Body)
    → ReadsSections features bytes (state_of s) → IsFilledFrom s begin i m → NamesLocals s m bodies j
    → (function : ℕ) → function < length s.functions.items → length (j.locals function) ≡ local_count (module_of (state_of s) bodies) function
