-- A module that the sections of a file filled, and the file's bodies, which may be read into it.
use Rattle.std.specs.Prelude.{ℕ, ◌<◌, ◌≡◌, List, All, map, Option}
use Rattle.std.specs.Option.{is_some}
use Rattle.walrus_arena.specs.Arena.{Arena}
use Rattle.walrus_items_into.specs.walrus_tables_into.walrus_sections_into.walrus_collections.walrus_local_function.walrus_body_locals.walrus_body_nesting.wasm_formats.wasm_features.declared.WasmFeatures.{WasmFeatures}
use Rattle.walrus_items_into.specs.walrus_tables_into.walrus_sections_into.walrus_index_maps.Maps.{Ids}
use Rattle.walrus_items_into.specs.walrus_tables_into.walrus_sections_into.walrus_instr.walrus_types.Table.{Table, next_id}
use Rattle.walrus_items_into.specs.walrus_tables_into.walrus_sections_into.walrus_instr.walrus_types.walrus_items.declared.local.Local.{Local}
use Rattle.walrus_items_into.specs.walrus_tables_into.walrus_sections_into.walrus_known_sections.declared.sections.Sections.{Sections}
use Rattle.walrus_items_into.specs.walrus_tables_into.walrus_sections_into.walrus_known_sections.State.{state_of}
use Rattle.walrus_items_into.specs.walrus_tables_into.walrus_sections_into.walrus_module_items.declared.memory.Memory.{Memory}
use Rattle.walrus_items_into.specs.walrus_tables_into.walrus_sections_into.walrus_module_items.declared.tag.Tag.{Tag}
use Rattle.walrus_items_into.specs.walrus_tables_into.walrus_sections_into.walrus_module_items.declared.function.Function.{Function}
use Rattle.walrus_items_into.specs.walrus_functions_into.Bodies.{bodiless, paired}
use Rattle.walrus_items_into.specs.walrus_functions_into.Laws.{code_of, read_bodies}
use Rattle.walrus_items_into.specs.walrus_functions_into.declared.bodies.FunctionBody.{FunctionBody}
use Rattle.walrus_items_into.specs.wasm_module_rules.wasm_modules.Modules.{around, codes, IsShort}
use Rattle.walrus_items_into.specs.wasm_sections.Laws.{ReadsSections}
use Rattle.walrus_items_into.specs.Filled.{IsFilledFrom}
use Rattle.walrus_items_into.specs.Spaces.{Spaces}
use Rattle.walrus_items_into.specs.walrus_module_bodies.declared.file.FileEnv.{FileEnv}
use Rattle.walrus_items_into.specs.walrus_module_bodies.Reading.{TagsStand}
use Rattle.walrus_items_into.specs.walrus_module_bodies.Steps.{AreApart, IsFiledLater, IsModuleOf, IsPlaced, IsReady, State, state}

-- what stands while the bodies of this file are read into a module of these types, tags and memories
pub record IsFileOf (s : Sections) (types : Table) (tags : Arena Tag) (memories : Arena Memory) (file : FileEnv) : Type 0 where
  pub tags_are : file.tags.now ≡ tags
  pub memories_are : file.memories.now ≡ memories
  pub own_types : file.own_types ≡ next_id types
  pub has_data_count : file.has_data_count ≡ is_some s.data_count
  pub code_start : file.code_start ≡ s.code_start

-- each body of the file with its function
abbrev pub bodies_in : Sections → Arena Function → List FunctionBody
bodies_in s functions = paired (bodiless functions) (read_bodies s.bodies)

-- these bodies may be read: they lie in the file, their functions are ready and apart, and the module is that of the file, in which each
-- tag has a function type
pub record AreReady (file : FileEnv) (features : WasmFeatures) (bodies : List FunctionBody) (old : State) : Type 0 where
  pub placed : All (IsPlaced file) bodies
  pub ready : All (IsReady old) bodies
  pub apart : AreApart bodies
  pub filed : IsFiledLater file features old.types old.ids
  pub tags : TagsStand file.tags.now old.types old.ids

-- so it is in a module that a file of at most 2^30 bytes filled; and to its bodies it is the file's, as the grammar has it
pub record FilesBodies {B : Type 0} (features : WasmFeatures) (s : Sections) (i : Ids) (m : Spaces B) (file : FileEnv) : Type 0 where
  pub ready : (locals : List Local) → AreReady file features (bodies_in s m.functions) (state m.types locals i m.functions)
  pub is_module : IsModuleOf file features m.types i (around features (state_of s))
  pub codes_are : map (code_of s) (bodies_in s m.functions) ≡ codes (state_of s)

abbrev pub FilledModulesAreReady : Type 0 → Type 0
FilledModulesAreReady B = (features : WasmFeatures) (bytes : List ℕ) (s : Sections) (begin : Option ℕ) (i : Ids) (m : Spaces B) (file : FileEnv)
    → IsShort bytes → All (λ b. b < 256) bytes → ReadsSections features bytes (state_of s) → IsFilledFrom s begin i m → IsFileOf s m.types m.tags m.memories file → FilesBodies features s i m file
