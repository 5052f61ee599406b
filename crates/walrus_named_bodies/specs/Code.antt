-- The bodies of a file, read into a module that its sections fill.
use Rattle.std.specs.Prelude.{◌≡◌, ◌⊎◌, List}
use Rattle.walrus_item_names.specs.walrus_module.walrus_body_writer.walrus_pairing.wasm_operators.wasm_features.declared.WasmFeatures.{WasmFeatures}
use Rattle.walrus_arena.specs.Arena.{Arena}
use Rattle.walrus_item_names.specs.walrus_module.walrus_body_writer.walrus_body_env.declared.error.BodyError.{BodyError}
use Rattle.walrus_errors.specs.declared.error.ModuleError.{ModuleError}
use Rattle.walrus_errors.specs.declared.error.ModuleError.TheVariants.{Memory}
use Rattle.walrus_file_bodies.specs.walrus_items_into.walrus_functions_into.declared.bodies.FunctionBody.{FunctionBody}
use Rattle.walrus_file_bodies.specs.walrus_items_into.walrus_tables_into.walrus_sections_into.walrus_known_sections.declared.sections.Sections.{Sections}
use Rattle.walrus_file_bodies.specs.walrus_module_bodies.Steps.{State, StopsIn}
use Rattle.walrus_file_bodies.specs.walrus_module_bodies.declared.file.FileEnv.{FileEnv}
use Rattle.walrus_item_names.specs.walrus_module.walrus_module_items.declared.memory.Memory.{Memory as Mem}
use Rattle.walrus_item_names.specs.walrus_module.walrus_module_items.declared.tag.Tag.{Tag}
use Rattle.walrus_file_bodies.specs.Ready.{IsFileOf}
use Rattle.walrus_item_names.specs.walrus_module.walrus_body_writer.walrus_body_env.Refusals.{module_error}

-- want of memory, or the first body that is none
pub record IsFirstFault (features : WasmFeatures) (s : Sections) (tags : Arena Tag) (memories : Arena Mem) (bodies : List FunctionBody) (old : State) (error : ModuleError) : Type 0 where
  pub file : FileEnv
  pub is_file : IsFileOf s old.types tags memories file
  pub fault : BodyError
  pub stops : StopsIn file features bodies old fault
  pub error_is : error ≡ module_error fault

abbrev pub IsCodeRefusal : WasmFeatures → Sections → Arena Tag → Arena Mem → List FunctionBody → State → ModuleError → Type 0
IsCodeRefusal features s tags memories bodies old error = (error ≡ Memory) ⊎ IsFirstFault features s tags memories bodies old error
