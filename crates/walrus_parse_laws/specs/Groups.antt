-- The groups of types of a module that was read: those of its file, and behind them the types that its handlers have and the file hasn't.
use Rattle.std.specs.Prelude.{ℕ, ◌≡◌, ◌<◌, false, List, [], ◌∷◌, ◌++◌, All, map, Option}
use Rattle.std.specs.List.{AllByRecursion, flat_map}
use Rattle.walrus_body_laws.specs.walrus_pairing.wasm_operators.wasm_features.declared.WasmFeatures.{WasmFeatures}
use Rattle.walrus_config.specs.declared.config.ModuleConfig.{ModuleConfig}
use Rattle.walrus_named_bodies.specs.walrus_file_bodies.Ready.{bodies_in}
use Rattle.walrus_forms.specs.Records.{TypeGroup}
use Rattle.walrus_named_bodies.specs.walrus_file_bodies.walrus_items_into.walrus_functions_into.declared.bodies.FunctionBody.{FunctionBody}
use Rattle.walrus_named_bodies.specs.walrus_file_bodies.walrus_items_into.walrus_module_env.Env.{tag_type_at}
use Rattle.walrus_parse_laws.specs.FilledGroups.{kept}
use Rattle.walrus_named_bodies.specs.walrus_file_bodies.walrus_items_into.walrus_module_env.walrus_handler_types.walrus_handler_laws.declared.handler.Handler.{Handler}
use Rattle.walrus_named_bodies.specs.walrus_file_bodies.walrus_items_into.walrus_module_env.walrus_handler_types.Giving.{tree_handlers}
use Rattle.walrus_body_laws.specs.walrus_pairing.walrus_index_maps.Maps.{Ids}
use Rattle.walrus_named_bodies.specs.walrus_file_bodies.walrus_items_into.walrus_module_bodies.walrus_body_trees.walrus_meaning.Meaning.{own_groups}
use Rattle.walrus_named_bodies.specs.walrus_item_names.walrus_module.declared.module.Module.{Module as Whole}
use Rattle.walrus_named_bodies.specs.walrus_file_bodies.walrus_module_bodies.Steps.{State, Steps, state}
use Rattle.walrus_named_bodies.specs.walrus_file_bodies.walrus_module_bodies.declared.file.FileEnv.{FileEnv}
use Rattle.walrus_named_bodies.specs.Parsed.{IsReadAs, read_features}
use Rattle.walrus_named_bodies.specs.walrus_item_names.walrus_module.walrus_types.Parsing.{parsed, unparsed}
use Rattle.walrus_named_bodies.specs.walrus_item_names.walrus_module.walrus_types.Table.{Table}
use Rattle.walrus_named_bodies.specs.walrus_file_bodies.walrus_items_into.walrus_functions_into.walrus_types_into.Into.{no_types}
use Rattle.walrus_parse_laws.specs.Added.{added, is_missing, single}
use Rattle.walrus_parse_laws.specs.Handlers.{HasTypes, signatures}

-- the sequences of bodies that were read, each as the handler that it is, if it is one: body by body in the order of the file, and in the order
-- of the text in each
abbrev pub handlers_in : (file : FileEnv) (features : WasmFeatures) (bs : List FunctionBody) (old new : State) → Steps file features bs old new → List (Option Handler)
handlers_in file features [] old new steps = []
handlers_in file features (b ∷ bs) old new (mid, step, steps) = (let h = step.handled in tree_handlers (tag_type_at h.env.tags.now) h.own h.tree) ++ handlers_in file features bs mid new steps

-- those of a module that was read
abbrev pub handlers_of : {B : Type 0} (config : ModuleConfig) (bytes : List ℕ) (m : Whole B) (found : Ids) → IsReadAs config bytes m found → List (Option Handler)
handlers_of config bytes m found is =
    let h = is.1 in
    handlers_in h.file (read_features config) (bodies_in h.sections h.filled.functions) (state h.filled.types [] h.numbers h.filled.functions) h.bodied h.bodies_are

-- the table has the groups of this file, each type's id among these under its index, and behind them, each by itself, the types that these
-- handlers have and the file hasn't; it has the types of the handlers' tags and blocks, and each handler finds its block type
pub record HasGroups (file : List TypeGroup) (ids : List ℕ) (hs : List (Option Handler)) (t : Table) : Type 0 where
  pub groups : own_groups t ≡ kept ids 0 file ++ map single (added (parsed file (unparsed no_types)).table (flat_map (signatures t) hs))
  pub typed : AllByRecursion (HasTypes t) hs
  pub found : AllByRecursion (λ s. is_missing t s ≡ false) (flat_map (signatures t) hs)

abbrev pub ReadModulesHaveGroups : Type 0 → Type 0
ReadModulesHaveGroups B = (config : ModuleConfig) (bytes : List ℕ) (m : Whole B) (found : Ids) → All (λ b. b < 256) bytes → (is : IsReadAs config bytes m found)
    → HasGroups is.1.sections.types found.types (handlers_of config bytes m found is) m.types
