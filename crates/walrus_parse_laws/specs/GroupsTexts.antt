-- The handlers of legacy `try`s of a module that was read, and those in the text of its file.
use Rattle.std.specs.Prelude.{ℕ, ◌≡◌, ◌<◌, List, [], ◌∷◌, All, length, map, Some, None}
use Rattle.std.specs.List.{flat_map}
use Rattle.walrus_named_bodies.specs.walrus_file_bodies.walrus_items_into.walrus_module_env.walrus_handler_types.walrus_handler_laws.walrus_body_steps.wasm_body_grammar.Laws.{ReadsBody}
use Rattle.walrus_named_bodies.specs.walrus_file_bodies.walrus_items_into.walrus_module_env.walrus_handler_types.walrus_handler_laws.walrus_body_steps.wasm_body_grammar.Rules.{Around}
use Rattle.walrus_body_laws.specs.walrus_pairing.wasm_operators.wasm_features.declared.WasmFeatures.{WasmFeatures}
use Rattle.walrus_named_bodies.specs.walrus_file_bodies.walrus_items_into.walrus_module_env.walrus_handler_types.walrus_handler_laws.walrus_body_steps.wasm_grammar.Modules as grammar
use Rattle.walrus_named_bodies.specs.walrus_file_bodies.walrus_items_into.wasm_module_rules.wasm_modules.Modules.{around}
use Rattle.walrus_named_bodies.specs.walrus_file_bodies.walrus_items_into.walrus_module_env.walrus_handler_types.walrus_handler_laws.walrus_body_steps.wasm_normal_form.Normal.{normal}
use Rattle.walrus_named_bodies.specs.walrus_file_bodies.walrus_items_into.walrus_module_env.walrus_handler_types.walrus_handler_laws.walrus_body_steps.wasm_normal_form.Roles.{placed}
use Rattle.walrus_named_bodies.specs.walrus_file_bodies.walrus_items_into.walrus_module_env.walrus_handler_types.walrus_handler_laws.walrus_body_steps.wasm_normal_form.Trees.{tree_of}
use Rattle.walrus_named_bodies.specs.walrus_file_bodies.walrus_items_into.walrus_module_env.walrus_handler_types.walrus_handler_laws.walrus_body_steps.walrus_body_nesting.Opens.{same}
use Rattle.walrus_config.specs.declared.config.ModuleConfig.{ModuleConfig}
use Rattle.walrus_named_bodies.specs.walrus_file_bodies.Read.{env_of}
use Rattle.walrus_named_bodies.specs.walrus_file_bodies.Ready.{bodies_in}
use Rattle.walrus_named_bodies.specs.walrus_file_bodies.walrus_items_into.walrus_functions_into.declared.bodies.FunctionBody.{FunctionBody}
use Rattle.walrus_named_bodies.specs.walrus_file_bodies.walrus_items_into.walrus_module_env.walrus_handler_types.Giving.{tree_handlers}
use Rattle.walrus_body_laws.specs.walrus_pairing.walrus_index_maps.Maps.{Ids}
use Rattle.walrus_named_bodies.specs.walrus_file_bodies.walrus_items_into.walrus_tables_into.walrus_sections_into.walrus_known_sections.State.{state_of}
use Rattle.walrus_named_bodies.specs.walrus_item_names.walrus_module.declared.module.Module.{Module as Whole}
use Rattle.walrus_named_bodies.specs.walrus_file_bodies.walrus_module_bodies.Steps.{IsStep, State, Steps, state}
use Rattle.walrus_named_bodies.specs.walrus_file_bodies.walrus_module_bodies.declared.file.FileEnv.{FileEnv}
use Rattle.walrus_named_bodies.specs.walrus_file_bodies.walrus_items_into.walrus_module_env.Around.{sight_in}
use Rattle.walrus_named_bodies.specs.walrus_file_bodies.walrus_items_into.walrus_module_env.Env.{tag_type_at}
use Rattle.walrus_named_bodies.specs.Parsed.{IsReadAs, read_features}
use Rattle.walrus_named_bodies.specs.walrus_item_names.walrus_module.walrus_types.Table.{Table}
use Rattle.walrus_parse_laws.specs.Catches.{catches}
use Rattle.walrus_parse_laws.specs.Handlers.{signatures}

module _ (file : FileEnv) (features : WasmFeatures) (a : Around) (t : Table) where
  -- a body was read, and what the handlers of its tree take and give, in the order of the tree, is what those do that stand in its normal
  -- form, by what is seen of the module with this table
  pub record TellsText (b : FunctionBody) (old new : State) (s : IsStep file features b old new) : Type 0 where
    pub body : grammar.Body
    pub reads : ReadsBody a (length s.params) b.chunk.place b.chunk.bytes.now body
    pub told : catches (sight_in (env_of file t) b.number new.ids) None (normal same (tree_of (map (λ (o : grammar.Placed). placed o.op (Some o.place)) body.operators)))
        ≡ flat_map (signatures t) (tree_handlers (tag_type_at s.handled.env.tags.now) s.handled.own s.handled.tree)

  -- so it is of each body
  abbrev pub TellTexts : (bs : List FunctionBody) (old new : State) → Steps file features bs old new → Type 0
  TellTexts [] old new steps = Unit {0}
  TellTexts (b ∷ bs) old new (mid, step, steps) = TellsText b old mid step × TellTexts bs mid new steps

abbrev pub ReadModulesTellTexts : Type 0 → Type 0
ReadModulesTellTexts B = (config : ModuleConfig) (bytes : List ℕ) (m : Whole B) (found : Ids) → All (λ b. b < 256) bytes → (is : IsReadAs config bytes m found)
    → let h = is.1 in TellTexts h.file (read_features config) (around (read_features config) (state_of h.sections)) m.types (bodies_in h.sections h.filled.functions)
    (state h.filled.types [] h.numbers h.filled.functions) h.bodied h.bodies_are
