-- What the handlers of legacy `try`s take and give, in words of a file's module alone.
use Rattle.std.specs.Prelude.{ℕ, ◌≡◌, ◌<◌, List, [], ◌∷◌, ◌++◌, All, map, Option, Some, None, slice_get, slice_index_or}
use Rattle.std.specs.List.{flat_map}
use Rattle.std.specs.Option.{option_and_then, option_map}
use Rattle.walrus_config.specs.declared.config.ModuleConfig.{ModuleConfig}
use Rattle.walrus_named_bodies.specs.walrus_file_bodies.walrus_items_into.wasm_module_rules.wasm_modules.Modules.{module_of}
use Rattle.walrus_named_bodies.specs.walrus_file_bodies.walrus_items_into.walrus_tables_into.walrus_sections_into.walrus_known_sections.State.{state_of}
use Rattle.walrus_forms.specs.Kinds.{Kind}
use Rattle.walrus_forms.specs.Renaming.{at, renamed_value}
use Rattle.walrus_forms.specs.declared.value.ValType.{ValType}
use Rattle.walrus_function_types.specs.FunctionTypes.{form_params, form_results}
use Rattle.walrus_named_bodies.specs.walrus_file_bodies.walrus_items_into.walrus_module_env.walrus_handler_types.walrus_handler_laws.walrus_body_steps.walrus_body_nesting.Opens.{same}
use Rattle.walrus_named_bodies.specs.walrus_file_bodies.walrus_items_into.walrus_module_env.walrus_handler_types.walrus_handler_laws.walrus_body_steps.wasm_grammar.Modules as grammar
use Rattle.walrus_named_bodies.specs.walrus_file_bodies.walrus_items_into.walrus_module_env.walrus_handler_types.walrus_handler_laws.walrus_body_steps.wasm_grammar.States.{types_of}
use Rattle.walrus_named_bodies.specs.walrus_file_bodies.walrus_items_into.walrus_module_env.walrus_handler_types.walrus_handler_laws.walrus_body_steps.wasm_grammar.TypeWords.{value_of}
use Rattle.walrus_named_bodies.specs.walrus_file_bodies.walrus_items_into.walrus_module_env.walrus_handler_types.walrus_handler_laws.walrus_body_steps.wasm_normal_form.Normal.{normal}
use Rattle.walrus_named_bodies.specs.walrus_file_bodies.walrus_items_into.walrus_module_env.walrus_handler_types.walrus_handler_laws.walrus_body_steps.wasm_normal_form.Roles.{placed}
use Rattle.walrus_named_bodies.specs.walrus_file_bodies.walrus_items_into.walrus_module_env.walrus_handler_types.walrus_handler_laws.walrus_body_steps.wasm_normal_form.Trees.{Tree, Close, Arm, Skip, Run, Nest, tree_of}
use Rattle.walrus_body_laws.specs.walrus_pairing.walrus_index_maps.Maps.{Ids}
use Rattle.walrus_body_laws.specs.walrus_pairing.wasm_operators.Items.{Tags, Item, Names, Block}
use Rattle.walrus_body_laws.specs.walrus_pairing.wasm_operators.declared.block_type.BlockType.{BlockType}
use Rattle.walrus_body_laws.specs.walrus_pairing.wasm_operators.declared.block_type.BlockType.TheVariants as blocks
use Rattle.walrus_named_bodies.specs.Parsed.{IsReadAs}
use Rattle.walrus_named_bodies.specs.walrus_item_names.walrus_module.declared.module.Module.{Module as Whole}
use Rattle.wasm_operators.specs.Operators.{flow_of}
use Rattle.wasm_operators.specs.declared.entry.Flow.{Flow}
use Rattle.wasm_operators.specs.declared.entry.Flow.TheVariants as flows
use Rattle.walrus_parse_laws.specs.Added.{Signature}
use Rattle.walrus_parse_laws.specs.Groups.{handlers_of}
use Rattle.walrus_parse_laws.specs.Handlers.{signature_of, signatures}

-- ---- handlers of a file, each type by its index

-- by the types of the file, and its tags
module _ (types : List Kind) (tags : List (Option grammar.Tag)) where
  -- the parameters and results of a type, if it is a function's
  abbrev pub type_params : ℕ → Option (List ValType)
  type_params n = option_and_then (λ (k : Kind). form_params k.form) (slice_get types n)

  abbrev pub type_results : ℕ → Option (List ValType)
  type_results n = option_and_then (λ (k : Kind). form_results k.form) (slice_get types n)

  -- those of a tag, and of a block that is written so
  abbrev pub tag_takes : ℕ → Option (List ValType)
  tag_takes n = option_and_then (λ (t : grammar.Tag). type_params t.ty) (slice_index_or tags n None)

  abbrev pub block_gives : BlockType → Option (List ValType)
  block_gives blocks.Empty = Some []
  block_gives (blocks.Value ty) = option_map (λ v. v ∷ []) (value_of ty)
  block_gives (blocks.Type n) = type_results n

  abbrev pub opened_gives : List Item → Option (List ValType)
  opened_gives (Block written ∷ more) = block_gives written
  opened_gives _ = None

  -- the part that an operator begins in a block of these results: a `catch` takes the parameters of its tag's type, a `catch_all` none
  abbrev pub part_handles : Option (List ValType) → Option Flow → List Item → List Signature
  part_handles results (Some flows.Catch) (Names Tags n ∷ []) = signature_of (tag_takes n) results
  part_handles results (Some flows.CatchAll) items = signature_of (Some []) results
  part_handles results _ _ = []

  -- of the rest of a block of these results, in the order of the text
  abbrev pub text_handles : Option (List ValType) → Tree → List Signature
  text_handles results (Close o p) = []
  text_handles results (Arm o p t) = part_handles results (flow_of o.code) o.items ++ text_handles results t
  text_handles results (Skip o p t) = text_handles results t
  text_handles results (Run o p t) = text_handles results t
  text_handles results (Nest o p u t) = text_handles (opened_gives o.items) u ++ text_handles results t

  -- of what is reached of a body: of its normal form
  abbrev pub body_handles : grammar.Body → List Signature
  body_handles x = text_handles None (normal same (tree_of (map (λ (o : grammar.Placed). placed o.op (Some o.place)) x.operators)))

-- each type sent to its id
abbrev pub sent : (ℕ → ℕ) → Signature → Signature
sent r s = record { params = map (renamed_value r) s.params; results = map (renamed_value r) s.results }

-- those of these bodies of a file, in their order
abbrev pub bodies_handle : grammar.Module → List grammar.Body → List Signature
bodies_handle file xs = flat_map (body_handles (types_of file) file.tags) xs

-- what the handlers of the module that was read take and give is what those of its file do, in their order
abbrev pub ReadModulesHaveHandlers : Type 0 → Type 0
ReadModulesHaveHandlers B = (config : ModuleConfig) (bytes : List ℕ) (m : Whole B) (found : Ids) → All (λ b. b < 256) bytes → (is : IsReadAs config bytes m found)
    → flat_map (signatures m.types) (handlers_of config bytes m found is) ≡ map (sent (at found.types)) (bodies_handle (module_of (state_of is.1.sections) is.1.bodies) is.1.bodies)
