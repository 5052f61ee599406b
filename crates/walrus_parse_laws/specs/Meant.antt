-- What a module means that was read from a file: the items of the file's module, each index the id of what it names, each body in its normal
-- form.
use Rattle.std.specs.Prelude.{ℕ, suc, false, List, [], ◌∷◌, ◌++◌, map, Option, Some, None}
use Rattle.std.specs.Option.{option_map}
use Rattle.walrus_named_bodies.specs.walrus_file_bodies.walrus_items_into.walrus_module_env.walrus_handler_types.walrus_body_steps.wasm_body_grammar.Codes.{param_count}
use Rattle.walrus_named_bodies.specs.walrus_file_bodies.walrus_items_into.walrus_module_env.walrus_handler_types.walrus_body_steps.wasm_body_grammar.wasm_formats.wasm_features.declared.WasmFeatures.{WasmFeatures}
use Rattle.walrus_named_bodies.specs.walrus_file_bodies.walrus_items_into.walrus_module_env.walrus_handler_types.walrus_body_steps.wasm_body_grammar.wasm_grammar.Modules as grammar
use Rattle.walrus_named_bodies.specs.walrus_file_bodies.walrus_items_into.walrus_module_env.walrus_handler_types.walrus_body_steps.wasm_body_grammar.wasm_grammar.walrus_forms.Kinds.{Kind}
use Rattle.walrus_named_bodies.specs.walrus_file_bodies.walrus_items_into.walrus_module_env.walrus_handler_types.walrus_body_steps.wasm_body_grammar.wasm_operators.declared.block_type.BlockType.{BlockType}
use Rattle.wasm_import_links.specs.wasm_ruled_modules.Rules.{around_bodies}
use Rattle.walrus_named_bodies.specs.walrus_file_bodies.walrus_body_trees.Laws.{renamed}
use Rattle.walrus_named_bodies.specs.walrus_file_bodies.walrus_items_into.walrus_module_env.wasm_run_names.Picks.{block_pick}
use Rattle.walrus_parse_laws.specs.FilledGroups.{kept}
use Rattle.walrus_body_laws.specs.walrus_pairing.walrus_index_maps.Maps.{Ids}
use Rattle.walrus_named_bodies.specs.walrus_file_bodies.walrus_items_into.walrus_module_env.walrus_handler_types.walrus_body_steps.wasm_normal_form.Bodies.{normal_body}
use Rattle.walrus_named_bodies.specs.walrus_file_bodies.walrus_items_into.walrus_module_env.walrus_handler_types.walrus_body_steps.wasm_normal_form.Normal.{normal_ops}
use Rattle.walrus_named_bodies.specs.walrus_file_bodies.walrus_items_into.walrus_module_env.walrus_handler_types.walrus_body_steps.wasm_normal_form.Roles.{Placed}
use Rattle.walrus_named_bodies.specs.walrus_file_bodies.walrus_items_into.walrus_tables_into.walrus_sections_into.Becomes.{look_of}
use Rattle.walrus_parse_laws.specs.Added.{single}
use Rattle.walrus_parse_laws.specs.Meaning.{type_id}
use Rattle.walrus_parse_laws.specs.Renamed.{each, retyped_element, retyped_global, retyped_segment, retyped_table, retyped_tag}
use Rattle.walrus_parse_laws.specs.Locals.{typed}
use Rattle.walrus_parse_laws.specs.BodiesTexts.{naming, text_of}

-- what block types of a file's bodies are picked as
abbrev pub picks : WasmFeatures → grammar.Module → BlockType → BlockType
picks features file = block_pick (around_bodies features false file)

-- an operator at its place; the greatest number of 32 bits stands for none
abbrev pub place_of : Option ℕ → ℕ
place_of None = 4294967295
place_of (Some place) = place

abbrev pub located : Placed → grammar.Placed
located o = record { place = place_of o.place; op = o.op }

-- each function by its number, where the first one has this
abbrev pub each_from : (ℕ → grammar.Function → grammar.Function) → ℕ → List (Option grammar.Function) → List (Option grammar.Function)
each_from f n [] = []
each_from f n (x ∷ xs) = option_map (f n) x ∷ each_from f (suc n) xs

-- where each index of a file names the item of this id
module _ (found : Ids) (pick : BlockType → BlockType) (file : grammar.Module) where
  -- the normal form of the body of a function of so many parameters; of its locals, those that it uses, by type
  abbrev pub body_meant : (function params : ℕ) → grammar.Body → grammar.Body
  body_meant function params x = record {
    locals = (normal_body pick params (typed found x)).locals;
    operators = map located (map (renamed (naming found function)) (normal_ops pick (text_of x)));
  }

  abbrev pub origin_meant : (number ty : ℕ) → grammar.Origin grammar.Body → grammar.Origin grammar.Body
  origin_meant number ty (grammar.Imported import) = grammar.Imported import
  origin_meant number ty (grammar.Own x) = grammar.Own (body_meant number (param_count file ty) x)

  abbrev pub function_meant : ℕ → grammar.Function → grammar.Function
  function_meant number f = record { ty = type_id (look_of found) f.ty; origin = origin_meant number f.ty f.origin }

  -- the whole module, with single types of these kinds behind those of the file; its custom sections are told apart
  abbrev pub module_meant : List Kind → grammar.Module
  module_meant added = record {
    groups = kept found.types 0 file.groups ++ map single added;
    imports = file.imports;
    functions = each_from function_meant 0 file.functions;
    tables = each (retyped_table (type_id (look_of found))) file.tables;
    memories = file.memories;
    tags = each (retyped_tag (type_id (look_of found))) file.tags;
    globals = each (retyped_global (type_id (look_of found))) file.globals;
    exports = file.exports;
    start = file.start;
    elements = each (retyped_element (type_id (look_of found))) file.elements;
    segments = each (retyped_segment (type_id (look_of found))) file.segments;
    customs = [];
  }
