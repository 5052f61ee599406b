-- What a module means, with the locals of each body numbered as the rules of bodies count them: by their places among those of its function (Core
-- Specification, functions).
use Rattle.std.specs.Prelude.{ℕ, List, map}
use Rattle.wasm_merged_modules.specs.wasm_normal_modules.wasm_ruled_renamed.wasm_ruled_normal.wasm_ruled_modules.wasm_module_rules.wasm_modules.wasm_body_grammar.wasm_grammar.Modules as grammar
use Rattle.wasm_merged_modules.specs.wasm_normal_modules.wasm_ruled_renamed.wasm_ruled_normal.wasm_ruled_modules.wasm_module_rules.wasm_modules.wasm_body_grammar.wasm_operators.NameLaws.{same}
use Rattle.walrus_types.specs.walrus_items.declared.local.Local.{Local}
use Rattle.walrus_parse_laws.specs.walrus_meaning.Bodies.{depth_of, local_ids, own_body}
use Rattle.walrus_parse_laws.specs.walrus_meaning.Meaning.{means, own_origin, slots_of}
use Rattle.walrus_parse_laws.specs.walrus_named_bodies.walrus_item_names.walrus_module.Parts.{Module}
use Rattle.walrus_parse_laws.specs.walrus_named_bodies.walrus_item_names.walrus_module.walrus_module_items.Functions.{type_of}
use Rattle.walrus_parse_laws.specs.walrus_named_bodies.walrus_item_names.walrus_module.walrus_module_items.declared.function.Function.{Function}
use Rattle.walrus_parse_laws.specs.walrus_named_bodies.walrus_item_names.walrus_module.walrus_module_items.declared.function.FunctionKind.{FunctionKind}
use Rattle.walrus_parse_laws.specs.walrus_named_bodies.walrus_item_names.walrus_module.walrus_module_items.declared.function.FunctionKind.TheVariants as kinds
use Rattle.wasm_merged_modules.specs.wasm_normal_modules.wasm_ruled_renamed.Bodies.{with_numbers}
use Rattle.wasm_merged_modules.specs.wasm_normal_modules.wasm_ruled_renamed.Renamed.{renamed_placed}

-- a body whose locals have these ids, each named by its place among them: how many stand before it
abbrev pub numbered_body : List ℕ → grammar.Body → grammar.Body
numbered_body ids x = record { locals = x.locals; operators = map (renamed_placed (with_numbers (depth_of ids) same)) x.operators }

abbrev pub numbered_origin : List Local → FunctionKind → grammar.Origin grammar.Body
numbered_origin locals (kinds.Local local) = grammar.Own (numbered_body (local_ids locals local) (own_body locals local))
numbered_origin locals kind = own_origin locals kind

abbrev pub numbered_function : List Local → Function → grammar.Function
numbered_function locals f = record { ty = type_of f.kind; origin = numbered_origin locals f.kind }

-- what the module means, its bodies so numbered
abbrev pub numbered : Module → grammar.Module
numbered m = record (means m) { functions = slots_of (numbered_function m.locals) m.funcs }
