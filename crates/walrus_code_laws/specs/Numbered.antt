-- What functions mean, with the locals of each body numbered as the rules of bodies count them: by their places among those of its function (Core
-- Specification, functions).
use Rattle.std.specs.Prelude.{ℕ, List, map}
use Rattle.wasm_operators.specs.NameLaws.{same}
use Rattle.wasm_grammar.specs.Modules as grammar
use Rattle.wasm_ruled_renamed.specs.Bodies.{with_numbers}
use Rattle.wasm_ruled_renamed.specs.Renamed.{renamed_placed}
use Rattle.walrus_items.specs.declared.local.Local.{Local}
use Rattle.walrus_module_items.specs.Functions.{type_of}
use Rattle.walrus_module_items.specs.declared.function.Function.{Function}
use Rattle.walrus_module_items.specs.declared.function.FunctionKind.{FunctionKind}
use Rattle.walrus_module_items.specs.declared.function.FunctionKind.TheVariants as kinds
use Rattle.walrus_meaning.specs.Bodies.{depth_of, local_ids, own_body}
use Rattle.walrus_meaning.specs.Meaning.{own_origin}

-- a body whose locals have these ids, each named by its place among them: how many stand before it
abbrev pub numbered_body : List ℕ → grammar.Body → grammar.Body
numbered_body ids x = record { locals = x.locals; operators = map (renamed_placed (with_numbers (depth_of ids) same)) x.operators }

abbrev pub numbered_origin : List Local → FunctionKind → grammar.Origin grammar.Body
numbered_origin locals (kinds.Local local) = grammar.Own (numbered_body (local_ids locals local) (own_body locals local))
numbered_origin locals kind = own_origin locals kind

abbrev pub numbered_function : List Local → Function → grammar.Function
numbered_function locals f = record { ty = type_of f.kind; origin = numbered_origin locals f.kind }
