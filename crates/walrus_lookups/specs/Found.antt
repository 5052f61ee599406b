-- Functions by what users call them.
use Rattle.std.specs.Prelude.{ℕ, List, Option, Some, None}
use Rattle.std.specs.Option.{option_and_then}
use Rattle.walrus_arena.specs.Arena.{Arena, lowest_id}
use Rattle.walrus_collections.specs.LookUps.{lowest}
use Rattle.walrus_collections.specs.Tests.{exported_function, function_export_named, function_named}
use Rattle.walrus_collections.specs.walrus_module_items.declared.export.Export.{Export}
use Rattle.walrus_collections.specs.walrus_module_items.declared.function.Function.{Function}

-- the first, or else the second
abbrev pub or_else : Option ℕ → Option ℕ → Option ℕ
or_else (Some id) other = Some id
or_else None other = other

-- the lowest function of this name, or else the one of the lowest export of a function of this name
abbrev pub function_called : List ℕ → Arena Function → Arena Export → Option ℕ
function_called name funcs exports =
    or_else (lowest_id (function_named name) funcs) (option_and_then (λ e. exported_function e.1.item) (lowest (function_export_named name) exports))
