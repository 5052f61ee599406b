-- Synthetic names: they are given as those of a file are, and before these.
use Rattle.std.specs.Prelude.{ℕ, nat_lt, List, [], ◌∷◌, ◌++◌, length, Option, Some, None, codes, decimal, if◌then◌else◌, slice_get}
use Rattle.std.specs.List.{flat_map, range_with_len}
use Rattle.std.specs.Option.{option_map, option_and_then}
use Rattle.wasm_formats.specs.declared.fault.Space.TheVariants as spaces
use Rattle.wasm_name_payloads.specs.Names.{ALocal, Given, given, item_in}
use Rattle.walrus_arena.specs.Arena.{item_at}
use Rattle.walrus_index_maps.specs.Maps.{Ids}
use Rattle.walrus_item_names.specs.Holder.{Holder}
use Rattle.walrus_module.specs.walrus_module_items.declared.function.Function.{Function}
use Rattle.walrus_module.specs.walrus_module_items.Functions.{local_of}
use Rattle.walrus_payloads_into.specs.Numbered.{locals_in}

-- f and the function's number
abbrev pub function_text : ℕ → List ℕ
function_text number = codes "f" ++ decimal number

-- arg or l and the local's number; arguments stand first
abbrev pub local_text : ℕ → ℕ → List ℕ
local_text args number = (if nat_lt number args then codes "arg" else codes "l") ++ decimal number

-- what each number below n gives, in turn
abbrev pub each_below : ℕ → (ℕ → List Given) → List Given
each_below n f = flat_map f (range_with_len 0 n)

-- the name of a local of a function of so many arguments
abbrev pub local_names : ℕ → ℕ → ℕ → List Given
local_names function args n = given (ALocal function n) (local_text args n) ∷ []

-- the names of a function of so many locals and of these, if it has a body, of so many arguments
abbrev pub function_names : ℕ → ℕ → Option ℕ → List Given
function_names number locals None = []
function_names number locals (Some args) = given (item_in spaces.Function number) (function_text number) ∷ each_below locals (local_names number args)

-- how many arguments the function of this id has, if it has a body
abbrev pub args_of : Option Function → Option ℕ
args_of o = option_map (λ body. length body.args.items) (option_and_then (λ (f : Function). local_of f.kind) o)

abbrev pub body_args : Holder → ℕ → Option ℕ
body_args m id = args_of (item_at m.funcs id)

-- of the function of a number
abbrev pub synthetic_at : Ids → Holder → ℕ → List Given
synthetic_at ids m number = function_names number (length (locals_in ids number)) (option_and_then (body_args m) (slice_get ids.functions number))

-- of all functions with a body
abbrev pub synthetic : Ids → Holder → List Given
synthetic ids m = each_below (length ids.functions) (synthetic_at ids m)
