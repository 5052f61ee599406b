-- What is due for the types of functions.
use Rattle.std.specs.Prelude.{ℕ, List, length, Option, Some, None}
use Rattle.wasm_formats.specs.declared.fault.Limited.TheVariants as limits_of
use Rattle.wasm_formats.specs.declared.fault.Space.TheVariants as spaces
use Rattle.wasm_operators.specs.Items as items
use Rattle.wasm_grammar.specs.Modules.{Function}
use Rattle.walrus_errors.specs.declared.error.ModuleError.TheVariants.{DeadReference}
use Rattle.walrus_pairing.specs.Looks.{Look}
use Rattle.walrus_emit_parts.specs.Due.{Due, entries, lacking, limited}
use Rattle.walrus_emit_due.specs.Values.{index}
use Rattle.walrus_emit_due.specs.Own.{live}
use Rattle.walrus_emit_due.specs.Slots.{live_at}

-- the number of the function's type, if the function lives
abbrev pub type_of : Look → Option Function → Due
type_of look (Some f) = index spaces.«Type» (look items.Types f.ty)
type_of look None = lacking (DeadReference spaces.Function)

abbrev pub type_in : Look → List (Option Function) → ℕ → Due
type_in look slots id = type_of look (live_at slots id)

-- of these ids; no reader takes more functions than that, imported ones among them
abbrev pub function_types : Look → List (Option Function) → List ℕ → Due
function_types look slots ids = limited 1000000 (length (live slots)) limits_of.Functions (entries 3 (type_in look slots) ids)
