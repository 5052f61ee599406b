-- What is due for the start function.
use Rattle.std.specs.Prelude.{ℕ, [], Option, Some, None}
use Rattle.wasm_formats.specs.declared.fault.Space.TheVariants as spaces
use Rattle.wasm_operators.specs.Items as items
use Rattle.walrus_pairing.specs.Looks.{Look}
use Rattle.walrus_emit_parts.specs.Due.{Due, section}
use Rattle.walrus_emit_due.specs.Values.{index}

abbrev pub start : Look → Option ℕ → Due
start look None = []
start look (Some id) = section 8 (index spaces.Function (look items.Functions id))
