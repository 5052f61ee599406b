-- Lemmas: what is due for the start function.
use Rattle.std.specs.Prelude.{[], ◌∷◌, Some, None, refl}
use Rattle.wasm_formats.specs.declared.fault.Space.TheVariants as spaces
use Rattle.wasm_operators.specs.Bytes.{unsigned_bytes}
use Rattle.wasm_operators.specs.Items as items
use Rattle.wasm_section_bytes.specs.Segments.{sized_bytes}
use Rattle.walrus_emit_parts.specs.Due.{section}
use Rattle.walrus_emit_due.specs.Values.{index}
use Rattle.walrus_due_laws.specs.Starts.{StartIsSpelled}
use Rattle.walrus_due_laws.proofs.Parts.{alone, plain, section_as}
use Rattle.walrus_due_laws.proofs.Values.{index_as}

pub start_spelled : StartIsSpelled
start_spelled features r look None follows = plain []
start_spelled features r look (Some id) follows =
    let due = index spaces.Function (look items.Functions id) in
    let number = unsigned_bytes (r items.Functions id) in
    let bytes = 8 ∷ sized_bytes number in
    alone (section 8 due) bytes bytes refl (section_as 8 due number (index_as r look follows spaces.Function items.Functions id))
