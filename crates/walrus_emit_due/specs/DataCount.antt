-- What is due for the count of data segments.
use Rattle.std.specs.Prelude.{ℕ, Bool, true, false, ◌||◌, List, [], length, Option}
use Rattle.std.specs.List.{list_any}
use Rattle.wasm_formats.specs.declared.fault.Limited.TheVariants as limits_of
use Rattle.wasm_grammar.specs.Modules.{Mode, Passive, Declared, Active, Segment}
use Rattle.walrus_emit_parts.specs.Due.{Due, limited, number, section}
use Rattle.walrus_emit_due.specs.Own.{live}

-- copied where an instruction says so
abbrev pub is_passive : Mode → Bool
is_passive Passive = true
is_passive Declared = false
is_passive (Active memory offset) = false

abbrev pub waits : Segment → Bool
waits x = is_passive x.mode

-- it is asked for where a segment is passive, or a body names one
abbrev pub is_asked : Bool → List Segment → Bool
is_asked is_named segments = is_named || list_any waits segments

-- so many, where that is asked for
abbrev pub counted : Bool → ℕ → Due
counted true n = section 12 (number n)
counted false n = []

abbrev pub data_count : Bool → List (Option Segment) → Due
data_count is_named slots = limited 100000 (length (live slots)) limits_of.Data (counted (is_asked is_named (live slots)) (length (live slots)))
