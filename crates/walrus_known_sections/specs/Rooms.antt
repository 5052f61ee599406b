-- Entries that there may be no room for.
use Rattle.std.specs.Prelude.{ℕ, ◌||◌, nat_le, Bool, true, false, Result, Ok, Err, if◌then◌else◌}
use Rattle.wasm_reader.specs.declared.error.ErrorKind.{ErrorKind}
use Rattle.wasm_reader.specs.declared.error.ErrorKind.TheVariants as kinds
use Rattle.wasm_formats.specs.declared.fault.Limited.{Limited}
use Rattle.walrus_section_values.specs.walrus_section_reader.declared.fault.Fault.{Fault}
use Rattle.walrus_section_values.specs.walrus_section_reader.declared.fault.FaultKind.{FaultKind}
use Rattle.walrus_section_values.specs.walrus_section_reader.declared.fault.FaultKind.TheVariants as faults
use Rattle.walrus_section_values.specs.walrus_section_reader.Faults.{fault_of}

abbrev pub is_memory_kind : ErrorKind → Bool
is_memory_kind kinds.Memory = true
is_memory_kind _ = false

abbrev pub is_memory : FaultKind → Bool
is_memory (faults.Read kind) = is_memory_kind kind
is_memory _ = false

-- what was read where there is no room: a fault of the first byte stays, and want of memory
abbrev pub without_room : {X : Type 0} → Limited → ℕ → Result X Fault → Result X Fault
without_room of offset (Ok x) = Err (fault_of (faults.Limit of) offset)
without_room of offset (Err e) = if is_memory e.kind || nat_le e.offset offset then Err e else Err (fault_of (faults.Limit of) offset)

abbrev pub in_room : {X : Type 0} → Bool → Limited → ℕ → Result X Fault → Result X Fault
in_room true of offset read = read
in_room false of offset read = without_room of offset read
