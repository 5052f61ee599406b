-- Tables and memories (Core Specification, types: table types, memory types).
use Rattle.std.specs.Prelude.{ℕ, Bool, true, false, Option, Some, None}
use Rattle.wasm_ref_types.specs.declared.value.ValType.{ValType}
use Rattle.wasm_ref_types.specs.declared.value.ValType.TheVariants.{I32, I64}

-- the type of addresses
abbrev pub address_type : Bool → ValType
address_type true = I64
address_type false = I32

-- the binary logarithm of a page's bytes: 65,536 where none is given
abbrev pub log_of : Option ℕ → ℕ
log_of (Some log) = log
log_of None = 16
