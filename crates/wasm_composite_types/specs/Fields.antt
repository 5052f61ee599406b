-- What fields hold (Core Specification, types: composite types).
use Rattle.std.specs.Prelude.{Bool, true, false}
use Rattle.wasm_ref_types.specs.declared.value.ValType.{ValType}
use Rattle.wasm_ref_types.specs.declared.value.ValType.TheVariants.{I32}
use Rattle.wasm_composite_types.specs.declared.field.StorageType.{StorageType}
use Rattle.wasm_composite_types.specs.declared.field.StorageType.TheVariants as storage

-- whether it is narrower than each value type
abbrev pub is_packed : StorageType → Bool
is_packed storage.I8 = true
is_packed storage.I16 = true
is_packed (storage.Val _) = false

-- the type of the field's value on the stack
abbrev pub unpacked : StorageType → ValType
unpacked storage.I8 = I32
unpacked storage.I16 = I32
unpacked (storage.Val ty) = ty
