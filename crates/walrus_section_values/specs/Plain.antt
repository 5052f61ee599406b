-- Types of numbers and vectors, as they are read.
use Rattle.std.specs.Prelude.{Bool, true, false}
use Rattle.wasm_ref_types.specs.declared.value.ValType.{ValType as ReadValue}
use Rattle.wasm_ref_types.specs.declared.value.ValType.TheVariants as values
use Rattle.walrus_forms.specs.declared.value.ValType.{ValType}
use Rattle.walrus_forms.specs.declared.value.ValType.TheVariants.{I32, I64, F32, F64, V128}

-- the type that is told of; a reference type is taken for a vector's
abbrev pub plain_of : ReadValue → ValType
plain_of values.I32 = I32
plain_of values.I64 = I64
plain_of values.F32 = F32
plain_of values.F64 = F64
plain_of values.V128 = V128
plain_of (values.Ref ty) = V128

-- whether it is a reference type
abbrev pub is_ref : ReadValue → Bool
is_ref values.I32 = false
is_ref values.I64 = false
is_ref values.F32 = false
is_ref values.F64 = false
is_ref values.V128 = false
is_ref (values.Ref ty) = true
