-- Value types (Core Specification, types: value types).
use Rattle.std.specs.Prelude.{Bool, true, false, Option, Some, None}
use Rattle.wasm_ref_types.specs.declared.value.ValType.{ValType}
use Rattle.wasm_ref_types.specs.declared.value.ValType.TheVariants.{Ref}
use Rattle.wasm_ref_types.specs.Reference.{Reference}

-- the reference type that it is
abbrev pub value_reference : ValType → Option Reference
value_reference (Ref ty) = Some ty
value_reference _ = None

abbrev pub is_reference : ValType → Bool
is_reference (Ref ty) = true
is_reference _ = false

-- numbers and vectors have the default 0, nullable references null (Core Specification, validation: defaultable types)
abbrev pub has_default : ValType → Bool
has_default (Ref ty) = ty.nullable
has_default _ = true
