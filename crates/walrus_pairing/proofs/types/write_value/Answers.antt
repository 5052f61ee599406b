use Rattle.std.proofs.Common.{refl, sym}
use Rattle.wasm_ref_types.specs.declared.value.ValType.TheVariants.{Ref}
use Rattle.wasm_ref_types.specs.Reference.{reference}
use Rattle.walrus_pairing.proofs.types.write_value.Goals as goal

pub returns-in-None : goal.returns-in-None
returns-in-None c = (
  Ref (reference c.in-Ref.ty.nullable c.in_ok-heap_type-in-Ref.heap_type),
  rw (c.in-Ref.is, sym c.in_ok-heap_type-in-Ref.ensures) refl,
  λ h. let w = c.in-None.ensures.small.1 h in cc,
)

pub returns-in-I32 : goal.returns-in-I32
returns-in-I32 c = rw c.in-I32.is refl

pub returns-in-I64 : goal.returns-in-I64
returns-in-I64 c = rw c.in-I64.is refl

pub returns-in-F32 : goal.returns-in-F32
returns-in-F32 c = rw c.in-F32.is refl

pub returns-in-F64 : goal.returns-in-F64
returns-in-F64 c = rw c.in-F64.is refl

pub returns-in-V128 : goal.returns-in-V128
returns-in-V128 c = rw c.in-V128.is refl
