-- The reference types that have names.
use Rattle.std.specs.Prelude.{List, [], ◌∷◌, map, true, false}
use Rattle.wasm_ref_types.specs.declared.heap.AbstractHeapType.{AbstractHeapType}
use Rattle.wasm_ref_types.specs.declared.heap.AbstractHeapType.TheVariants as kinds
use Rattle.wasm_ref_types.specs.declared.heap.HeapType.TheVariants.{Abstract}
use Rattle.wasm_ref_types.specs.declared.value.ValType.{ValType}
use Rattle.wasm_ref_types.specs.declared.value.ValType.TheVariants.{Ref}
use Rattle.wasm_ref_types.specs.Reference.{Reference, reference}

-- the abstract types in their order
abbrev pub abstract_types : List AbstractHeapType
abstract_types =
    kinds.Func ∷ kinds.Extern ∷ kinds.Any ∷ kinds.None ∷ kinds.NoExtern ∷ kinds.NoFunc ∷ kinds.Eq ∷ kinds.Struct ∷ kinds.Array
    ∷ kinds.I31 ∷ kinds.Exn ∷ kinds.NoExn ∷ kinds.Cont ∷ kinds.NoCont ∷ []

-- references to those that are not shared, with null and without
abbrev pub nullable_types : List Reference
nullable_types = map (λ ty. reference true (Abstract false ty)) abstract_types

abbrev pub non_null_types : List Reference
non_null_types = map (λ ty. reference false (Abstract false ty)) abstract_types

-- nullable references to functions, to values of the host, to exceptions and to continuations
abbrev pub value_types : List ValType
value_types = map (λ ty. Ref (reference true (Abstract false ty))) (kinds.Func ∷ kinds.Extern ∷ kinds.Exn ∷ kinds.Cont ∷ [])
