-- The texts of types (Core Specification, text format: types).
use Rattle.std.specs.Prelude.{ℕ, List, ◌++◌, codes, if◌then◌else◌}
use Rattle.std.specs.Fmt.{decimal}
use Rattle.walrus_forms.specs.declared.value.AbstractHeapType.{AbstractHeapType}
use Rattle.walrus_forms.specs.declared.value.AbstractHeapType.TheVariants as kinds
use Rattle.walrus_forms.specs.declared.value.HeapType.{HeapType}
use Rattle.walrus_forms.specs.declared.value.HeapType.TheVariants.{Abstract, Shared, Concrete, Exact}
use Rattle.walrus_forms.specs.declared.value.RefType.{RefType}
use Rattle.walrus_forms.specs.declared.value.ValType.{ValType}
use Rattle.walrus_forms.specs.declared.value.ValType.TheVariants.{I32, I64, F32, F64, V128, Ref}

abbrev pub abstract_text : AbstractHeapType → List ℕ
abstract_text kinds.Func = codes "func"
abstract_text kinds.Extern = codes "extern"
abstract_text kinds.Any = codes "any"
abstract_text kinds.None = codes "none"
abstract_text kinds.NoExtern = codes "noextern"
abstract_text kinds.NoFunc = codes "nofunc"
abstract_text kinds.Eq = codes "eq"
abstract_text kinds.Struct = codes "struct"
abstract_text kinds.Array = codes "array"
abstract_text kinds.I31 = codes "i31"
abstract_text kinds.Exn = codes "exn"
abstract_text kinds.NoExn = codes "noexn"

-- a type that is named is the number of its id
abbrev pub heap_text : HeapType → List ℕ
heap_text (Abstract ty) = abstract_text ty
heap_text (Shared ty) = codes "(shared " ++ abstract_text ty ++ codes ")"
heap_text (Concrete id) = decimal id
heap_text (Exact id) = codes "(exact " ++ decimal id ++ codes ")"

abbrev pub reference_text : RefType → List ℕ
reference_text ty =
    if ty.nullable then codes "(ref null " ++ heap_text ty.heap_type ++ codes ")"
    else codes "(ref " ++ heap_text ty.heap_type ++ codes ")"

abbrev pub value_text : ValType → List ℕ
value_text I32 = codes "i32"
value_text I64 = codes "i64"
value_text F32 = codes "f32"
value_text F64 = codes "f64"
value_text V128 = codes "v128"
value_text (Ref ty) = reference_text ty
