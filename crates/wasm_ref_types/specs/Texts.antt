-- The texts of types (Core Specification, text format: types).
use Rattle.std.specs.Prelude.{ℕ, true, false, List, ◌++◌, codes, if◌then◌else◌}
use Rattle.std.specs.Fmt.{decimal}
use Rattle.wasm_ref_types.specs.declared.heap.AbstractHeapType.{AbstractHeapType}
use Rattle.wasm_ref_types.specs.declared.heap.AbstractHeapType.TheVariants as kinds
use Rattle.wasm_ref_types.specs.declared.heap.HeapType.{HeapType}
use Rattle.wasm_ref_types.specs.declared.heap.HeapType.TheVariants.{Abstract, Concrete, Exact}
use Rattle.wasm_ref_types.specs.declared.value.ValType.{ValType}
use Rattle.wasm_ref_types.specs.declared.value.ValType.TheVariants.{I32, I64, F32, F64, V128, Ref}
use Rattle.wasm_ref_types.specs.Indices.{number_of}
use Rattle.wasm_ref_types.specs.Reference.{Reference}

abbrev pub abstract_text : AbstractHeapType → List ℕ
abstract_text kinds.Func = codes "func"
abstract_text kinds.Extern = codes "extern"
abstract_text kinds.Any = codes "any"
abstract_text kinds.None = codes "none"
abstract_text kinds.NoExtern = codes "noextern"
abstract_text kinds.NoFunc = codes "nofunc"
abstract_text kinds.Eq = codes "eq"
abstract_text kinds.Struct = codes "struct"
abstract_text kinds.Array = codes "array"
abstract_text kinds.I31 = codes "i31"
abstract_text kinds.Exn = codes "exn"
abstract_text kinds.NoExn = codes "noexn"
abstract_text kinds.Cont = codes "cont"
abstract_text kinds.NoCont = codes "nocont"

-- an index is its number, whatever its kind
abbrev pub heap_text : HeapType → List ℕ
heap_text (Abstract false ty) = abstract_text ty
heap_text (Abstract true ty) = codes "(shared " ++ abstract_text ty ++ codes ")"
heap_text (Concrete index) = decimal (number_of index)
heap_text (Exact index) = codes "(exact " ++ decimal (number_of index) ++ codes ")"

abbrev pub reference_text : Reference → List ℕ
reference_text r =
    if r.nullable then codes "(ref null " ++ heap_text r.heap_type ++ codes ")"
    else codes "(ref " ++ heap_text r.heap_type ++ codes ")"

abbrev pub value_text : ValType → List ℕ
value_text I32 = codes "i32"
value_text I64 = codes "i64"
value_text F32 = codes "f32"
value_text F64 = codes "f64"
value_text V128 = codes "v128"
value_text (Ref r) = reference_text r
