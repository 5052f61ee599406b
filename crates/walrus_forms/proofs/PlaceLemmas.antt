-- Value types and fields compare by their places.
use Rattle.std.proofs.Common.{◌≡◌, refl, ap, Ordering}
use Rattle.std.specs.declared.cmp.Ordering.TheVariants.{Less, Equal, Greater}
use Rattle.std.specs.Ordering.{ordering_then, bool_cmp, nat_cmp}
use Rattle.walrus_forms.specs.declared.value.AbstractHeapType.{AbstractHeapType}
use Rattle.walrus_forms.specs.declared.value.AbstractHeapType.TheVariants.{Func, Extern, Any, None, NoExtern, NoFunc, Eq, Struct, Array, I31, Exn, NoExn}
use Rattle.walrus_forms.specs.declared.value.HeapType.{HeapType}
use Rattle.walrus_forms.specs.declared.value.HeapType.TheVariants.{Abstract, Shared, Concrete, Exact}
use Rattle.walrus_forms.specs.declared.value.RefType.{RefType}
use Rattle.walrus_forms.specs.declared.value.ValType.{ValType}
use Rattle.walrus_forms.specs.declared.value.ValType.TheVariants.{I32, I64, F32, F64, V128, Ref}
use Rattle.walrus_forms.specs.declared.value.StorageType.{StorageType}
use Rattle.walrus_forms.specs.declared.value.StorageType.TheVariants.{Val, I8, I16}
use Rattle.walrus_forms.specs.declared.value.FieldType.{FieldType}
use Rattle.walrus_forms.specs.contracts.value.AbstractHeapTypeOrd.TheImpl.{ghosts as abstract_ord}
use Rattle.walrus_forms.specs.contracts.value.HeapTypeOrd.TheImpl.{ghosts as heap_ord}
use Rattle.walrus_forms.specs.contracts.value.RefTypeOrd.TheImpl.{ghosts as ref_ord}
use Rattle.walrus_forms.specs.contracts.value.ValTypeOrd.TheImpl.{ghosts as value_ord}
use Rattle.walrus_forms.specs.contracts.value.StorageTypeOrd.TheImpl.{ghosts as storage_ord}
use Rattle.walrus_forms.specs.contracts.value.FieldTypeOrd.TheImpl.{ghosts as field_ord}
use Rattle.walrus_forms.specs.ValueOrder.{abstract_place, heap_cmp, ref_cmp, value_cmp, storage_cmp, field_cmp}

abstract-places : (a b : AbstractHeapType) → abstract_ord.cmp a b ≡ nat_cmp (abstract_place a) (abstract_place b)
abstract-places Func Func = refl
abstract-places Func Extern = refl
abstract-places Func Any = refl
abstract-places Func None = refl
abstract-places Func NoExtern = refl
abstract-places Func NoFunc = refl
abstract-places Func Eq = refl
abstract-places Func Struct = refl
abstract-places Func Array = refl
abstract-places Func I31 = refl
abstract-places Func Exn = refl
abstract-places Func NoExn = refl
abstract-places Extern Func = refl
abstract-places Extern Extern = refl
abstract-places Extern Any = refl
abstract-places Extern None = refl
abstract-places Extern NoExtern = refl
abstract-places Extern NoFunc = refl
abstract-places Extern Eq = refl
abstract-places Extern Struct = refl
abstract-places Extern Array = refl
abstract-places Extern I31 = refl
abstract-places Extern Exn = refl
abstract-places Extern NoExn = refl
abstract-places Any Func = refl
abstract-places Any Extern = refl
abstract-places Any Any = refl
abstract-places Any None = refl
abstract-places Any NoExtern = refl
abstract-places Any NoFunc = refl
abstract-places Any Eq = refl
abstract-places Any Struct = refl
abstract-places Any Array = refl
abstract-places Any I31 = refl
abstract-places Any Exn = refl
abstract-places Any NoExn = refl
abstract-places None Func = refl
abstract-places None Extern = refl
abstract-places None Any = refl
abstract-places None None = refl
abstract-places None NoExtern = refl
abstract-places None NoFunc = refl
abstract-places None Eq = refl
abstract-places None Struct = refl
abstract-places None Array = refl
abstract-places None I31 = refl
abstract-places None Exn = refl
abstract-places None NoExn = refl
abstract-places NoExtern Func = refl
abstract-places NoExtern Extern = refl
abstract-places NoExtern Any = refl
abstract-places NoExtern None = refl
abstract-places NoExtern NoExtern = refl
abstract-places NoExtern NoFunc = refl
abstract-places NoExtern Eq = refl
abstract-places NoExtern Struct = refl
abstract-places NoExtern Array = refl
abstract-places NoExtern I31 = refl
abstract-places NoExtern Exn = refl
abstract-places NoExtern NoExn = refl
abstract-places NoFunc Func = refl
abstract-places NoFunc Extern = refl
abstract-places NoFunc Any = refl
abstract-places NoFunc None = refl
abstract-places NoFunc NoExtern = refl
abstract-places NoFunc NoFunc = refl
abstract-places NoFunc Eq = refl
abstract-places NoFunc Struct = refl
abstract-places NoFunc Array = refl
abstract-places NoFunc I31 = refl
abstract-places NoFunc Exn = refl
abstract-places NoFunc NoExn = refl
abstract-places Eq Func = refl
abstract-places Eq Extern = refl
abstract-places Eq Any = refl
abstract-places Eq None = refl
abstract-places Eq NoExtern = refl
abstract-places Eq NoFunc = refl
abstract-places Eq Eq = refl
abstract-places Eq Struct = refl
abstract-places Eq Array = refl
abstract-places Eq I31 = refl
abstract-places Eq Exn = refl
abstract-places Eq NoExn = refl
abstract-places Struct Func = refl
abstract-places Struct Extern = refl
abstract-places Struct Any = refl
abstract-places Struct None = refl
abstract-places Struct NoExtern = refl
abstract-places Struct NoFunc = refl
abstract-places Struct Eq = refl
abstract-places Struct Struct = refl
abstract-places Struct Array = refl
abstract-places Struct I31 = refl
abstract-places Struct Exn = refl
abstract-places Struct NoExn = refl
abstract-places Array Func = refl
abstract-places Array Extern = refl
abstract-places Array Any = refl
abstract-places Array None = refl
abstract-places Array NoExtern = refl
abstract-places Array NoFunc = refl
abstract-places Array Eq = refl
abstract-places Array Struct = refl
abstract-places Array Array = refl
abstract-places Array I31 = refl
abstract-places Array Exn = refl
abstract-places Array NoExn = refl
abstract-places I31 Func = refl
abstract-places I31 Extern = refl
abstract-places I31 Any = refl
abstract-places I31 None = refl
abstract-places I31 NoExtern = refl
abstract-places I31 NoFunc = refl
abstract-places I31 Eq = refl
abstract-places I31 Struct = refl
abstract-places I31 Array = refl
abstract-places I31 I31 = refl
abstract-places I31 Exn = refl
abstract-places I31 NoExn = refl
abstract-places Exn Func = refl
abstract-places Exn Extern = refl
abstract-places Exn Any = refl
abstract-places Exn None = refl
abstract-places Exn NoExtern = refl
abstract-places Exn NoFunc = refl
abstract-places Exn Eq = refl
abstract-places Exn Struct = refl
abstract-places Exn Array = refl
abstract-places Exn I31 = refl
abstract-places Exn Exn = refl
abstract-places Exn NoExn = refl
abstract-places NoExn Func = refl
abstract-places NoExn Extern = refl
abstract-places NoExn Any = refl
abstract-places NoExn None = refl
abstract-places NoExn NoExtern = refl
abstract-places NoExn NoFunc = refl
abstract-places NoExn Eq = refl
abstract-places NoExn Struct = refl
abstract-places NoExn Array = refl
abstract-places NoExn I31 = refl
abstract-places NoExn Exn = refl
abstract-places NoExn NoExn = refl

then-equal : (o : Ordering) → ordering_then o Equal ≡ o
then-equal Less = refl
then-equal Equal = refl
then-equal Greater = refl

heap-places : (a b : HeapType) → heap_ord.cmp a b ≡ heap_cmp a b
heap-places (Abstract a) (Abstract b) = abstract-places a b
heap-places (Abstract a) (Shared b) = refl
heap-places (Abstract a) (Concrete b) = refl
heap-places (Abstract a) (Exact b) = refl
heap-places (Shared a) (Abstract b) = refl
heap-places (Shared a) (Shared b) = abstract-places a b
heap-places (Shared a) (Concrete b) = refl
heap-places (Shared a) (Exact b) = refl
heap-places (Concrete a) (Abstract b) = refl
heap-places (Concrete a) (Shared b) = refl
heap-places (Concrete a) (Concrete b) = then-equal (nat_cmp a b)
heap-places (Concrete a) (Exact b) = refl
heap-places (Exact a) (Abstract b) = refl
heap-places (Exact a) (Shared b) = refl
heap-places (Exact a) (Concrete b) = refl
heap-places (Exact a) (Exact b) = then-equal (nat_cmp a b)

ref-places : (a b : RefType) → ref_ord.cmp a b ≡ ref_cmp a b
ref-places a b = ap (ordering_then (bool_cmp a.nullable b.nullable)) (heap-places a.heap_type b.heap_type)

pub value-places : (a b : ValType) → value_ord.cmp a b ≡ value_cmp a b
value-places I32 I32 = refl
value-places I32 I64 = refl
value-places I32 F32 = refl
value-places I32 F64 = refl
value-places I32 V128 = refl
value-places I32 (Ref b) = refl
value-places I64 I32 = refl
value-places I64 I64 = refl
value-places I64 F32 = refl
value-places I64 F64 = refl
value-places I64 V128 = refl
value-places I64 (Ref b) = refl
value-places F32 I32 = refl
value-places F32 I64 = refl
value-places F32 F32 = refl
value-places F32 F64 = refl
value-places F32 V128 = refl
value-places F32 (Ref b) = refl
value-places F64 I32 = refl
value-places F64 I64 = refl
value-places F64 F32 = refl
value-places F64 F64 = refl
value-places F64 V128 = refl
value-places F64 (Ref b) = refl
value-places V128 I32 = refl
value-places V128 I64 = refl
value-places V128 F32 = refl
value-places V128 F64 = refl
value-places V128 V128 = refl
value-places V128 (Ref b) = refl
value-places (Ref a) I32 = refl
value-places (Ref a) I64 = refl
value-places (Ref a) F32 = refl
value-places (Ref a) F64 = refl
value-places (Ref a) V128 = refl
value-places (Ref a) (Ref b) = ref-places a b

storage-places : (a b : StorageType) → storage_ord.cmp a b ≡ storage_cmp a b
storage-places (Val a) (Val b) = value-places a b
storage-places (Val a) I8 = refl
storage-places (Val a) I16 = refl
storage-places I8 (Val b) = refl
storage-places I8 I8 = refl
storage-places I8 I16 = refl
storage-places I16 (Val b) = refl
storage-places I16 I8 = refl
storage-places I16 I16 = refl

pub field-places : (a b : FieldType) → field_ord.cmp a b ≡ field_cmp a b
field-places a b = ap (λ (o : Ordering). ordering_then o (bool_cmp a.mutable b.mutable)) (storage-places a.element_type b.element_type)
