-- The order of value types and of what fields hold, as types are written in it (Core Specification has
-- none): by the place of each in a list.
use Rattle.std.specs.Prelude.{ℕ}
use Rattle.std.specs.declared.cmp.Ordering.{Ordering}
use Rattle.std.specs.declared.cmp.Ordering.TheVariants.{Less, Greater}
use Rattle.std.specs.Ordering.{ordering_then, bool_cmp, nat_cmp}
use Rattle.walrus_forms.specs.declared.value.AbstractHeapType.{AbstractHeapType}
use Rattle.walrus_forms.specs.declared.value.AbstractHeapType.TheVariants.{Func, Extern, Any, None, NoExtern, NoFunc, Eq, Struct, Array, I31, Exn, NoExn}
use Rattle.walrus_forms.specs.declared.value.HeapType.{HeapType}
use Rattle.walrus_forms.specs.declared.value.HeapType.TheVariants.{Abstract, Shared, Concrete, Exact}
use Rattle.walrus_forms.specs.declared.value.RefType.{RefType}
use Rattle.walrus_forms.specs.declared.value.ValType.{ValType}
use Rattle.walrus_forms.specs.declared.value.ValType.TheVariants.{I32, I64, F32, F64, V128, Ref}
use Rattle.walrus_forms.specs.declared.value.StorageType.{StorageType}
use Rattle.walrus_forms.specs.declared.value.StorageType.TheVariants.{Val, I8, I16}
use Rattle.walrus_forms.specs.declared.value.FieldType.{FieldType}

-- the place of an abstract heap type
abbrev pub abstract_place : AbstractHeapType → ℕ
abstract_place Func = 0
abstract_place Extern = 1
abstract_place Any = 2
abstract_place None = 3
abstract_place NoExtern = 4
abstract_place NoFunc = 5
abstract_place Eq = 6
abstract_place Struct = 7
abstract_place Array = 8
abstract_place I31 = 9
abstract_place Exn = 10
abstract_place NoExn = 11

-- abstract heap types, then those that are shared, then types, then exact ones, these by id
abbrev pub heap_cmp : HeapType → HeapType → Ordering
heap_cmp (Abstract a) (Abstract b) = nat_cmp (abstract_place a) (abstract_place b)
heap_cmp (Abstract a) _ = Less
heap_cmp (Shared a) (Abstract b) = Greater
heap_cmp (Shared a) (Shared b) = nat_cmp (abstract_place a) (abstract_place b)
heap_cmp (Shared a) _ = Less
heap_cmp (Concrete a) (Concrete b) = nat_cmp a b
heap_cmp (Concrete a) (Exact b) = Less
heap_cmp (Concrete a) _ = Greater
heap_cmp (Exact a) (Exact b) = nat_cmp a b
heap_cmp (Exact a) _ = Greater

-- references without null first, then by what they point to
abbrev pub ref_cmp : RefType → RefType → Ordering
ref_cmp a b = ordering_then (bool_cmp a.nullable b.nullable) (heap_cmp a.heap_type b.heap_type)

-- the place of a value type; references come last
abbrev pub value_place : ValType → ℕ
value_place I32 = 0
value_place I64 = 1
value_place F32 = 2
value_place F64 = 3
value_place V128 = 4
value_place (Ref _) = 5

abbrev pub value_cmp : ValType → ValType → Ordering
value_cmp (Ref a) (Ref b) = ref_cmp a b
value_cmp a b = nat_cmp (value_place a) (value_place b)

-- value types, then integers of 8 and of 16 bits
abbrev pub storage_cmp : StorageType → StorageType → Ordering
storage_cmp (Val a) (Val b) = value_cmp a b
storage_cmp (Val a) _ = Less
storage_cmp _ (Val b) = Greater
storage_cmp I8 I8 = nat_cmp 0 0
storage_cmp I8 I16 = Less
storage_cmp I16 I8 = Greater
storage_cmp I16 I16 = nat_cmp 0 0

-- by what they hold, then those that can't be written first
abbrev pub field_cmp : FieldType → FieldType → Ordering
field_cmp a b = ordering_then (storage_cmp a.element_type b.element_type) (bool_cmp a.mutable b.mutable)
