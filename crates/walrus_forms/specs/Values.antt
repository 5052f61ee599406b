-- Value types and the types that they name.
use Rattle.std.specs.Prelude.{ℕ, true, List, [], ◌∷◌, map, Option, Some, None}
use Rattle.walrus_forms.specs.declared.value.AbstractHeapType.{AbstractHeapType}
use Rattle.walrus_forms.specs.declared.value.AbstractHeapType.TheVariants as kinds
use Rattle.walrus_forms.specs.declared.value.HeapType.{HeapType}
use Rattle.walrus_forms.specs.declared.value.HeapType.TheVariants.{Abstract, Shared, Concrete, Exact}
use Rattle.walrus_forms.specs.declared.value.RefType.{RefType}
use Rattle.walrus_forms.specs.declared.value.ValType.{ValType}
use Rattle.walrus_forms.specs.declared.value.ValType.TheVariants.{I32, Ref}
use Rattle.walrus_forms.specs.declared.value.StorageType.{StorageType}
use Rattle.walrus_forms.specs.declared.value.StorageType.TheVariants.{Val, I8, I16}
use Rattle.walrus_forms.specs.declared.value.FieldType.{FieldType}

-- nullable references to the values of an abstract type
abbrev pub nullable : AbstractHeapType → RefType
nullable ty = record { nullable = true; heap_type = Abstract ty }

-- the reference types that have names, in the order of the abstract types
abbrev pub named_types : List RefType
named_types =
    map nullable (kinds.Func ∷ kinds.Extern ∷ kinds.Any ∷ kinds.None ∷ kinds.NoExtern ∷ kinds.NoFunc ∷ kinds.Eq ∷ kinds.Struct ∷ kinds.Array
    ∷ kinds.I31 ∷ kinds.Exn ∷ [])

-- the value type of a field's value on the stack (Core Specification, field types: unpacking)
abbrev pub unpacked : StorageType → ValType
unpacked (Val ty) = ty
unpacked I8 = I32
unpacked I16 = I32

-- the type that a heap type names, if it names one
abbrev pub heap_name : HeapType → Option ℕ
heap_name (Abstract _) = None
heap_name (Shared _) = None
heap_name (Concrete id) = Some id
heap_name (Exact id) = Some id

-- the type that a reference type names
abbrev pub ref_name : RefType → Option ℕ
ref_name ty = heap_name ty.heap_type

-- the type that a value type names
abbrev pub value_name : ValType → Option ℕ
value_name (Ref ty) = heap_name ty.heap_type
value_name _ = None

-- the type that what a field holds names
abbrev pub storage_name : StorageType → Option ℕ
storage_name storage = value_name (unpacked storage)

-- the type that a field names
abbrev pub field_name : FieldType → Option ℕ
field_name field = value_name (unpacked field.element_type)
