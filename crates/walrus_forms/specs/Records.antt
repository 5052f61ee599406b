-- What a contract sees of the records of a type section: kinds whose names are indices of the section.
use Rattle.std.specs.Prelude.{Bool, true, false, List, map}
use Rattle.walrus_forms.specs.declared.value.HeapType.{HeapType}
use Rattle.walrus_forms.specs.declared.value.HeapType.TheVariants.{Abstract, Shared, Concrete, Exact}
use Rattle.walrus_forms.specs.declared.value.RefType.{RefType}
use Rattle.walrus_forms.specs.declared.value.ValType.{ValType}
use Rattle.walrus_forms.specs.declared.value.ValType.TheVariants.{I32, I64, F32, F64, V128, Ref}
use Rattle.walrus_forms.specs.declared.value.StorageType.{StorageType}
use Rattle.walrus_forms.specs.declared.value.StorageType.TheVariants.{Val, I8, I16}
use Rattle.walrus_forms.specs.declared.value.FieldType.{FieldType}
use Rattle.walrus_forms.specs.declared.record.HeapRecord.{HeapRecord}
use Rattle.walrus_forms.specs.declared.record.HeapRecord.TheVariants.{Abstract as RAbstract, Shared as RShared, Concrete as RConcrete, Exact as RExact}
use Rattle.walrus_forms.specs.declared.record.RefRecord.{RefRecord}
use Rattle.walrus_forms.specs.declared.record.ValRecord.{ValRecord}
use Rattle.walrus_forms.specs.declared.record.ValRecord.TheVariants.{I32 as RI32, I64 as RI64, F32 as RF32, F64 as RF64, V128 as RV128, Ref as RRef}
use Rattle.walrus_forms.specs.declared.record.StorageRecord.{StorageRecord}
use Rattle.walrus_forms.specs.declared.record.StorageRecord.TheVariants.{Val as RVal, I8 as RI8, I16 as RI16}
use Rattle.walrus_forms.specs.declared.record.FieldRecord.{FieldRecord}
use Rattle.walrus_forms.specs.declared.record.CompositeRecord.{CompositeRecord}
use Rattle.walrus_forms.specs.declared.record.CompositeRecord.TheVariants.{Function as RFunction, Struct as RStruct, Array as RArray}
use Rattle.walrus_forms.specs.declared.record.TypeRecord.{TypeRecord}
use Rattle.walrus_forms.specs.declared.record.GroupRecord.{GroupRecord}
use Rattle.walrus_forms.specs.Forms.{Form, FunctionForm, StructForm, ArrayForm}
use Rattle.walrus_forms.specs.Kinds.{Kind, declared_kind}

-- what a record describes, where each name is an index
abbrev pub heap_of : HeapRecord → HeapType
heap_of (RAbstract ty) = Abstract ty
heap_of (RShared ty) = Shared ty
heap_of (RConcrete index) = Concrete index
heap_of (RExact index) = Exact index

abbrev pub ref_of : RefRecord → RefType
ref_of ty = record { nullable = ty.nullable; heap_type = heap_of ty.heap_type }

abbrev pub value_of : ValRecord → ValType
value_of RI32 = I32
value_of RI64 = I64
value_of RF32 = F32
value_of RF64 = F64
value_of RV128 = V128
value_of (RRef ty) = Ref (ref_of ty)

-- a number's or a vector's type; a reference type is taken for a vector's
abbrev pub plain_of : ValRecord → ValType
plain_of RI32 = I32
plain_of RI64 = I64
plain_of RF32 = F32
plain_of RF64 = F64
plain_of RV128 = V128
plain_of (RRef ty) = V128

-- whether it is a reference type
abbrev pub is_ref : ValRecord → Bool
is_ref RI32 = false
is_ref RI64 = false
is_ref RF32 = false
is_ref RF64 = false
is_ref RV128 = false
is_ref (RRef ty) = true

abbrev pub storage_of : StorageRecord → StorageType
storage_of (RVal ty) = Val (value_of ty)
storage_of RI8 = I8
storage_of RI16 = I16

abbrev pub field_of : FieldRecord → FieldType
field_of field = record { element_type = storage_of field.element_type; mutable = field.mutable }

abbrev pub record_form : CompositeRecord → Form
record_form (RFunction params results) = FunctionForm (map value_of params.items) (map value_of results.items)
record_form (RStruct fields) = StructForm (map field_of fields.items)
record_form (RArray field) = ArrayForm (field_of field)

abbrev pub record_kind : TypeRecord → Kind
record_kind ty = declared_kind (record_form ty.kind) ty.is_final ty.supertype

-- a recursion group of a type section (Core Specification, recursive types): whether it is written as
-- one, and the kinds of its members
pub record TypeGroup : Type 0 where
  pub marked : Bool
  pub kinds : List Kind

abbrev pub type_group : GroupRecord → TypeGroup
type_group group = record { marked = group.marked; kinds = map record_kind group.types.items }
