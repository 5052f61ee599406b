-- Single types whose names are sent through maps, and the records that describe them.
use Rattle.std.proofs.Common.{◌≡◌, ◌∙◌, ℕ, IfSome, refl, ap, sym}
use Rattle.std.specs.Option.{option_map}
use Rattle.walrus_forms.specs.declared.value.HeapType.{HeapType}
use Rattle.walrus_forms.specs.declared.value.HeapType.TheVariants.{Abstract, Shared, Concrete, Exact}
use Rattle.walrus_forms.specs.declared.value.RefType.{RefType}
use Rattle.walrus_forms.specs.declared.value.ValType.{ValType}
use Rattle.walrus_forms.specs.declared.value.ValType.TheVariants.{I32, I64, F32, F64, V128, Ref}
use Rattle.walrus_forms.specs.declared.value.StorageType.{StorageType}
use Rattle.walrus_forms.specs.declared.value.StorageType.TheVariants.{Val, I8, I16}
use Rattle.walrus_forms.specs.declared.value.FieldType.{FieldType}
use Rattle.walrus_forms.specs.declared.record.HeapRecord.{HeapRecord}
use Rattle.walrus_forms.specs.declared.record.HeapRecord.TheVariants.{Abstract as RAbstract, Shared as RShared, Concrete as RConcrete, Exact as RExact}
use Rattle.walrus_forms.specs.declared.record.RefRecord.{RefRecord}
use Rattle.walrus_forms.specs.declared.record.ValRecord.{ValRecord}
use Rattle.walrus_forms.specs.declared.record.ValRecord.TheVariants.{I32 as RI32, I64 as RI64, F32 as RF32, F64 as RF64, V128 as RV128, Ref as RRef}
use Rattle.walrus_forms.specs.declared.record.StorageRecord.{StorageRecord}
use Rattle.walrus_forms.specs.declared.record.StorageRecord.TheVariants.{Val as RVal, I8 as RI8, I16 as RI16}
use Rattle.walrus_forms.specs.declared.record.FieldRecord.{FieldRecord}
use Rattle.walrus_forms.specs.Values.{heap_name, value_name, storage_name}
use Rattle.walrus_forms.specs.Records.{heap_of, ref_of, value_of, storage_of, field_of}
use Rattle.walrus_forms.specs.Renaming.{renamed_heap, renamed_value, renamed_storage}
use Rattle.walrus_forms.specs.Conversions.{NamesAreRenamed, Undoes, TypesComeBack, RecordsAreTold}

heap_renamed : (r : ℕ → ℕ) (ty : HeapType) → heap_name (renamed_heap r ty) ≡ option_map r (heap_name ty)
heap_renamed r (Abstract ty) = refl
heap_renamed r (Shared ty) = refl
heap_renamed r (Concrete name) = refl
heap_renamed r (Exact name) = refl

value_renamed : (r : ℕ → ℕ) (ty : ValType) → value_name (renamed_value r ty) ≡ option_map r (value_name ty)
value_renamed r I32 = refl
value_renamed r I64 = refl
value_renamed r F32 = refl
value_renamed r F64 = refl
value_renamed r V128 = refl
value_renamed r (Ref ty) = heap_renamed r ty.heap_type

storage_renamed : (r : ℕ → ℕ) (ty : StorageType) → storage_name (renamed_storage r ty) ≡ option_map r (storage_name ty)
storage_renamed r (Val ty) = value_renamed r ty
storage_renamed r I8 = refl
storage_renamed r I16 = refl

pub names_are_renamed : NamesAreRenamed
names_are_renamed = record {
  heap = heap_renamed;
  reference = λ r ty. heap_renamed r ty.heap_type;
  value = value_renamed;
  storage = storage_renamed;
  field = λ r field. storage_renamed r field.element_type;
}

heap_back : (back there : ℕ → ℕ) (ty : HeapType) → IfSome (heap_name ty) (Undoes back there) → renamed_heap back (renamed_heap there ty) ≡ ty
heap_back back there (Abstract ty) h = refl
heap_back back there (Shared ty) h = refl
heap_back back there (Concrete name) h = ap Concrete h
heap_back back there (Exact name) h = ap Exact h

value_back : (back there : ℕ → ℕ) (ty : ValType) → IfSome (value_name ty) (Undoes back there) → renamed_value back (renamed_value there ty) ≡ ty
value_back back there I32 h = refl
value_back back there I64 h = refl
value_back back there F32 h = refl
value_back back there F64 h = refl
value_back back there V128 h = refl
value_back back there (Ref ty) h = ap (λ (heap : HeapType). Ref (record { nullable = ty.nullable; heap_type = heap })) (heap_back back there ty.heap_type h)

storage_back : (back there : ℕ → ℕ) (ty : StorageType) → IfSome (storage_name ty) (Undoes back there) → renamed_storage back (renamed_storage there ty) ≡ ty
storage_back back there (Val ty) h = ap Val (value_back back there ty h)
storage_back back there I8 h = refl
storage_back back there I16 h = refl

pub types_come_back : TypesComeBack
types_come_back = record {
  heap = heap_back;
  reference = λ back there ty h. ap (λ (heap : HeapType). let made : RefType = record { nullable = ty.nullable; heap_type = heap } in made) (heap_back back there ty.heap_type h);
  value = value_back;
  storage = storage_back;
  field = λ back there field h. ap (λ (storage : StorageType). let made : FieldType = record { element_type = storage; mutable = field.mutable } in made) (storage_back back there field.element_type h);
}

-- the record that describes a type
abbrev heap_made : HeapType → HeapRecord
heap_made (Abstract ty) = RAbstract ty
heap_made (Shared ty) = RShared ty
heap_made (Concrete index) = RConcrete index
heap_made (Exact index) = RExact index

abbrev ref_made : RefType → RefRecord
ref_made ty = record { nullable = ty.nullable; heap_type = heap_made ty.heap_type }

abbrev value_made : ValType → ValRecord
value_made I32 = RI32
value_made I64 = RI64
value_made F32 = RF32
value_made F64 = RF64
value_made V128 = RV128
value_made (Ref ty) = RRef (ref_made ty)

abbrev storage_made : StorageType → StorageRecord
storage_made (Val ty) = RVal (value_made ty)
storage_made I8 = RI8
storage_made I16 = RI16

abbrev field_made : FieldType → FieldRecord
field_made field = record { element_type = storage_made field.element_type; mutable = field.mutable }

heap_again : (ty : HeapRecord) → heap_made (heap_of ty) ≡ ty
heap_again (RAbstract ty) = refl
heap_again (RShared ty) = refl
heap_again (RConcrete index) = refl
heap_again (RExact index) = refl

ref_again : (ty : RefRecord) → ref_made (ref_of ty) ≡ ty
ref_again ty = ap (λ (heap : HeapRecord). let made : RefRecord = record { nullable = ty.nullable; heap_type = heap } in made) (heap_again ty.heap_type)

value_again : (ty : ValRecord) → value_made (value_of ty) ≡ ty
value_again RI32 = refl
value_again RI64 = refl
value_again RF32 = refl
value_again RF64 = refl
value_again RV128 = refl
value_again (RRef ty) = ap RRef (ref_again ty)

storage_again : (ty : StorageRecord) → storage_made (storage_of ty) ≡ ty
storage_again (RVal ty) = ap RVal (value_again ty)
storage_again RI8 = refl
storage_again RI16 = refl

field_again : (field : FieldRecord) → field_made (field_of field) ≡ field
field_again field = ap (λ (storage : StorageRecord). let made : FieldRecord = record { element_type = storage; mutable = field.mutable } in made) (storage_again field.element_type)

pub records_are_told : RecordsAreTold
records_are_told = record {
  heap = λ a b e. sym (heap_again a) ∙ ap heap_made e ∙ heap_again b;
  reference = λ a b e. sym (ref_again a) ∙ ap ref_made e ∙ ref_again b;
  value = λ a b e. sym (value_again a) ∙ ap value_made e ∙ value_again b;
  storage = λ a b e. sym (storage_again a) ∙ ap storage_made e ∙ storage_again b;
  field = λ a b e. sym (field_again a) ∙ ap field_made e ∙ field_again b;
}
