-- Forms and kinds with each name replaced.
use Rattle.std.specs.Prelude.{ℕ, ◌<◌, List, map, All, Option, None, IfSome, unwrap_or, slice_index, slice_index_or}
use Rattle.std.specs.Option.{option_map}
use Rattle.walrus_forms.specs.declared.value.HeapType.{HeapType}
use Rattle.walrus_forms.specs.declared.value.HeapType.TheVariants.{Abstract, Shared, Concrete, Exact}
use Rattle.walrus_forms.specs.declared.value.RefType.{RefType}
use Rattle.walrus_forms.specs.declared.value.ValType.{ValType}
use Rattle.walrus_forms.specs.declared.value.ValType.TheVariants.{I32, I64, F32, F64, V128, Ref}
use Rattle.walrus_forms.specs.declared.value.StorageType.{StorageType}
use Rattle.walrus_forms.specs.declared.value.StorageType.TheVariants.{Val, I8, I16}
use Rattle.walrus_forms.specs.declared.value.FieldType.{FieldType}
use Rattle.walrus_forms.specs.Values.{heap_name, ref_name, value_name, storage_name, field_name}
use Rattle.walrus_forms.specs.Forms.{Form, FunctionForm, StructForm, ArrayForm}
use Rattle.walrus_forms.specs.Kinds.{Kind}

-- each name replaced by what r gives of it
abbrev pub renamed_heap : (ℕ → ℕ) → HeapType → HeapType
renamed_heap r (Abstract ty) = Abstract ty
renamed_heap r (Shared ty) = Shared ty
renamed_heap r (Concrete name) = Concrete (r name)
renamed_heap r (Exact name) = Exact (r name)

abbrev pub renamed_ref : (ℕ → ℕ) → RefType → RefType
renamed_ref r ty = record { nullable = ty.nullable; heap_type = renamed_heap r ty.heap_type }

abbrev pub renamed_value : (ℕ → ℕ) → ValType → ValType
renamed_value r I32 = I32
renamed_value r I64 = I64
renamed_value r F32 = F32
renamed_value r F64 = F64
renamed_value r V128 = V128
renamed_value r (Ref ty) = Ref (renamed_ref r ty)

abbrev pub renamed_storage : (ℕ → ℕ) → StorageType → StorageType
renamed_storage r (Val ty) = Val (renamed_value r ty)
renamed_storage r I8 = I8
renamed_storage r I16 = I16

abbrev pub renamed_field : (ℕ → ℕ) → FieldType → FieldType
renamed_field r field = record { element_type = renamed_storage r field.element_type; mutable = field.mutable }

abbrev pub renamed_form : (ℕ → ℕ) → Form → Form
renamed_form r (FunctionForm params results) = FunctionForm (map (renamed_value r) params) (map (renamed_value r) results)
renamed_form r (StructForm fields) = StructForm (map (renamed_field r) fields)
renamed_form r (ArrayForm field) = ArrayForm (renamed_field r field)

abbrev pub renamed_kind : (ℕ → ℕ) → Kind → Kind
renamed_kind r kind = record { form = renamed_form r kind.form; final = kind.final; supertype = option_map r kind.supertype; entry = kind.entry }

-- the renaming of an index to what a list has there
abbrev pub at : List ℕ → ℕ → ℕ
at ids index = slice_index ids index

-- the index that a list has for an id, 0 where it has none
abbrev pub index_at : List (Option ℕ) → ℕ → ℕ
index_at indices id = unwrap_or (slice_index_or indices id None) 0

-- each name is below n
abbrev pub HeapBelow : ℕ → HeapType → Type 0
HeapBelow n ty = IfSome (heap_name ty) (λ name. name < n)

abbrev pub RefBelow : ℕ → RefType → Type 0
RefBelow n ty = IfSome (ref_name ty) (λ name. name < n)

abbrev pub ValueBelow : ℕ → ValType → Type 0
ValueBelow n ty = IfSome (value_name ty) (λ name. name < n)

abbrev pub StorageBelow : ℕ → StorageType → Type 0
StorageBelow n storage = IfSome (storage_name storage) (λ name. name < n)

abbrev pub FieldBelow : ℕ → FieldType → Type 0
FieldBelow n field = IfSome (field_name field) (λ name. name < n)

abbrev pub FormBelow : ℕ → Form → Type 0
FormBelow n (FunctionForm params results) = All (ValueBelow n) params × All (ValueBelow n) results
FormBelow n (StructForm fields) = All (FieldBelow n) fields
FormBelow n (ArrayForm field) = FieldBelow n field

abbrev pub KindBelow : ℕ → Kind → Type 0
KindBelow n kind = FormBelow n kind.form × IfSome kind.supertype (λ name. name < n)
