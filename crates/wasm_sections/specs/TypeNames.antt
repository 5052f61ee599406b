-- Subtypes as they are read: the types that they name, and the kinds that they stand for.
use Rattle.std.specs.Prelude.{ℕ, Bool, true, false, List, [], ◌∷◌, ◌++◌, Option, Some, None}
use Rattle.std.specs.Option.{option_map, option_to_list}
use Rattle.std.specs.List.{filter_map}
use Rattle.wasm_types.specs.wasm_composite_types.wasm_ref_types.declared.heap.HeapType.{HeapType as ReadHeap}
use Rattle.wasm_types.specs.wasm_composite_types.wasm_ref_types.declared.heap.HeapType.TheVariants.{Concrete, Exact}
use Rattle.wasm_types.specs.wasm_composite_types.wasm_ref_types.declared.index.UnpackedIndex.{UnpackedIndex}
use Rattle.wasm_types.specs.wasm_composite_types.wasm_ref_types.declared.index.UnpackedIndex.TheVariants.{Module}
use Rattle.wasm_types.specs.wasm_composite_types.wasm_ref_types.declared.value.ValType.{ValType as ReadValue}
use Rattle.wasm_types.specs.wasm_composite_types.wasm_ref_types.declared.value.ValType.TheVariants as values
use Rattle.wasm_types.specs.wasm_composite_types.declared.field.StorageType.{StorageType as ReadStorage}
use Rattle.wasm_types.specs.wasm_composite_types.declared.field.StorageType.TheVariants as storages
use Rattle.wasm_types.specs.wasm_composite_types.declared.field.FieldType.{FieldType as ReadField}
use Rattle.wasm_types.specs.wasm_composite_types.declared.form.CompositeInnerType.{CompositeInnerType}
use Rattle.wasm_types.specs.wasm_composite_types.declared.form.CompositeInnerType.TheVariants.{Func, Array, Struct, Cont}
use Rattle.wasm_types.specs.wasm_composite_types.declared.form.CompositeType.{CompositeType}
use Rattle.wasm_types.specs.wasm_composite_types.Fields.{unpacked}
use Rattle.wasm_types.specs.declared.subtype.SubType.{SubType}
use Rattle.wasm_grammar.specs.walrus_forms.declared.value.StorageType.{StorageType}
use Rattle.wasm_grammar.specs.walrus_forms.declared.value.StorageType.TheVariants.{Val, I8, I16}
use Rattle.wasm_grammar.specs.walrus_forms.declared.value.FieldType.{FieldType}
use Rattle.wasm_grammar.specs.walrus_forms.Forms.{Form, FunctionForm, StructForm, ArrayForm}
use Rattle.wasm_grammar.specs.walrus_forms.Kinds.{Kind, declared_kind}
use Rattle.wasm_grammar.specs.TypeWords.{value_of}

-- ---- the types that are named

abbrev pub index_number : UnpackedIndex → Option ℕ
index_number (Module n) = Some n
index_number _ = None

abbrev pub heap_index : ReadHeap → Option ℕ
heap_index (Concrete index) = index_number index
heap_index (Exact index) = index_number index
heap_index _ = None

abbrev pub value_index : ReadValue → Option ℕ
value_index (values.Ref r) = heap_index r.heap_type
value_index _ = None

abbrev pub field_index : ReadField → Option ℕ
field_index field = value_index (unpacked field.element_type)

abbrev pub inner_names : CompositeInnerType → List ℕ
inner_names (Func ty) = filter_map value_index ty.params ++ filter_map value_index ty.results
inner_names (Struct ty) = filter_map field_index ty.fields
inner_names (Array ty) = option_to_list (field_index ty.0)
inner_names (Cont ty) = []

abbrev pub super_names : Option UnpackedIndex → List ℕ
super_names None = []
super_names (Some index) = option_to_list (index_number index)

abbrev pub sub_names : SubType → List ℕ
sub_names ty = super_names ty.supertype_idx ++ inner_names ty.composite_type.inner

-- ---- what they stand for, where this project has a form for it: shared composite types have none

abbrev pub both : {A B C : Type 0} → (A → B → C) → Option A → Option B → Option C
both make (Some a) (Some b) = Some (make a b)
both make _ _ = None

abbrev pub told_all : {A B : Type 0} → (A → Option B) → List A → Option (List B)
told_all tell [] = Some []
told_all tell (x ∷ xs) = both (λ y ys. y ∷ ys) (tell x) (told_all tell xs)

abbrev pub storage_of : ReadStorage → Option StorageType
storage_of storages.I8 = Some I8
storage_of storages.I16 = Some I16
storage_of (storages.Val ty) = option_map Val (value_of ty)

abbrev pub field_of : ReadField → Option FieldType
field_of field = option_map (λ ty. record { element_type = ty; mutable = field.mutable }) (storage_of field.element_type)

abbrev pub form_of : CompositeInnerType → Option Form
form_of (Func ty) = both FunctionForm (told_all value_of ty.params) (told_all value_of ty.results)
form_of (Struct ty) = option_map StructForm (told_all field_of ty.fields)
form_of (Array ty) = option_map ArrayForm (field_of ty.0)
form_of (Cont ty) = None

abbrev pub composite_form : CompositeType → Option Form
composite_form ty = if_unshared ty.shared (form_of ty.inner)
  where
    if_unshared : Bool → Option Form → Option Form
    if_unshared true form = None
    if_unshared false form = form

abbrev pub super_of : Option UnpackedIndex → Option ℕ
super_of None = None
super_of (Some index) = index_number index

abbrev pub kind_of : SubType → Option Kind
kind_of ty = option_map (λ form. declared_kind form ty.is_final (super_of ty.supertype_idx)) (composite_form ty.composite_type)
