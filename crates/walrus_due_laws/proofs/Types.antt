-- Lemmas: what is due for types, which name one another by their indices.
use Rattle.std.specs.Prelude.{ℕ, Bool, true, false, List, [], ◌∷◌, ◌++◌, length, map, Option, Some, None, Ok}
use Rattle.std.specs.Option.{option_map, option_to_list}
use Rattle.std.proofs.Common.{sym}
use Rattle.std.proofs.lemmas.List.{append-nil}
use Rattle.wasm_features.specs.declared.WasmFeatures.{WasmFeatures}
use Rattle.wasm_ref_types.specs.declared.index.UnpackedIndex.TheVariants.{Module}
use Rattle.wasm_formats.specs.declared.fault.Limited.TheVariants as limits_of
use Rattle.wasm_operators.specs.Bytes.{unsigned_bytes, value_bytes, vec_bytes}
use Rattle.wasm_grammar.specs.States.{nothing_yet}
use Rattle.wasm_grammar.specs.TypeWords.{value_from}
use Rattle.wasm_sections.specs.TypeSection.{Measured}
use Rattle.wasm_sections.specs.Sections.{TypeSection}
use Rattle.wasm_section_bytes.specs.TypeBytes.{field_bytes, form_bytes, index_bytes, mutable_bytes, storage_bytes, sub_bytes}
use Rattle.wasm_section_bytes.specs.Placed.{group_bytes, member_bytes}
use Rattle.wasm_module_bytes.specs.Due.{field_from, form_from, group_from, shaped, storage_from, sub_from}
use Rattle.wasm_canonical.specs.Due.{entry}
use Rattle.walrus_forms.specs.declared.value.HeapType.{HeapType}
use Rattle.walrus_forms.specs.declared.value.HeapType.TheVariants.{Abstract, Shared, Concrete, Exact}
use Rattle.walrus_forms.specs.declared.value.ValType.{ValType}
use Rattle.walrus_forms.specs.declared.value.ValType.TheVariants.{I32, I64, F32, F64, V128, Ref}
use Rattle.walrus_forms.specs.declared.value.StorageType.{StorageType}
use Rattle.walrus_forms.specs.declared.value.StorageType.TheVariants as storages
use Rattle.walrus_forms.specs.declared.value.FieldType.{FieldType}
use Rattle.walrus_forms.specs.Forms.{Form, FunctionForm, StructForm, ArrayForm}
use Rattle.walrus_forms.specs.Kinds.{Kind}
use Rattle.walrus_forms.specs.Records.{TypeGroup}
use Rattle.wasm_formats.specs.declared.fault.Form.TheVariants.{ExactType}
use Rattle.walrus_errors.specs.declared.error.ModuleError.TheVariants.{Unsupported}
use Rattle.walrus_emit_parts.specs.Due.{Due, lacking, number, vec}
use Rattle.walrus_emit_due.specs.Types.{field, form, group, group_of, kind, list, members, mutability, storage, supertypes, value}
use Rattle.walrus_due_laws.specs.Spelled.{SpelledAs}
use Rattle.walrus_due_laws.specs.Types.{TypesAreSpelled}
use Rattle.walrus_due_laws.proofs.Parts.{both, lacks, led, plain, turned, within}
use Rattle.walrus_due_laws.proofs.Lists.{mapped_as, mapped_entries}
use Rattle.walrus_due_laws.proofs.Plain.{entry_plain}

-- a list of at most so many
list_as : {A E : Type 0} (due : A → Due) (from : A → E) (of : E → List ℕ) → ((x : A) → SpelledAs (due x) (of (from x))) → (most : ℕ) (xs : List A)
    → SpelledAs (list most due xs) (vec_bytes of (map from xs))
list_as due from of each most xs = within most (length xs) limits_of.«List» (vec due xs) (vec_bytes of (map from xs)) (mapped_as due of from each xs)

-- ---- values

abbrev a_ref : Bool → HeapType → ValType
a_ref nullable h = Ref (record { nullable = nullable; heap_type = h })

abbrev ref_bytes : Bool → HeapType → List ℕ
ref_bytes nullable h = value_bytes (value_from (a_ref nullable h))

ref_as : (nullable : Bool) (h : HeapType) → SpelledAs (value (a_ref nullable h)) (ref_bytes nullable h)
ref_as true (Abstract k) = plain (ref_bytes true (Abstract k))
ref_as false (Abstract k) = plain (ref_bytes false (Abstract k))
ref_as true (Shared k) = plain (ref_bytes true (Shared k))
ref_as false (Shared k) = plain (ref_bytes false (Shared k))
ref_as true (Concrete i) = plain (ref_bytes true (Concrete i))
ref_as false (Concrete i) = plain (ref_bytes false (Concrete i))
ref_as true (Exact i) = led 0x63 (lacking (Unsupported ExactType None)) [] (lacks (Unsupported ExactType None) [])
ref_as false (Exact i) = led 0x64 (lacking (Unsupported ExactType None)) [] (lacks (Unsupported ExactType None) [])

value_as : (ty : ValType) → SpelledAs (value ty) (value_bytes (value_from ty))
value_as I32 = plain (0x7f ∷ [])
value_as I64 = plain (0x7e ∷ [])
value_as F32 = plain (0x7d ∷ [])
value_as F64 = plain (0x7c ∷ [])
value_as V128 = plain (0x7b ∷ [])
value_as (Ref ty) = ref_as ty.nullable ty.heap_type

-- ---- fields

storage_as : (ty : StorageType) → SpelledAs (storage ty) (storage_bytes (storage_from ty))
storage_as (storages.Val ty) = value_as ty
storage_as storages.I8 = plain (0x78 ∷ [])
storage_as storages.I16 = plain (0x77 ∷ [])

mutability_as : (mutable : Bool) → SpelledAs (mutability mutable) (mutable_bytes mutable)
mutability_as true = plain (0x01 ∷ [])
mutability_as false = plain (0x00 ∷ [])

field_as : (ty : FieldType) → SpelledAs (field ty) (field_bytes (field_from ty))
field_as ty =
    both (storage ty.element_type) (mutability ty.mutable) (storage_bytes (storage_from ty.element_type)) (mutable_bytes ty.mutable) (storage_as ty.element_type) (mutability_as ty.mutable)

-- ---- composite types

values_as : (tys : List ValType) → SpelledAs (list 1000 value tys) (vec_bytes value_bytes (map value_from tys))
values_as tys = list_as value value_from value_bytes value_as 1000 tys

form_as : (f : Form) → SpelledAs (form f) (form_bytes (form_from f))
form_as (FunctionForm params results) =
    let one = vec_bytes value_bytes (map value_from params) in
    let two = vec_bytes value_bytes (map value_from results) in
    led 0x60 (list 1000 value params ++ list 1000 value results) (one ++ two) (both (list 1000 value params) (list 1000 value results) one two (values_as params) (values_as results))
form_as (StructForm fields) = led 0x5f (list 10000 field fields) (vec_bytes field_bytes (map field_from fields)) (list_as field field_from field_bytes field_as 10000 fields)
form_as (ArrayForm ty) = led 0x5e (field ty) (field_bytes (field_from ty)) (field_as ty)

-- ---- subtypes

abbrev supertype_bytes : Option ℕ → List ℕ
supertype_bytes o = vec_bytes index_bytes (option_to_list (option_map Module o))

supertypes_as : (o : Option ℕ) → SpelledAs (supertypes o) (supertype_bytes o)
supertypes_as None = turned (number 0) (unsigned_bytes 0) (supertype_bytes None) (sym (append-nil (unsigned_bytes 0))) (plain (unsigned_bytes 0))
supertypes_as (Some i) =
    both (number 1) (number i) (unsigned_bytes 1) (unsigned_bytes i ++ []) (plain (unsigned_bytes 1))
    (turned (number i) (unsigned_bytes i) (unsigned_bytes i ++ []) (sym (append-nil (unsigned_bytes i))) (plain (unsigned_bytes i)))

declared_as : (byte : ℕ) (o : Option ℕ) (f : Form) → SpelledAs (Ok byte ∷ (supertypes o ++ form f)) (byte ∷ (supertype_bytes o ++ form_bytes (form_from f)))
declared_as byte o f =
    led byte (supertypes o ++ form f) (supertype_bytes o ++ form_bytes (form_from f)) (both (supertypes o) (form f) (supertype_bytes o) (form_bytes (form_from f)) (supertypes_as o) (form_as f))

abbrev a_kind : Form → Bool → Option ℕ → Bool → Kind
a_kind f final supertype entry = record { form = f; final = final; supertype = supertype; entry = entry }

made_as : (f : Form) (final : Bool) (supertype : Option ℕ) (entry : Bool) → SpelledAs (kind (a_kind f final supertype entry)) (sub_bytes (sub_from (a_kind f final supertype entry)))
made_as f true None entry = form_as f
made_as f true (Some i) entry = declared_as 0x4f (Some i) f
made_as f false None entry = declared_as 0x50 None f
made_as f false (Some i) entry = declared_as 0x50 (Some i) f

kind_as : (k : Kind) → SpelledAs (kind k) (sub_bytes (sub_from k))
kind_as k = made_as k.form k.final k.supertype k.entry

-- ---- groups

abbrev measured : Kind → Measured
measured k = (0, sub_from k)

-- a group that is written as one
members_as : (kinds : List Kind) → SpelledAs (members kinds) (0x4e ∷ vec_bytes member_bytes (map measured kinds))
members_as kinds = led 0x4e (list 1000000 kind kinds) (vec_bytes member_bytes (map measured kinds)) (list_as kind measured member_bytes kind_as 1000000 kinds)

module _ (features : WasmFeatures) where
  shaped_as : (marked : Bool) (kinds : List Kind) → SpelledAs (group_of marked kinds) (group_bytes features (shaped marked (map measured kinds)))
  shaped_as false (k ∷ []) = kind_as k
  shaped_as false [] = members_as []
  shaped_as false (k ∷ l ∷ ks) = members_as (k ∷ l ∷ ks)
  shaped_as true [] = members_as []
  shaped_as true (k ∷ ks) = members_as (k ∷ ks)

  group_as : (g : TypeGroup) → SpelledAs (group g) (group_bytes features (group_from g))
  group_as g = shaped_as g.marked g.kinds

pub types_spelled : TypesAreSpelled
types_spelled features groups =
    mapped_entries group (group_bytes features) features 1 TypeSection (λ es. entry_plain features nothing_yet (entry (TypeSection es))) group_from (group_as features) groups
