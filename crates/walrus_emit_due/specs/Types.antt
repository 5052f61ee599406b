-- What is due for the type section, of types that name one another by their indices (Core Specification, binary format: types, type section).
use Rattle.std.specs.Prelude.{ℕ, Bool, true, false, List, [], ◌∷◌, ◌++◌, length, Option, Some, None}
use Rattle.wasm_formats.specs.declared.fault.Limited.TheVariants as limits
use Rattle.wasm_grammar.specs.TypeWords.{heap_from, ref_from, value_from}
use Rattle.walrus_forms.specs.declared.value.HeapType.{HeapType}
use Rattle.walrus_forms.specs.declared.value.RefType.{RefType}
use Rattle.walrus_forms.specs.declared.value.ValType.{ValType}
use Rattle.walrus_forms.specs.declared.value.StorageType.{StorageType}
use Rattle.walrus_forms.specs.declared.value.StorageType.TheVariants.{Val, I8, I16}
use Rattle.walrus_forms.specs.declared.value.FieldType.{FieldType}
use Rattle.walrus_forms.specs.Forms.{Form, FunctionForm, StructForm, ArrayForm}
use Rattle.walrus_forms.specs.Kinds.{Kind}
use Rattle.walrus_forms.specs.Records.{TypeGroup}
use Rattle.walrus_emit_parts.specs.Due.{Due, entries, limited, number, vec, written}
use Rattle.walrus_emit_due.specs.Values as values
use Rattle.walrus_emit_due.specs.Values.{bit}

-- each index is its own number
abbrev pub itself : ℕ → Option ℕ
itself index = Some index

abbrev pub heap : HeapType → Due
heap ty = values.heap itself (heap_from ty)

abbrev pub reference : RefType → Due
reference ty = values.reference itself (ref_from ty)

abbrev pub value : ValType → Due
value ty = values.value itself (value_from ty)

-- ---- fields

abbrev pub storage : StorageType → Due
storage (Val ty) = value ty
storage I8 = written (0x78 ∷ [])
storage I16 = written (0x77 ∷ [])

abbrev pub mutability : Bool → Due
mutability mutable = written (bit 1 mutable ∷ [])

abbrev pub field : FieldType → Due
field ty = storage ty.element_type ++ mutability ty.mutable

-- ---- composite types, lists as long as readers take them

-- a list of at most so many
abbrev pub list : {A : Type 0} → ℕ → (A → Due) → List A → Due
list most due xs = limited most (length xs) limits.«List» (vec due xs)

abbrev pub form : Form → Due
form (FunctionForm params results) = written (0x60 ∷ []) ++ (list 1000 value params ++ list 1000 value results)
form (StructForm fields) = written (0x5f ∷ []) ++ list 10000 field fields
form (ArrayForm ty) = written (0x5e ∷ []) ++ field ty

-- ---- subtypes

-- at most one
abbrev pub supertypes : Option ℕ → Due
supertypes None = number 0
supertypes (Some index) = number 1 ++ number index

-- a final type without supertype is its composite type alone
abbrev pub subtype : Bool → Option ℕ → Due → Due
subtype true None form = form
subtype true supertype form = written (0x4f ∷ []) ++ (supertypes supertype ++ form)
subtype false supertype form = written (0x50 ∷ []) ++ (supertypes supertype ++ form)

abbrev pub kind : Kind → Due
kind ty = subtype ty.final ty.supertype (form ty.form)

-- ---- recursive types

abbrev pub members : List Kind → Due
members kinds = written (0x4e ∷ []) ++ list 1000000 kind kinds

-- one type that isn't marked stands bare
abbrev pub group_of : Bool → List Kind → Due
group_of false (ty ∷ []) = kind ty
group_of marked kinds = members kinds

abbrev pub group : TypeGroup → Due
group g = group_of g.marked g.kinds

-- the section; none of no groups
abbrev pub type_section : List TypeGroup → Due
type_section groups = entries 1 group groups
