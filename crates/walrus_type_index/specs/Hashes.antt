-- A number of each kind, by which types are told apart. Any function of kinds would do: no answer rests on how numbers spread.
-- It has two halves of 64 bits. By the first one types that differ in an id alone lie in the order of these; but a file can be made whose
-- types all have one first half, as that is linear in their numbers. The second one isn't linear, so that such types differ in it.
use Rattle.std.specs.Prelude.{ℕ, ◌+◌, ◌*◌, ◌/◌, ◌^◌, ◌%◌, List, [], ◌∷◌, Option, None, slice_index_or, if◌then◌else◌}
use Rattle.std.specs.Option.{option_map_or}
use Rattle.walrus_items.specs.walrus_forms.declared.value.HeapType.{HeapType}
use Rattle.walrus_items.specs.walrus_forms.declared.value.HeapType.TheVariants.{Abstract, Shared, Concrete, Exact}
use Rattle.walrus_items.specs.walrus_forms.declared.value.RefType.{RefType}
use Rattle.walrus_items.specs.walrus_forms.declared.value.ValType.{ValType}
use Rattle.walrus_items.specs.walrus_forms.declared.value.ValType.TheVariants.{I32, I64, F32, F64, V128, Ref}
use Rattle.walrus_items.specs.walrus_forms.declared.value.StorageType.{StorageType}
use Rattle.walrus_items.specs.walrus_forms.declared.value.StorageType.TheVariants.{Val, I8, I16}
use Rattle.walrus_items.specs.walrus_forms.declared.value.FieldType.{FieldType}
use Rattle.walrus_items.specs.walrus_forms.Forms.{Form, FunctionForm, StructForm, ArrayForm}
use Rattle.walrus_items.specs.walrus_forms.Kinds.{Kind}
use Rattle.walrus_items.specs.walrus_forms.ValueOrder.{abstract_place}

-- the first half of a hash with one more number in it
abbrev pub next_first : ℕ → ℕ → ℕ
next_first hash number = ((hash * 16777619) % 2 ^ 64 + number) % 2 ^ 64

-- both halves of a product in one
abbrev pub folded : ℕ → ℕ
folded product = (product / 2 ^ 64 + product % 2 ^ 64) % 2 ^ 64

-- the second half with one more number in it
abbrev pub next_second : ℕ → ℕ → ℕ
next_second hash number = let sum = (hash + number) % 2 ^ 64 in folded (sum * ((sum + 11400714819323198485) % 2 ^ 64))

-- the hash with one more number in it
abbrev pub next_hash : ℕ → ℕ → ℕ
next_hash hash number = next_first (hash / 2 ^ 64) number * 2 ^ 64 + next_second (hash % 2 ^ 64) number

abbrev pub heap_number : HeapType → ℕ
heap_number (Abstract ty) = 8 + abstract_place ty
heap_number (Shared ty) = 20 + abstract_place ty
heap_number (Concrete id) = 32 + id
heap_number (Exact id) = 32 + id

-- references without null have their numbers behind those with it, as many as heap types have
abbrev pub ref_number : RefType → ℕ
ref_number ty = if ty.nullable then heap_number ty.heap_type else heap_number ty.heap_type + (2 ^ 32 + 24)

abbrev pub value_number : ValType → ℕ
value_number I32 = 1
value_number I64 = 2
value_number F32 = 3
value_number F64 = 4
value_number V128 = 5
value_number (Ref ty) = ref_number ty

-- of a number's or a vector's type; a reference type has 0
abbrev pub plain_number : ValType → ℕ
plain_number I32 = 1
plain_number I64 = 2
plain_number F32 = 3
plain_number F64 = 4
plain_number V128 = 5
plain_number (Ref ty) = 0

abbrev pub storage_number : StorageType → ℕ
storage_number I8 = 6
storage_number I16 = 7
storage_number (Val ty) = value_number ty

-- with these value types in it, and with their end
abbrev pub values_hash : ℕ → List ValType → ℕ
values_hash hash [] = next_hash hash 0
values_hash hash (value ∷ values) = values_hash (next_hash hash (value_number value)) values

abbrev pub fields_hash : ℕ → List FieldType → ℕ
fields_hash hash [] = hash
fields_hash hash (field ∷ fields) = fields_hash (next_hash hash (storage_number field.element_type)) fields

abbrev pub form_hash : Form → ℕ
form_hash (FunctionForm params results) = values_hash (values_hash 0 params) results
form_hash (StructForm fields) = fields_hash (2 ^ 64) fields
form_hash (ArrayForm field) = next_hash (2 * 2 ^ 64) (storage_number field.element_type)

abbrev pub hash_of : Kind → ℕ
hash_of kind = form_hash kind.form

-- the hash of the type of that id, if it lives
abbrev pub hash_at : List (Option Kind) → ℕ → ℕ
hash_at kinds id = option_map_or hash_of (slice_index_or kinds id None) 0
