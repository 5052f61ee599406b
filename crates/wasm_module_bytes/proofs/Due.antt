-- Lemmas: items are what the entries say that are due to them.
use Rattle.std.specs.Prelude.{ℕ, ◌+◌, ◌≡◌, ◌==◌, ◌⊎◌, Bool, true, false, List, [], ◌∷◌, length, map, Option, Some, None, refl}
use Rattle.std.specs.List.{filter_map}
use Rattle.std.specs.Option.{is_some, option_map}
use Rattle.std.proofs.Common.{ap, sym, ◌∙◌, arith, inl, inr}
use Rattle.wasm_ref_types.specs.declared.index.UnpackedIndex.{UnpackedIndex}
use Rattle.wasm_ref_types.specs.declared.index.UnpackedIndex.TheVariants.{Module as OfModule}
use Rattle.walrus_forms.specs.declared.value.AbstractHeapType.{AbstractHeapType}
use Rattle.walrus_forms.specs.declared.value.AbstractHeapType.TheVariants as heaps
use Rattle.walrus_forms.specs.declared.value.FieldType.{FieldType}
use Rattle.walrus_forms.specs.declared.value.HeapType.{HeapType}
use Rattle.walrus_forms.specs.declared.value.HeapType.TheVariants.{Abstract, Shared, Concrete, Exact}
use Rattle.walrus_forms.specs.declared.value.RefType.{RefType}
use Rattle.walrus_forms.specs.declared.value.StorageType.{StorageType}
use Rattle.walrus_forms.specs.declared.value.StorageType.TheVariants.{Val, I8, I16}
use Rattle.walrus_forms.specs.declared.value.ValType.{ValType}
use Rattle.walrus_forms.specs.declared.value.ValType.TheVariants.{I32, I64, F32, F64, V128, Ref}
use Rattle.walrus_forms.specs.Forms.{Form, FunctionForm, StructForm, ArrayForm}
use Rattle.walrus_forms.specs.Kinds.{Kind, declared_kind}
use Rattle.walrus_forms.specs.Records.{TypeGroup}
use Rattle.wasm_formats.specs.declared.fault.Space.{Space}
use Rattle.wasm_formats.specs.declared.fault.Space.TheVariants as spaces
use Rattle.wasm_grammar.specs.Modules.{Table, Memory, Global}
use Rattle.wasm_grammar.specs.Values.{is_wide, is_shared}
use Rattle.wasm_grammar.specs.TypeWords.{abstract_of, abstract_from, heap_of, heap_from, ref_of, ref_from, value_of, value_from}
use Rattle.wasm_sections.specs.TypeNames.{told_all, storage_of, field_of, form_of, super_of, kind_of}
use Rattle.wasm_sections.specs.TypeSection.{Measured, placed, type_group}
use Rattle.wasm_sections.specs.Entities.{table_of, memory_of, global_of}
use Rattle.wasm_sections.specs.Exports.{kind_space}
use Rattle.wasm_module_bytes.specs.Due.{storage_from, field_from, form_from, sub_from, shaped, group_from, AreWritten, IsWritten, bit, table_from, memory_from, global_from, space_kind, IsExported, EntriesTell}

-- ---- types

abstract_back : (x : AbstractHeapType) → abstract_of (abstract_from x) ≡ Some x
abstract_back heaps.Func = refl
abstract_back heaps.Extern = refl
abstract_back heaps.Any = refl
abstract_back heaps.None = refl
abstract_back heaps.NoExtern = refl
abstract_back heaps.NoFunc = refl
abstract_back heaps.Eq = refl
abstract_back heaps.Struct = refl
abstract_back heaps.Array = refl
abstract_back heaps.I31 = refl
abstract_back heaps.Exn = refl
abstract_back heaps.NoExn = refl

heap_back : (x : HeapType) → heap_of (heap_from x) ≡ Some x
heap_back (Abstract ty) = ap (option_map Abstract) (abstract_back ty)
heap_back (Shared ty) = ap (option_map Shared) (abstract_back ty)
heap_back (Concrete n) = refl
heap_back (Exact n) = refl

ref_back : (x : RefType) → ref_of (ref_from x) ≡ Some x
ref_back x = ap (option_map (λ (h : HeapType). record { nullable = x.nullable; heap_type = h })) (heap_back x.heap_type)

value_back : (x : ValType) → value_of (value_from x) ≡ Some x
value_back I32 = refl
value_back I64 = refl
value_back F32 = refl
value_back F64 = refl
value_back V128 = refl
value_back (Ref r) = ap (option_map Ref) (ref_back r)

storage_back : (x : StorageType) → storage_of (storage_from x) ≡ Some x
storage_back I8 = refl
storage_back I16 = refl
storage_back (Val ty) = ap (option_map Val) (value_back ty)

field_back : (x : FieldType) → field_of (field_from x) ≡ Some x
field_back x = ap (option_map (λ (ty : StorageType). record { element_type = ty; mutable = x.mutable })) (storage_back x.element_type)

all_back : {A B : Type 0} (tell : A → Option B) (from : B → A) → ((x : B) → tell (from x) ≡ Some x) → (xs : List B) → told_all tell (map from xs) ≡ Some xs
all_back tell from back [] = refl
all_back tell from back (x ∷ xs) = rw (back x, all_back tell from back xs) refl

form_back : (x : Form) → form_of (form_from x) ≡ Some x
form_back (FunctionForm params results) = rw (all_back value_of value_from value_back params, all_back value_of value_from value_back results) refl
form_back (StructForm fields) = ap (option_map StructForm) (all_back field_of field_from field_back fields)
form_back (ArrayForm field) = ap (option_map ArrayForm) (field_back field)

abbrev sub_super : Option ℕ → Option UnpackedIndex
sub_super o = option_map OfModule o

super_back : (o : Option ℕ) → super_of (sub_super o) ≡ o
super_back None = refl
super_back (Some n) = refl

kind_back : (kind : Kind) → kind.entry ≡ false → kind_of (sub_from kind) ≡ Some kind
kind_back kind e =
    ap (option_map (λ (form : Form). declared_kind form kind.final (super_of (sub_super kind.supertype)))) (form_back kind.form)
    ∙ (λ i. Some (record { form = kind.form; final = kind.final; supertype = super_back kind.supertype i; entry = sym e i }))

-- ---- groups

kinds_back : (p : ℕ) (kinds : List Kind) → AreWritten kinds → filter_map (λ (x : Measured). kind_of x.1) (placed p (map (λ (kind : Kind). (0, sub_from kind)) kinds)) ≡ kinds
kinds_back p [] h = refl
kinds_back p (kind ∷ kinds) h = rw (kind_back kind h.0) (ap (λ (l : List Kind). kind ∷ l) (kinds_back 0 kinds h.1))

group_back : (g : TypeGroup) → IsWritten g → type_group (group_from g) ≡ g
group_back g h = go g.marked g.kinds h.0 h.1
  where
    go : (marked : Bool) (kinds : List Kind) → AreWritten kinds → ((marked ≡ true) ⊎ (length kinds ≡ 1))
        → (let made : TypeGroup = record { marked = marked; kinds = kinds } in type_group (shaped marked (map (λ (kind : Kind). (0, sub_from kind)) kinds)) ≡ made)
    go true kinds h k = ap (λ (l : List Kind). record { marked = true; kinds = l }) (kinds_back 0 kinds h)
    go false [] h (inl e) = absurd cc
    go false [] h (inr e) = absurd (omega (arith, e))
    go false (kind ∷ []) h k = rw (kind_back kind h.0) refl
    go false (kind ∷ other ∷ kinds) h (inl e) = absurd cc
    go false (kind ∷ other ∷ kinds) h (inr e) = absurd (omega (arith, e))

-- ---- tables, memories, globals, exports

table_wide : (m w : Bool) → is_wide (bit 1 m + bit 4 w) ≡ w
table_wide true true = refl
table_wide true false = refl
table_wide false true = refl
table_wide false false = refl

table_back : (t : Table) → table_of (table_from t) t.init t.imported ≡ t
table_back t =
    ap (λ (w : Bool). record { wide = w; initial = t.initial; maximum = t.maximum; element = t.element; init = t.init; imported = t.imported }) (table_wide (is_some t.maximum) t.wide)

memory_bits : (m s w p : Bool) → (is_shared (bit 1 m + bit 2 s + bit 4 w + bit 8 p) ≡ s) × (is_wide (bit 1 m + bit 2 s + bit 4 w + bit 8 p) ≡ w)
memory_bits true true true true = (refl, refl)
memory_bits true true true false = (refl, refl)
memory_bits true true false true = (refl, refl)
memory_bits true true false false = (refl, refl)
memory_bits true false true true = (refl, refl)
memory_bits true false true false = (refl, refl)
memory_bits true false false true = (refl, refl)
memory_bits true false false false = (refl, refl)
memory_bits false true true true = (refl, refl)
memory_bits false true true false = (refl, refl)
memory_bits false true false true = (refl, refl)
memory_bits false true false false = (refl, refl)
memory_bits false false true true = (refl, refl)
memory_bits false false true false = (refl, refl)
memory_bits false false false true = (refl, refl)
memory_bits false false false false = (refl, refl)

memory_back : (x : Memory) → memory_of (memory_from x) x.imported ≡ x
memory_back x =
    let b = memory_bits (is_some x.maximum) x.shared x.wide (is_some x.page_size_log2) in
    λ i. record { shared = b.0 i; wide = b.1 i; initial = x.initial; maximum = x.maximum; page_size_log2 = x.page_size_log2; imported = x.imported }

mutable_back : (b : Bool) → (bit 1 b == 1) ≡ b
mutable_back true = refl
mutable_back false = refl

global_back : (g : Global) → global_of (global_from g) g.origin ≡ g
global_back g = ap (λ (m : Bool). record { ty = g.ty; mutable = m; origin = g.origin }) (mutable_back g.mutable)

kind_space_back : (space : Space) → IsExported space → kind_space (space_kind space) ≡ space
kind_space_back spaces.Function h = refl
kind_space_back spaces.Table h = refl
kind_space_back spaces.Memory h = refl
kind_space_back spaces.Global h = refl
kind_space_back spaces.Tag h = refl
kind_space_back spaces.Type h = absurd h
kind_space_back spaces.Element h = absurd h
kind_space_back spaces.Data h = absurd h
kind_space_back spaces.Local h = absurd h
kind_space_back spaces.Label h = absurd h

pub entries_tell : EntriesTell
entries_tell = record {
  types = kind_back;
  groups = group_back;
  tables = table_back;
  memories = memory_back;
  globals = global_back;
  exports = λ e h. kind_space_back e.item.space h;
}
