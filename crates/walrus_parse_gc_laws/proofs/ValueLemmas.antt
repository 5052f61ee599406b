-- Lemmas: types that aren't exact, as tests say it, renamed, and as they are read.
use Rattle.std.proofs.Common.{subst}
use Rattle.std.specs.List.{AllByRecursion, list_any}
use Rattle.std.specs.Prelude.{Bool, Err, List, None, Ok, Option, Some, [], false, map, refl, true, ℕ, ◌||◌, ◌∷◌, ◌≡◌}
use Rattle.walrus_pass_laws.specs.walrus_exact.Exact.{block_exact, field_exact, form_exact, heap_exact, val_exact}
use Rattle.walrus_parse_laws.specs.walrus_pairing.walrus_forms.Forms.{ArrayForm, Form, FunctionForm, StructForm}
use Rattle.walrus_parse_laws.specs.walrus_pairing.walrus_forms.Renaming.{renamed_field, renamed_form, renamed_heap, renamed_ref, renamed_storage, renamed_value}
use Rattle.walrus_parse_laws.specs.walrus_pairing.walrus_forms.Values.{unpacked}
use Rattle.walrus_parse_laws.specs.walrus_pairing.walrus_forms.declared.value.AbstractHeapType.{AbstractHeapType}
use Rattle.walrus_parse_laws.specs.walrus_pairing.walrus_forms.declared.value.FieldType.{FieldType}
use Rattle.walrus_parse_laws.specs.walrus_pairing.walrus_forms.declared.value.HeapType.TheVariants as heaps
use Rattle.walrus_parse_laws.specs.walrus_pairing.walrus_forms.declared.value.HeapType.{HeapType}
use Rattle.walrus_parse_laws.specs.walrus_pairing.walrus_forms.declared.value.RefType.{RefType}
use Rattle.walrus_parse_laws.specs.walrus_pairing.walrus_forms.declared.value.StorageType.TheVariants as storages
use Rattle.walrus_parse_laws.specs.walrus_pairing.walrus_forms.declared.value.StorageType.{StorageType}
use Rattle.walrus_parse_laws.specs.walrus_pairing.walrus_forms.declared.value.ValType.TheVariants as values
use Rattle.walrus_parse_laws.specs.walrus_pairing.walrus_forms.declared.value.ValType.{ValType}
use Rattle.walrus_marks.specs.walrus_instr.declared.seq.InstrSeqType.TheVariants.{Simple, MultiValue}
use Rattle.walrus_marks.specs.walrus_instr.declared.seq.InstrSeqType.{InstrSeqType}
use Rattle.walrus_parse_laws.specs.walrus_pairing.Looks.{Or, ◌>>=◌}
use Rattle.walrus_parse_laws.specs.walrus_pairing.Types.{read_abstract, read_heap, read_index, read_value}
use Rattle.walrus_parse_laws.specs.walrus_pairing.wasm_operators.Items.{Item, Names, Number, S32, S64, Bits, Byte, Bytes, Heap, Block, Access, ManyLabels, ManyValues, ManyClauses}
use Rattle.walrus_parse_laws.specs.walrus_pairing.wasm_operators.declared.block_type.BlockType.TheVariants as blocks
use Rattle.wasm_inexact_modules.specs.Inexact.{InexactField, InexactForm, InexactHeap, InexactItem, InexactOperator, InexactRef, InexactValue, InexactValues, InexactWord, InexactWritten}
use Rattle.walrus_parse_laws.specs.walrus_pairing.wasm_operators.Names.{Renaming, renamed_item, renamed_operator, renamed_heap as renamed_written, renamed_value as renamed_word}
use Rattle.walrus_parse_laws.specs.walrus_named_bodies.walrus_file_bodies.walrus_items_into.walrus_module_env.walrus_body_parser.wasm_operators.Operators.{Seen}
use Rattle.walrus_parse_laws.specs.walrus_pairing.wasm_operators.wasm_ref_types.declared.heap.HeapType.TheVariants as written
use Rattle.walrus_parse_laws.specs.walrus_pairing.wasm_operators.wasm_ref_types.declared.heap.HeapType.{HeapType as WrittenHeap}
use Rattle.walrus_parse_laws.specs.walrus_pairing.wasm_operators.wasm_ref_types.declared.value.ValType.TheVariants as words
use Rattle.walrus_parse_laws.specs.walrus_pairing.wasm_operators.wasm_ref_types.declared.value.ValType.{ValType as WrittenValue}

-- ---- tests

pub or_false : (a b : Bool) → a ≡ false → b ≡ false → (a || b) ≡ false
or_false false b e f = f
or_false true b e f = absurd cc

pub any_false : {A : Type 0} (test : A → Bool) (P : A → Type 0) → ((x : A) → P x → test x ≡ false) → (xs : List A) → AllByRecursion P xs → list_any test xs ≡ false
any_false test P f [] h = refl
any_false test P f (x ∷ xs) h = or_false (test x) (list_any test xs) (f x h.0) (any_false test P f xs h.1)

pub heap_false : (ty : HeapType) → InexactHeap ty → heap_exact ty ≡ false
heap_false (heaps.Abstract kind) h = refl
heap_false (heaps.Shared kind) h = refl
heap_false (heaps.Concrete id) h = refl
heap_false (heaps.Exact id) h = absurd h

pub value_false : (ty : ValType) → InexactValue ty → val_exact ty ≡ false
value_false values.I32 h = refl
value_false values.I64 h = refl
value_false values.F32 h = refl
value_false values.F64 h = refl
value_false values.V128 h = refl
value_false (values.Ref ty) h = heap_false ty.heap_type h

values_false : (tys : List ValType) → InexactValues tys → list_any val_exact tys ≡ false
values_false tys h = any_false val_exact InexactValue value_false tys h

pub form_false : (form : Form) → InexactForm form → form_exact form ≡ false
form_false (FunctionForm params results) h = or_false (list_any val_exact params) (list_any val_exact results) (values_false params h.0) (values_false results h.1)
form_false (StructForm fields) h = any_false field_exact InexactField (λ field h. value_false (unpacked field.element_type) h) fields h
form_false (ArrayForm field) h = value_false (unpacked field.element_type) h

-- ---- renamed types

module _ (r : ℕ → ℕ) where
  heap_renamed : (ty : HeapType) → InexactHeap ty → InexactHeap (renamed_heap r ty)
  heap_renamed (heaps.Abstract kind) h = tt
  heap_renamed (heaps.Shared kind) h = tt
  heap_renamed (heaps.Concrete id) h = tt
  heap_renamed (heaps.Exact id) h = absurd h

  pub ref_renamed : (ty : RefType) → InexactRef ty → InexactRef (renamed_ref r ty)
  ref_renamed ty h = heap_renamed ty.heap_type h

  pub value_renamed : (ty : ValType) → InexactValue ty → InexactValue (renamed_value r ty)
  value_renamed values.I32 h = tt
  value_renamed values.I64 h = tt
  value_renamed values.F32 h = tt
  value_renamed values.F64 h = tt
  value_renamed values.V128 h = tt
  value_renamed (values.Ref ty) h = heap_renamed ty.heap_type h

  pub values_renamed : (tys : List ValType) → InexactValues tys → InexactValues (map (renamed_value r) tys)
  values_renamed [] h = tt
  values_renamed (ty ∷ tys) h = (value_renamed ty h.0, values_renamed tys h.1)

  storage_renamed : (s : StorageType) → InexactValue (unpacked s) → InexactValue (unpacked (renamed_storage r s))
  storage_renamed (storages.Val ty) h = value_renamed ty h
  storage_renamed storages.I8 h = tt
  storage_renamed storages.I16 h = tt

  fields_renamed : (fields : List FieldType) → AllByRecursion InexactField fields → AllByRecursion InexactField (map (renamed_field r) fields)
  fields_renamed [] h = tt
  fields_renamed (field ∷ fields) h = (storage_renamed field.element_type h.0, fields_renamed fields h.1)

  pub form_renamed : (form : Form) → InexactForm form → InexactForm (renamed_form r form)
  form_renamed (FunctionForm params results) h = (values_renamed params h.0, values_renamed results h.1)
  form_renamed (StructForm fields) h = fields_renamed fields h
  form_renamed (ArrayForm field) h = storage_renamed field.element_type h

-- ---- renamed operators

module _ (r : Renaming) where
  written_renamed : (heap : WrittenHeap) → InexactWritten heap → InexactWritten (renamed_written r heap)
  written_renamed (written.Abstract shared kind) h = tt
  written_renamed (written.Concrete index) h = tt
  written_renamed (written.Exact index) h = absurd h

  word_renamed : (ty : WrittenValue) → InexactWord ty → InexactWord (renamed_word r ty)
  word_renamed words.I32 h = tt
  word_renamed words.I64 h = tt
  word_renamed words.F32 h = tt
  word_renamed words.F64 h = tt
  word_renamed words.V128 h = tt
  word_renamed (words.Ref ty) h = written_renamed ty.heap_type h

  words_renamed : (tys : List WrittenValue) → AllByRecursion InexactWord tys → AllByRecursion InexactWord (map (renamed_word r) tys)
  words_renamed [] h = tt
  words_renamed (ty ∷ tys) h = (word_renamed ty h.0, words_renamed tys h.1)

  item_renamed : (item : Item) → InexactItem item → InexactItem (renamed_item r item)
  item_renamed (Names space n) h = tt
  item_renamed (Number n) h = tt
  item_renamed (S32 z) h = tt
  item_renamed (S64 z) h = tt
  item_renamed (Bits size n) h = tt
  item_renamed (Byte b) h = tt
  item_renamed (Bytes run) h = tt
  item_renamed (Heap ty) h = written_renamed ty h
  item_renamed (Block blocks.Empty) h = tt
  item_renamed (Block (blocks.Value ty)) h = word_renamed ty h
  item_renamed (Block (blocks.Type n)) h = tt
  item_renamed (Access a) h = tt
  item_renamed (ManyLabels ns) h = tt
  item_renamed (ManyValues tys) h = words_renamed tys h
  item_renamed (ManyClauses cs) h = tt

  items_renamed : (items : List Item) → AllByRecursion InexactItem items → AllByRecursion InexactItem (map (renamed_item r) items)
  items_renamed [] h = tt
  items_renamed (item ∷ items) h = (item_renamed item h.0, items_renamed items h.1)

  pub operator_renamed : (op : Seen) → InexactOperator op → InexactOperator (renamed_operator r op)
  operator_renamed op h = items_renamed op.items h

-- ---- types as they are read

ok_is : {A : Type 0} (x y : A) → ◌≡◌ {A = Or A} (Ok x) (Ok y) → x ≡ y
ok_is x y e = cc

module _ {A B : Type 0} where
  -- an answer that is made of another
  pub answered : {P : Type 0} (o : Or A) (f : A → B) (y : B) → (o >>= λ x. Ok (f x)) ≡ Ok y → ((x : A) → o ≡ Ok x → f x ≡ y → P) → P
  answered (Ok x) f y e k = k x refl (ok_is (f x) y e)
  answered (Err d) f y e k = absurd cc

module _ (types : ℕ → Option ℕ) where
  pub read_inexact : (heap : WrittenHeap) (ty : HeapType) → read_heap types heap ≡ Ok ty → InexactWritten heap → InexactHeap ty
  read_inexact (written.Abstract true kind) ty e h = answered (read_abstract kind) (λ (k : AbstractHeapType). heaps.Shared k) ty e (λ k is same. subst InexactHeap same tt)
  read_inexact (written.Abstract false kind) ty e h = answered (read_abstract kind) (λ (k : AbstractHeapType). heaps.Abstract k) ty e (λ k is same. subst InexactHeap same tt)
  read_inexact (written.Concrete index) ty e h = answered (read_index types index) (λ (id : ℕ). heaps.Concrete id) ty e (λ id is same. subst InexactHeap same tt)
  read_inexact (written.Exact index) ty e h = absurd h

  pub word_read : (word : WrittenValue) (ty : ValType) → read_value types word ≡ Ok ty → InexactWord word → InexactValue ty
  word_read words.I32 ty e h = subst InexactValue (ok_is values.I32 ty e) tt
  word_read words.I64 ty e h = subst InexactValue (ok_is values.I64 ty e) tt
  word_read words.F32 ty e h = subst InexactValue (ok_is values.F32 ty e) tt
  word_read words.F64 ty e h = subst InexactValue (ok_is values.F64 ty e) tt
  word_read words.V128 ty e h = subst InexactValue (ok_is values.V128 ty e) tt
  word_read (words.Ref r) ty e h =
      answered (read_heap types r.heap_type) (λ (heap : HeapType). values.Ref (record { nullable = r.nullable; heap_type = heap })) ty e (λ heap is same. subst InexactValue same (read_inexact r.heap_type heap is h))

-- ---- block types

-- a short form's type; a block type that names a type writes none itself
abbrev pub InexactType : InstrSeqType → Type 0
InexactType (Simple None) = Unit {0}
InexactType (Simple (Some ty)) = InexactValue ty
InexactType (MultiValue id) = Unit {0}

pub type_false : (ty : InstrSeqType) → InexactType ty → block_exact ty ≡ false
type_false (Simple None) h = refl
type_false (Simple (Some ty)) h = value_false ty h
type_false (MultiValue id) h = refl

pub some_is : {A : Type 0} (x y : A) → ◌≡◌ {A = Option A} (Some x) (Some y) → x ≡ y
some_is x y e = cc
