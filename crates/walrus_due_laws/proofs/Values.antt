-- Lemmas: values that are due, each name by the number that it has, are the shortest spellings of the renamed ones.
use Rattle.std.specs.Prelude.{ℕ, ◌≡◌, Bool, true, false, pos, List, [], ◌∷◌, ◌++◌, map, Option, Some, None, refl}
use Rattle.std.specs.List.{flat_map}
use Rattle.std.proofs.Common.{ap, sym}
use Rattle.std.proofs.lemmas.List.{append-nil}
use Rattle.wasm_ref_types.specs.declared.heap.HeapType.{HeapType as WrittenHeap}
use Rattle.wasm_ref_types.specs.declared.heap.HeapType.TheVariants.{Abstract as WrittenAbstract, Concrete as WrittenConcrete, Exact as WrittenExact}
use Rattle.wasm_ref_types.specs.declared.index.UnpackedIndex.TheVariants.{Module, RecGroup, Id}
use Rattle.wasm_ref_types.specs.TypeSpellings.{long_byte}
use Rattle.walrus_forms.specs.declared.value.HeapType.{HeapType}
use Rattle.walrus_forms.specs.declared.value.HeapType.TheVariants.{Abstract, Shared, Concrete, Exact}
use Rattle.walrus_forms.specs.declared.value.RefType.{RefType}
use Rattle.walrus_forms.specs.declared.value.ValType.{ValType}
use Rattle.walrus_forms.specs.declared.value.ValType.TheVariants.{I32, I64, F32, F64, V128, Ref}
use Rattle.walrus_forms.specs.Renaming.{renamed_ref, renamed_value}
use Rattle.wasm_formats.specs.declared.fault.Form.TheVariants.{ExactType}
use Rattle.wasm_formats.specs.declared.fault.Space.{Space}
use Rattle.wasm_formats.specs.declared.fault.Space.TheVariants as spaces
use Rattle.wasm_operators.specs.Bytes.{code_bytes, heap_bytes, item_bytes, operator_bytes, reference_bytes, signed_bytes, unsigned_bytes, value_bytes}
use Rattle.wasm_operators.specs.Items as items
use Rattle.wasm_operators.specs.Items.{Item, Names, Number, S32, S64, Bits, Byte, Bytes, Heap, Block, Access, ManyLabels, ManyValues, ManyClauses}
use Rattle.wasm_operators.specs.Names.{Renaming, renamed_heap, renamed_item, renamed_operator}
use Rattle.wasm_operators.specs.Operators.{Seen}
use Rattle.wasm_grammar.specs.Modules.{Expr}
use Rattle.wasm_grammar.specs.TypeWords.{heap_from, ref_from, value_from}
use Rattle.wasm_part.specs.Part.{renumbered_expr}
use Rattle.walrus_errors.specs.declared.error.ModuleError.TheVariants.{ConstExpr, DeadReference, Unsupported}
use Rattle.walrus_pairing.specs.Looks.{Look}
use Rattle.walrus_emit_parts.specs.Due.{number, written}
use Rattle.walrus_emit_due.specs.Values.{bit, expr, heap, index, item, items_due, limits, operator, optional, reference, signed_index, value, word}
use Rattle.wasm_module_bytes.specs.Due.{bit as bit_from}
use Rattle.walrus_due_laws.specs.Spelled.{Follows, SpelledAs}
use Rattle.walrus_due_laws.proofs.Parts.{both, lacks, led, plain, turned}
use Rattle.walrus_due_laws.proofs.Lists.{mapped_joined}
use Rattle.walrus_due_laws.proofs.Plain.{expr_bytes}

-- ---- indices

-- this number, if there is one
abbrev pub Leads : Option ℕ → ℕ → Type 0
Leads o n = (k : ℕ) → o ≡ Some k → n ≡ k

pub index_at : (space : Space) (o : Option ℕ) (n : ℕ) → Leads o n → SpelledAs (index space o) (unsigned_bytes n)
index_at space None n h = lacks (DeadReference space) (unsigned_bytes n)
index_at space (Some k) n h = turned (number k) (unsigned_bytes k) (unsigned_bytes n) (ap unsigned_bytes (sym (h k refl))) (plain (unsigned_bytes k))

signed_at : (o : Option ℕ) (n : ℕ) → Leads o n → SpelledAs (signed_index o) (signed_bytes (pos n))
signed_at None n h = lacks (DeadReference spaces.«Type») (signed_bytes (pos n))
signed_at (Some k) n h =
    turned (written (signed_bytes (pos k))) (signed_bytes (pos k)) (signed_bytes (pos n)) (ap (λ (k : ℕ). signed_bytes (pos k)) (sym (h k refl))) (plain (signed_bytes (pos k)))

-- ---- limits

abbrev pub optional_bytes : Option ℕ → List ℕ
optional_bytes None = []
optional_bytes (Some n) = unsigned_bytes n

pub optional_as : (o : Option ℕ) → SpelledAs (optional o) (optional_bytes o)
optional_as None = plain []
optional_as (Some n) = plain (unsigned_bytes n)

pub limits_as : (flags initial : ℕ) (maximum : Option ℕ) → SpelledAs (limits flags initial maximum) (flags ∷ (unsigned_bytes initial ++ optional_bytes maximum))
limits_as flags initial maximum =
    led flags (number initial ++ optional maximum) (unsigned_bytes initial ++ optional_bytes maximum)
    (both (number initial) (optional maximum) (unsigned_bytes initial) (optional_bytes maximum) (plain (unsigned_bytes initial)) (optional_as maximum))

pub bits_same : (n : ℕ) (b : Bool) → bit n b ≡ bit_from n b
bits_same n true = refl
bits_same n false = refl

module _ (r : Renaming) (look : Look) (follows : Follows r look) where
  pub named : (space : items.Space) (id : ℕ) → Leads (look space id) (r space id)
  named space id k e = follows space id k e

  pub index_as : (space : Space) (of : items.Space) (id : ℕ) → SpelledAs (index space (look of id)) (unsigned_bytes (r of id))
  index_as space of id = index_at space (look of id) (r of id) (named of id)

  -- ---- types

  abbrev types : ℕ → Option ℕ
  types = look items.Types

  type_as : (id : ℕ) → SpelledAs (signed_index (look items.Types id)) (signed_bytes (pos (r items.Types id)))
  type_as id = signed_at (look items.Types id) (r items.Types id) (named items.Types id)

  -- as they are written
  heap_as : (ty : WrittenHeap) → SpelledAs (heap types ty) (heap_bytes (renamed_heap r ty))
  heap_as (WrittenAbstract shared ty) = plain (heap_bytes (WrittenAbstract shared ty))
  heap_as (WrittenConcrete (Module id)) = type_as id
  heap_as (WrittenConcrete (RecGroup n)) = plain []
  heap_as (WrittenConcrete (Id n)) = plain []
  heap_as (WrittenExact i) = lacks (Unsupported ExactType None) (heap_bytes (renamed_heap r (WrittenExact i)))

  long_as : (nullable : Bool) (ty : WrittenHeap) → SpelledAs (written (long_byte nullable ∷ []) ++ heap types ty) (long_byte nullable ∷ heap_bytes (renamed_heap r ty))
  long_as nullable ty = led (long_byte nullable) (heap types ty) (heap_bytes (renamed_heap r ty)) (heap_as ty)

  abbrev a_ref : Bool → HeapType → RefType
  a_ref nullable h = record { nullable = nullable; heap_type = h }

  ref_made_as : (nullable : Bool) (h : HeapType) → SpelledAs (reference types (ref_from (a_ref nullable h))) (reference_bytes (ref_from (renamed_ref (r items.Types) (a_ref nullable h))))
  ref_made_as true (Abstract ty) = heap_as (heap_from (Abstract ty))
  ref_made_as false (Abstract ty) = long_as false (heap_from (Abstract ty))
  ref_made_as true (Shared ty) = heap_as (heap_from (Shared ty))
  ref_made_as false (Shared ty) = long_as false (heap_from (Shared ty))
  ref_made_as true (Concrete id) = long_as true (heap_from (Concrete id))
  ref_made_as false (Concrete id) = long_as false (heap_from (Concrete id))
  ref_made_as true (Exact id) = long_as true (heap_from (Exact id))
  ref_made_as false (Exact id) = long_as false (heap_from (Exact id))

  pub ref_as : (ty : RefType) → SpelledAs (reference types (ref_from ty)) (reference_bytes (ref_from (renamed_ref (r items.Types) ty)))
  ref_as ty = ref_made_as ty.nullable ty.heap_type

  pub value_as : (ty : ValType) → SpelledAs (value types (value_from ty)) (value_bytes (value_from (renamed_value (r items.Types) ty)))
  value_as I32 = plain (0x7f ∷ [])
  value_as I64 = plain (0x7e ∷ [])
  value_as F32 = plain (0x7d ∷ [])
  value_as F64 = plain (0x7c ∷ [])
  value_as V128 = plain (0x7b ∷ [])
  value_as (Ref ty) = ref_as ty

  -- ---- constant expressions

  item_as : (x : Item) → SpelledAs (item look x) (item_bytes (renamed_item r x))
  item_as (Names space id) = index_as (word space) space id
  item_as (Heap ty) = heap_as ty
  item_as (Number n) = plain (unsigned_bytes n)
  item_as (S32 z) = plain (signed_bytes z)
  item_as (S64 z) = plain (signed_bytes z)
  item_as (Bits size n) = plain (item_bytes (Bits size n))
  item_as (Byte b) = plain (b ∷ [])
  item_as (Bytes run) = plain run
  item_as (Block ty) = lacks (ConstExpr 0) (item_bytes (renamed_item r (Block ty)))
  item_as (Access a) = lacks (ConstExpr 0) (item_bytes (renamed_item r (Access a)))
  item_as (ManyLabels ns) = lacks (ConstExpr 0) (item_bytes (renamed_item r (ManyLabels ns)))
  item_as (ManyValues tys) = lacks (ConstExpr 0) (item_bytes (renamed_item r (ManyValues tys)))
  item_as (ManyClauses cs) = lacks (ConstExpr 0) (item_bytes (renamed_item r (ManyClauses cs)))

  items_as : (xs : List Item) → SpelledAs (items_due look xs) (flat_map item_bytes (map (renamed_item r) xs))
  items_as [] = plain []
  items_as (x ∷ []) = turned (item look x) (item_bytes (renamed_item r x)) (item_bytes (renamed_item r x) ++ []) (sym (append-nil (item_bytes (renamed_item r x)))) (item_as x)
  items_as (x ∷ y ∷ xs) =
      both (item look x) (items_due look (y ∷ xs)) (item_bytes (renamed_item r x)) (flat_map item_bytes (map (renamed_item r) (y ∷ xs))) (item_as x) (items_as (y ∷ xs))

  operator_as : (op : Seen) → SpelledAs (operator look op) (operator_bytes (renamed_operator r op))
  operator_as op =
      both (written (code_bytes op.code)) (items_due look op.items) (code_bytes op.code) (flat_map item_bytes (map (renamed_item r) op.items)) (plain (code_bytes op.code)) (items_as op.items)

  pub expr_as : (ops : Expr) → SpelledAs (expr look ops) (expr_bytes (renumbered_expr r ops))
  expr_as ops =
      both (flat_map (operator look) ops) (written (0x0b ∷ [])) (flat_map operator_bytes (renumbered_expr r ops)) (0x0b ∷ [])
      (mapped_joined (operator look) operator_bytes (renamed_operator r) operator_as ops) (plain (0x0b ∷ []))
