-- What is due for the values that sections are made of, each name by the number that a look-up has for it.
use Rattle.std.specs.Prelude.{ℕ, Bool, true, false, pos, List, [], ◌∷◌, ◌++◌, Option, Some, None}
use Rattle.std.specs.List.{flat_map}
use Rattle.wasm_ref_types.specs.declared.heap.HeapType.{HeapType}
use Rattle.wasm_ref_types.specs.declared.heap.HeapType.TheVariants.{Abstract, Concrete, Exact}
use Rattle.wasm_ref_types.specs.declared.index.UnpackedIndex.{UnpackedIndex}
use Rattle.wasm_ref_types.specs.declared.index.UnpackedIndex.TheVariants.{Module, RecGroup, Id}
use Rattle.wasm_ref_types.specs.declared.value.ValType.{ValType}
use Rattle.wasm_ref_types.specs.declared.value.ValType.TheVariants.{I32, I64, F32, F64, V128, Ref}
use Rattle.wasm_ref_types.specs.Reference.{Reference}
use Rattle.wasm_ref_types.specs.TypeSpellings.{long_byte}
use Rattle.wasm_formats.specs.declared.fault.Form.TheVariants.{ExactType}
use Rattle.wasm_formats.specs.declared.fault.Space.{Space}
use Rattle.wasm_formats.specs.declared.fault.Space.TheVariants as spaces
use Rattle.wasm_operators.specs.Bytes.{code_bytes, heap_bytes, little_bytes, signed_bytes}
use Rattle.wasm_operators.specs.Items as items
use Rattle.wasm_operators.specs.Items.{Item, Names, Number, S32, S64, Bits, Byte, Bytes, Heap}
use Rattle.wasm_operators.specs.Operators.{Seen}
use Rattle.walrus_errors.specs.declared.error.ModuleError.TheVariants.{ConstExpr, DeadReference, Unsupported}
use Rattle.walrus_pairing.specs.Looks.{Look}
use Rattle.walrus_emit_parts.specs.Due.{Due, lacking, number, written}
use Rattle.wasm_grammar.specs.Modules.{Expr}

-- the word for a space in a refusal
abbrev pub word : items.Space → Space
word items.Types = spaces.«Type»
word items.Functions = spaces.Function
word items.Tables = spaces.Table
word items.Memories = spaces.Memory
word items.Tags = spaces.Tag
word items.Globals = spaces.Global
word items.ElementSegments = spaces.Element
word items.DataSegments = spaces.Data
word items.Locals = spaces.Local
word items.Labels = spaces.Label

-- an index
abbrev pub index : Space → Option ℕ → Due
index space (Some n) = number n
index space None = lacking (DeadReference space)

-- the same number, as a signed one
abbrev pub signed_index : Option ℕ → Due
signed_index (Some n) = written (signed_bytes (pos n))
signed_index None = lacking (DeadReference spaces.«Type»)

-- no file has the last two
abbrev pub type_index : (ℕ → Option ℕ) → UnpackedIndex → Due
type_index types (Module id) = signed_index (types id)
type_index types (RecGroup n) = []
type_index types (Id id) = []

abbrev pub heap : (ℕ → Option ℕ) → HeapType → Due
heap types (Abstract shared ty) = written (heap_bytes (Abstract shared ty))
heap types (Concrete i) = type_index types i
heap types (Exact i) = lacking (Unsupported ExactType None)

-- its heap type alone, where that is abstract and null is a value
abbrev pub reference_parts : (ℕ → Option ℕ) → Bool → HeapType → Due
reference_parts types true (Abstract shared ty) = heap types (Abstract shared ty)
reference_parts types nullable ty = written (long_byte nullable ∷ []) ++ heap types ty

abbrev pub reference : (ℕ → Option ℕ) → Reference → Due
reference types r = reference_parts types r.nullable r.heap_type

abbrev pub value : (ℕ → Option ℕ) → ValType → Due
value types I32 = written (0x7f ∷ [])
value types I64 = written (0x7e ∷ [])
value types F32 = written (0x7d ∷ [])
value types F64 = written (0x7c ∷ [])
value types V128 = written (0x7b ∷ [])
value types (Ref r) = reference types r

-- ---- operators of constant expressions: no other immediates are written

module _ (look : Look) where
  abbrev pub item : Item → Due
  item (Names space id) = index (word space) (look space id)
  item (Heap ty) = heap (look items.Types) ty
  item (Number n) = number n
  item (S32 z) = written (signed_bytes z)
  item (S64 z) = written (signed_bytes z)
  item (Bits size n) = written (little_bytes size n)
  item (Byte b) = written (b ∷ [])
  item (Bytes run) = written run
  item _ = lacking (ConstExpr 0)

  abbrev pub items_due : List Item → Due
  items_due [] = []
  items_due (x ∷ []) = item x
  items_due (x ∷ y ∷ xs) = item x ++ items_due (y ∷ xs)

  abbrev pub operator : Seen → Due
  operator op = written (code_bytes op.code) ++ items_due op.items

  -- with the `end` behind it
  abbrev pub expr : Expr → Due
  expr ops = flat_map operator ops ++ written (0x0b ∷ [])

-- ---- limits

abbrev pub bit : ℕ → Bool → ℕ
bit n true = n
bit n false = 0

abbrev pub optional : Option ℕ → Due
optional None = []
optional (Some n) = number n

-- the flags, the minimum and the maximum
abbrev pub limits : ℕ → ℕ → Option ℕ → Due
limits flags initial maximum = written (flags ∷ []) ++ (number initial ++ optional maximum)
