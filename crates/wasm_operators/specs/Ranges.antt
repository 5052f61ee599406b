-- Which immediates an operator may have: those of its code's forms, each in its range (Core Specification, binary format: values,
-- types and instructions).
use Rattle.std.specs.Prelude.{ℕ, ◌<◌, ◌≤◌, ◌^◌, ◌≡◌, ◌⊎◌, true, false, List, [], ◌∷◌, length, All, Some}
use Rattle.std.specs.Int.Signed.{mag}
use Rattle.wasm_composite_types.specs.wasm_features.declared.WasmFeatures.{WasmFeatures}
use Rattle.wasm_composite_types.specs.wasm_ref_types.declared.heap.HeapType.{HeapType}
use Rattle.wasm_composite_types.specs.wasm_ref_types.declared.heap.HeapType.TheVariants.{Abstract, Concrete, Exact}
use Rattle.wasm_composite_types.specs.wasm_ref_types.declared.value.ValType.{ValType}
use Rattle.wasm_composite_types.specs.wasm_ref_types.declared.value.ValType.TheVariants.{Ref}
use Rattle.wasm_composite_types.specs.wasm_ref_types.Reference.{Reference}
use Rattle.wasm_composite_types.specs.wasm_ref_types.ReadTypes.{is_basic}
use Rattle.wasm_composite_types.specs.wasm_ref_types.TypeSpellings.{HasGcTypes, IsAbstract, IsWritten}
use Rattle.wasm_operators.specs.declared.block_type.BlockType.{BlockType}
use Rattle.wasm_operators.specs.declared.block_type.BlockType.TheVariants as blocks
use Rattle.wasm_operators.specs.declared.memory_access.MemoryAccess.{MemoryAccess}
use Rattle.wasm_operators.specs.declared.clause.Clause.{Clause}
use Rattle.wasm_operators.specs.declared.clause.Clause.TheVariants as handlers
use Rattle.wasm_operators.specs.Items.{Item, Names, Number, S32, S64, Bits, Byte, Bytes, Heap, Block, Access, ManyLabels, ManyValues, ManyClauses, Form, index, number, s32, s64, bits, run, any_byte, below, zero_byte, heap, block, access, labels, values, clauses}
use Rattle.wasm_operators.specs.Readings.{has_memory, most}
use Rattle.wasm_operators.specs.declared.entry.Kind.{Kind}
use Rattle.wasm_operators.specs.Kinds.{forms}
use Rattle.wasm_operators.specs.Operators.{kind_of, Seen}

-- u32
abbrev pub IsU32 : ℕ → Type 0
IsU32 n = n < 2 ^ 32

-- func, extern and exn stand without garbage-collected types; a module's indices do, too
abbrev pub StandsWith : WasmFeatures → HeapType → Type 0
StandsWith features (Abstract shared ty) = (is_basic ty ≡ true) ⊎ HasGcTypes features
StandsWith features (Concrete name) = Unit {0}
StandsWith features (Exact name) = Unit {0}

-- heaptype: one that files have, and that stands under the features
abbrev pub HeapFits : WasmFeatures → HeapType → Type 0
HeapFits features ty = IsWritten features ty × StandsWith features ty

-- reftype: without garbage-collected types, an absheaptype alone, of which null is a value
abbrev pub ReferenceFits : WasmFeatures → Reference → Type 0
ReferenceFits features r = HeapFits features r.heap_type × (HasGcTypes features ⊎ ((r.nullable ≡ true) × IsAbstract r.heap_type))

abbrev pub ValueFits : WasmFeatures → ValType → Type 0
ValueFits features (Ref r) = ReferenceFits features r
ValueFits features ty = Unit {0}

abbrev pub BlockFits : WasmFeatures → BlockType → Type 0
BlockFits features blocks.Empty = Unit {0}
BlockFits features (blocks.Value ty) = ValueFits features ty
BlockFits features (blocks.Type n) = IsU32 n

-- memarg: bit 6 of the flags says that a memory's index follows, so no alignment has it
pub record AccessFits (a : MemoryAccess) : Type 0 where
  pub align : IsU32 a.align
  pub apart : has_memory a.align ≡ false
  pub memory : IsU32 a.memory
  pub offset : a.offset < 2 ^ 64

abbrev pub ClauseFits : Clause → Type 0
ClauseFits (handlers.Catch tag label) = IsU32 tag × IsU32 label
ClauseFits (handlers.CatchRef tag label) = IsU32 tag × IsU32 label
ClauseFits (handlers.CatchAll label) = IsU32 label
ClauseFits (handlers.CatchAllRef label) = IsU32 label

-- a vec: as many items as a u32 counts, each of which fits
abbrev pub ListFits : {A : Type 0} → (A → Type 0) → List A → Type 0
ListFits Fits xs = (length xs ≤ most) × All Fits xs

-- an item made of a value that fits
abbrev pub Of : {A : Type 0} → (A → Item) → (A → Type 0) → Item → Type 0
Of {A} make Fits item = (x : A) × (item ≡ make x) × Fits x

-- an item of this form, in its range
abbrev pub ItemFits : WasmFeatures → Form → Item → Type 0
ItemFits features (index space) = Of (Names space) IsU32
ItemFits features number = Of Number IsU32
ItemFits features s32 = Of S32 (λ z. mag z < 2 ^ 31)
ItemFits features s64 = Of S64 (λ z. mag z < 2 ^ 63)
ItemFits features (bits size) = Of (Bits size) (λ n. n < 256 ^ size)
ItemFits features (run size) = Of Bytes (λ bytes. (length bytes ≡ size) × All (λ b. b < 256) bytes)
ItemFits features any_byte = Of Byte (λ b. b < 256)
ItemFits features (below bound) = Of Byte (λ b. b < bound)
ItemFits features zero_byte = Of Byte (λ b. b ≡ 0)
ItemFits features heap = Of Heap (HeapFits features)
ItemFits features block = Of Block (BlockFits features)
ItemFits features access = Of Access AccessFits
ItemFits features labels = Of ManyLabels (ListFits IsU32)
ItemFits features values = Of ManyValues (ListFits (ValueFits features))
ItemFits features clauses = Of ManyClauses (ListFits ClauseFits)

-- items of these forms, one after another
abbrev pub ItemsFit : WasmFeatures → List Form → List Item → Type 0
ItemsFit features [] items = items ≡ []
ItemsFit features (form ∷ forms) items = (x : Item) × (xs : List Item) × (items ≡ x ∷ xs) × ItemFits features form x × ItemsFit features forms xs

-- an operator that the table has and the features let pass, with immediates of its kind, in their ranges
pub record OperatorFits (features : WasmFeatures) (op : Seen) : Type 0 where
  pub kind : Kind
  pub listed : kind_of features op.code ≡ Some kind
  pub items : ItemsFit features (forms kind) op.items
