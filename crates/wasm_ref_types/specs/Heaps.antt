-- Heap types (Core Specification, types: heap types).
use Rattle.std.specs.Prelude.{ℕ, ◌==◌, Bool, true, false, Option, Some, None, if◌then◌else◌}
use Rattle.wasm_ref_types.specs.declared.index.UnpackedIndex.{UnpackedIndex}
use Rattle.wasm_ref_types.specs.declared.heap.HeapType.{HeapType}
use Rattle.wasm_ref_types.specs.declared.heap.HeapType.TheVariants.{Abstract, Concrete, Exact}
use Rattle.wasm_ref_types.specs.declared.heap.AbstractHeapType.{AbstractHeapType}
use Rattle.wasm_ref_types.specs.declared.heap.AbstractHeapType.TheVariants as kinds
use Rattle.wasm_ref_types.specs.Indices.{index_kind, number_of, IsSmall}

-- the place of an abstract type in their order
abbrev pub rank : AbstractHeapType → ℕ
rank kinds.Func = 0
rank kinds.Extern = 1
rank kinds.Any = 2
rank kinds.None = 3
rank kinds.NoExtern = 4
rank kinds.NoFunc = 5
rank kinds.Eq = 6
rank kinds.Struct = 7
rank kinds.Array = 8
rank kinds.I31 = 9
rank kinds.Exn = 10
rank kinds.NoExn = 11
rank kinds.Cont = 12
rank kinds.NoCont = 13

-- 1 for a test that holds
abbrev pub digit : Bool → ℕ
digit test = if test then 1 else 0

-- abstract types come first, then concrete ones, then exact ones
abbrev pub heap_form : HeapType → ℕ
heap_form (Abstract _ _) = 0
heap_form (Concrete _) = 1
heap_form (Exact _) = 2

-- within a form, those that are not shared come first, and the kinds of index in their order
abbrev pub heap_kind : HeapType → ℕ
heap_kind (Abstract shared _) = digit shared
heap_kind (Concrete index) = index_kind index
heap_kind (Exact index) = index_kind index

-- within a kind, the order of abstract types, or that of numbers
abbrev pub heap_number : HeapType → ℕ
heap_number (Abstract _ ty) = rank ty
heap_number (Concrete index) = number_of index
heap_number (Exact index) = number_of index

-- an index that it has is a number of 20 bits
abbrev pub HasSmallIndex : HeapType → Type 0
HasSmallIndex (Abstract _ _) = Unit {0}
HasSmallIndex (Concrete index) = IsSmall index
HasSmallIndex (Exact index) = IsSmall index

-- the index that it names
abbrev pub heap_index : HeapType → Option UnpackedIndex
heap_index (Abstract _ _) = None
heap_index (Concrete index) = Some index
heap_index (Exact index) = Some index

-- whether it is this abstract type, shared or not
abbrev pub is_of : AbstractHeapType → HeapType → Bool
is_of wanted (Abstract _ ty) = rank ty == rank wanted
is_of wanted (Concrete _) = false
is_of wanted (Exact _) = false

-- the same abstract type, shared
abbrev pub shared_heap : HeapType → Option HeapType
shared_heap (Abstract _ ty) = Some (Abstract true ty)
shared_heap (Concrete _) = None
shared_heap (Exact _) = None
