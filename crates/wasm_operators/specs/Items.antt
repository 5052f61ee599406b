-- Immediates as contracts see them, and their forms (Core Specification, binary format: instructions).
use Rattle.std.specs.Prelude.{ℕ, ℤ, List}
use Rattle.wasm_composite_types.specs.wasm_ref_types.declared.heap.HeapType.{HeapType}
use Rattle.wasm_composite_types.specs.wasm_ref_types.declared.value.ValType.{ValType}
use Rattle.wasm_operators.specs.declared.block_type.BlockType.{BlockType}
use Rattle.wasm_operators.specs.declared.memory_access.MemoryAccess.{MemoryAccess}
use Rattle.wasm_operators.specs.declared.clause.Clause.{Clause}

-- what an index numbers
pub data Space : Type 0 where
  Types : Space
  Functions : Space
  Tables : Space
  Memories : Space
  Tags : Space
  Globals : Space
  ElementSegments : Space
  DataSegments : Space
  Locals : Space
  Labels : Space

-- one immediate: each constructor has a spelling of its own
pub data Item : Type 0 where
  -- an index
  Names : Space → ℕ → Item
  -- a u32 that is no index
  Number : ℕ → Item
  S32 : ℤ → Item
  S64 : ℤ → Item
  -- of so many bytes, a number of which they are the digits to the base 256, the lowest first
  Bits : ℕ → ℕ → Item
  Byte : ℕ → Item
  Bytes : List ℕ → Item
  Heap : HeapType → Item
  Block : BlockType → Item
  Access : MemoryAccess → Item
  ManyLabels : List ℕ → Item
  ManyValues : List ValType → Item
  ManyClauses : List Clause → Item

-- the forms of immediates
pub data Form : Type 0 where
  index : Space → Form
  number : Form
  s32 : Form
  s64 : Form
  -- bits of so many bytes
  bits : ℕ → Form
  -- so many bytes
  run : ℕ → Form
  any_byte : Form
  -- a byte below a bound
  below : ℕ → Form
  -- the byte 00
  zero_byte : Form
  heap : Form
  block : Form
  access : Form
  labels : Form
  values : Form
  clauses : Form
