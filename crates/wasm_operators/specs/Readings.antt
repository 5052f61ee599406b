-- How immediates are read (Core Specification, binary format: instructions).
use Rattle.std.specs.Prelude.{ℕ, ◌-◌, ◌^◌, ◌==◌, ◌&&◌, ◌/◌, ◌%◌, nat_lt, Bool, ℤ, pos, negsuc, List, [], ◌∷◌, length, Ok, Err, if◌then◌else◌}
use Rattle.wasm_composite_types.specs.wasm_features.declared.WasmFeatures.{WasmFeatures}
use Rattle.wasm_composite_types.specs.wasm_reader.declared.error.ErrorKind.TheVariants as faults
use Rattle.wasm_composite_types.specs.wasm_reader.Reading.{Reading, fault, ◌>>=◌, byte_at, next_at, bytes_at, little_at}
use Rattle.wasm_composite_types.specs.wasm_reader.Numbers.{unsigned_at, signed_at, s33_at}
use Rattle.wasm_composite_types.specs.wasm_reader.Items.{vec_at}
use Rattle.wasm_composite_types.specs.wasm_ref_types.ReadTypes.{heap_at, value_at}
use Rattle.wasm_operators.specs.declared.block_type.BlockType.{BlockType}
use Rattle.wasm_operators.specs.declared.block_type.BlockType.TheVariants as blocks
use Rattle.wasm_operators.specs.declared.memory_access.MemoryAccess.{MemoryAccess}
use Rattle.wasm_operators.specs.declared.clause.Clause.{Clause}
use Rattle.wasm_operators.specs.declared.clause.Clause.TheVariants as handlers
use Rattle.wasm_operators.specs.Items.{Item, Names, Number, S32, S64, Bits, Byte, Bytes, Heap, Block, Access, ManyLabels, ManyValues, ManyClauses, Form, index, number, s32, s64, bits, run, any_byte, below, zero_byte, heap, block, access, labels, values, clauses}

-- what is made of the value that is read
abbrev pub mapped : {A B : Type 0} → (A → B) → Reading A → Reading B
mapped make r = r >>= λ x. Ok (make x.0, x.1)

-- a byte below a bound
unfoldable pub below_at : ℕ → List ℕ → Reading ℕ
below_at bound bytes = do
  b ← byte_at bytes
  if nat_lt b.0 bound then Ok b else Err (fault faults.BadByte (length bytes))

-- the byte 00
unfoldable pub zero_at : List ℕ → Reading (Unit {0})
zero_at bytes = do
  b ← byte_at bytes
  if b.0 == 0 then Ok (tt, b.1) else Err (fault faults.BadByte (length bytes))

-- the byte of an empty block type, which was looked at
unfoldable pub empty_at : List ℕ → Reading BlockType
empty_at bytes = mapped (λ _. blocks.Empty) (byte_at bytes)

-- what a number is taken for as a type's index: a u32, or its first byte is none that may stand there
abbrev pub type_as : ℤ → ℕ → List ℕ → Reading BlockType
type_as (pos n) left bytes = if nat_lt n (2 ^ 32) then Ok (blocks.Type n, bytes) else Err (fault faults.BadByte left)
type_as (negsuc n) left bytes = Err (fault faults.BadByte left)

unfoldable pub type_index_at : List ℕ → Reading BlockType
type_index_at bytes = do
  n ← s33_at bytes
  type_as n.0 (length bytes) n.1

-- a block type: the byte 40, a value type, which begins with 41 to 7f, or a type's index
unfoldable pub block_at : WasmFeatures → List ℕ → Reading BlockType
block_at features bytes = do
  b ← next_at bytes
  (if b.0 == 0x40 then empty_at b.1
      else (if nat_lt 0x40 b.0 && nat_lt b.0 0x80 then mapped blocks.Value (value_at features b.1)
      else type_index_at b.1))

-- the flags of an access: bit 6 says that a memory's index follows, the rest is the logarithm of the alignment
abbrev pub has_memory : ℕ → Bool
has_memory flags = flags / 64 % 2 == 1

abbrev pub align_of : ℕ → ℕ
align_of flags = if has_memory flags then flags - 64 else flags

-- the memory's index, 0 where none follows
unfoldable pub memory_at : ℕ → List ℕ → Reading ℕ
memory_at flags bytes = if has_memory flags then unsigned_at 32 bytes else Ok (0, bytes)

abbrev pub access_of : ℕ → ℕ → ℕ → MemoryAccess
access_of align memory offset = record { align = align; memory = memory; offset = offset }

-- an access to memory: flags, perhaps a memory's index, and an offset
unfoldable pub access_at : List ℕ → Reading MemoryAccess
access_at bytes = do
  flags ← unsigned_at 32 bytes
  memory ← memory_at flags.0 flags.1
  offset ← unsigned_at 64 memory.1
  Ok (access_of (align_of flags.0) memory.0 offset.0, offset.1)

-- a tag and a label, or a label alone
abbrev pub tagged_at : (ℕ → ℕ → Clause) → List ℕ → Reading Clause
tagged_at make bytes = unsigned_at 32 bytes >>= λ tag. mapped (make tag.0) (unsigned_at 32 tag.1)

abbrev pub untagged_at : (ℕ → Clause) → List ℕ → Reading Clause
untagged_at make bytes = mapped make (unsigned_at 32 bytes)

-- a handler, by its first byte, where so many bytes are left from it on
abbrev pub clause_after : ℕ → ℕ → List ℕ → Reading Clause
clause_after b left bytes =
    if b == 0x00 then tagged_at (λ tag label. handlers.Catch tag label) bytes
    else (if b == 0x01 then tagged_at (λ tag label. handlers.CatchRef tag label) bytes
    else (if b == 0x02 then untagged_at (λ label. handlers.CatchAll label) bytes
    else (if b == 0x03 then untagged_at (λ label. handlers.CatchAllRef label) bytes
    else Err (fault faults.BadByte left))))

unfoldable pub clause_at : List ℕ → Reading Clause
clause_at bytes = do
  b ← byte_at bytes
  clause_after b.0 (length bytes) b.1

-- no list of immediates is longer than a u32 counts
abbrev pub most : ℕ
most = 4294967295

-- the item of a form
unfoldable pub item_at : WasmFeatures → Form → List ℕ → Reading Item
item_at features (index space) bytes = mapped (Names space) (unsigned_at 32 bytes)
item_at features number bytes = mapped Number (unsigned_at 32 bytes)
item_at features s32 bytes = mapped S32 (signed_at 32 bytes)
item_at features s64 bytes = mapped S64 (signed_at 64 bytes)
item_at features (bits size) bytes = mapped (Bits size) (little_at size bytes)
item_at features (run size) bytes = mapped Bytes (bytes_at size bytes)
item_at features any_byte bytes = mapped Byte (byte_at bytes)
item_at features (below bound) bytes = mapped Byte (below_at bound bytes)
item_at features zero_byte bytes = mapped (λ _. Byte 0) (zero_at bytes)
item_at features heap bytes = mapped Heap (heap_at features bytes)
item_at features block bytes = mapped Block (block_at features bytes)
item_at features access bytes = mapped Access (access_at bytes)
item_at features labels bytes = mapped ManyLabels (vec_at most (unsigned_at 32) bytes)
item_at features values bytes = mapped ManyValues (vec_at most (value_at features) bytes)
item_at features clauses bytes = mapped ManyClauses (vec_at most clause_at bytes)

-- the items of these forms, one after another
unfoldable pub items_at : WasmFeatures → List Form → List ℕ → Reading (List Item)
items_at features [] bytes = Ok ([], bytes)
items_at features (form ∷ forms) bytes = do
  first ← item_at features form bytes
  later ← items_at features forms first.1
  Ok (first.0 ∷ later.0, later.1)
