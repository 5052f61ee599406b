-- What is written for an operator: the shortest spelling (Core Specification, binary format: instructions).
use Rattle.std.specs.Prelude.{ℕ, zero, suc, ◌+◌, ◌/◌, ◌%◌, ◌==◌, Bool, true, false, ℤ, pos, List, [], ◌∷◌, ◌++◌, length, if◌then◌else◌}
use Rattle.std.specs.List.{flat_map}
use Rattle.wasm_composite_types.specs.wasm_reader.Shortest.{shortest_unsigned, shortest_signed}
use Rattle.wasm_composite_types.specs.wasm_ref_types.declared.heap.AbstractHeapType.{AbstractHeapType}
use Rattle.wasm_composite_types.specs.wasm_ref_types.declared.heap.AbstractHeapType.TheVariants as kinds
use Rattle.wasm_composite_types.specs.wasm_ref_types.declared.heap.HeapType.{HeapType}
use Rattle.wasm_composite_types.specs.wasm_ref_types.declared.heap.HeapType.TheVariants.{Abstract, Concrete, Exact}
use Rattle.wasm_composite_types.specs.wasm_ref_types.declared.value.ValType.{ValType}
use Rattle.wasm_composite_types.specs.wasm_ref_types.declared.value.ValType.TheVariants.{I32, I64, F32, F64, V128, Ref}
use Rattle.wasm_composite_types.specs.wasm_ref_types.declared.index.UnpackedIndex.TheVariants.{Module, RecGroup, Id}
use Rattle.wasm_composite_types.specs.wasm_ref_types.Reference.{Reference}
use Rattle.wasm_composite_types.specs.wasm_ref_types.TypeSpellings.{long_byte}
use Rattle.wasm_operators.specs.declared.block_type.BlockType.{BlockType}
use Rattle.wasm_operators.specs.declared.block_type.BlockType.TheVariants as blocks
use Rattle.wasm_operators.specs.declared.memory_access.MemoryAccess.{MemoryAccess}
use Rattle.wasm_operators.specs.declared.clause.Clause.{Clause}
use Rattle.wasm_operators.specs.declared.clause.Clause.TheVariants as handlers
use Rattle.wasm_operators.specs.Items.{Item, Names, Number, S32, S64, Bits, Byte, Bytes, Heap, Block, Access, ManyLabels, ManyValues, ManyClauses}
use Rattle.wasm_operators.specs.declared.op_code.OpCode.{OpCode}
use Rattle.wasm_operators.specs.Operators.{Seen}

-- numbers, of at most 64 bits, and so of at most ten bytes
abbrev pub unsigned_bytes : ℕ → List ℕ
unsigned_bytes = shortest_unsigned 10

abbrev pub signed_bytes : ℤ → List ℕ
signed_bytes = shortest_signed 10

-- the byte of an abstract heap type; those of continuations are of the proposal on stack switching, and no file here has them
abbrev pub abstract_code : AbstractHeapType → ℕ
abstract_code kinds.Func = 0x70
abstract_code kinds.Extern = 0x6f
abstract_code kinds.Any = 0x6e
abstract_code kinds.None = 0x71
abstract_code kinds.NoExtern = 0x72
abstract_code kinds.NoFunc = 0x73
abstract_code kinds.Eq = 0x6d
abstract_code kinds.Struct = 0x6b
abstract_code kinds.Array = 0x6a
abstract_code kinds.I31 = 0x6c
abstract_code kinds.Exn = 0x69
abstract_code kinds.NoExn = 0x74
abstract_code kinds.Cont = 0x68
abstract_code kinds.NoCont = 0x75

-- a heap type: a byte, the byte 65 before it where it is shared, or a number of the module's; no file has the others
abbrev pub heap_bytes : HeapType → List ℕ
heap_bytes (Abstract false ty) = abstract_code ty ∷ []
heap_bytes (Abstract true ty) = 0x65 ∷ abstract_code ty ∷ []
heap_bytes (Concrete (Module n)) = signed_bytes (pos n)
heap_bytes (Concrete (RecGroup n)) = []
heap_bytes (Concrete (Id id)) = []
heap_bytes (Exact index) = []

-- a reference type: its heap type alone where that is abstract and null is a value
abbrev pub reference_parts : Bool → HeapType → List ℕ
reference_parts true (Abstract shared ty) = heap_bytes (Abstract shared ty)
reference_parts nullable ty = long_byte nullable ∷ heap_bytes ty

abbrev pub reference_bytes : Reference → List ℕ
reference_bytes r = reference_parts r.nullable r.heap_type

abbrev pub value_bytes : ValType → List ℕ
value_bytes I32 = 0x7f ∷ []
value_bytes I64 = 0x7e ∷ []
value_bytes F32 = 0x7d ∷ []
value_bytes F64 = 0x7c ∷ []
value_bytes V128 = 0x7b ∷ []
value_bytes (Ref r) = reference_bytes r

abbrev pub block_bytes : BlockType → List ℕ
block_bytes blocks.Empty = 0x40 ∷ []
block_bytes (blocks.Value ty) = value_bytes ty
block_bytes (blocks.Type n) = signed_bytes (pos n)

-- an access to memory: the memory's index stands only where it isn't 0
abbrev pub access_bytes : MemoryAccess → List ℕ
access_bytes a =
    if a.memory == 0 then unsigned_bytes a.align ++ unsigned_bytes a.offset
    else (unsigned_bytes (a.align + 64) ++ (unsigned_bytes a.memory ++ unsigned_bytes a.offset))

abbrev pub clause_bytes : Clause → List ℕ
clause_bytes (handlers.Catch tag label) = 0x00 ∷ (unsigned_bytes tag ++ unsigned_bytes label)
clause_bytes (handlers.CatchRef tag label) = 0x01 ∷ (unsigned_bytes tag ++ unsigned_bytes label)
clause_bytes (handlers.CatchAll label) = 0x02 ∷ unsigned_bytes label
clause_bytes (handlers.CatchAllRef label) = 0x03 ∷ unsigned_bytes label

-- so many digits to the base 256, the lowest first
abbrev pub little_bytes : ℕ → ℕ → List ℕ
little_bytes zero n = []
little_bytes (suc size) n = n % 256 ∷ little_bytes size (n / 256)

-- a count, and that many
abbrev pub vec_bytes : {A : Type 0} → (A → List ℕ) → List A → List ℕ
vec_bytes written xs = unsigned_bytes (length xs) ++ flat_map written xs

abbrev pub item_bytes : Item → List ℕ
item_bytes (Names space n) = unsigned_bytes n
item_bytes (Number n) = unsigned_bytes n
item_bytes (S32 z) = signed_bytes z
item_bytes (S64 z) = signed_bytes z
item_bytes (Bits size n) = little_bytes size n
item_bytes (Byte b) = b ∷ []
item_bytes (Bytes run) = run
item_bytes (Heap ty) = heap_bytes ty
item_bytes (Block ty) = block_bytes ty
item_bytes (Access a) = access_bytes a
item_bytes (ManyLabels ns) = vec_bytes unsigned_bytes ns
item_bytes (ManyValues tys) = vec_bytes value_bytes tys
item_bytes (ManyClauses cs) = vec_bytes clause_bytes cs

-- a byte, or a prefix and a number
abbrev pub code_bytes : OpCode → List ℕ
code_bytes code = if code.prefix == 0 then code.number % 256 ∷ [] else (code.prefix ∷ unsigned_bytes code.number)

abbrev pub operator_bytes : Seen → List ℕ
operator_bytes op = code_bytes op.code ++ flat_map item_bytes op.items
