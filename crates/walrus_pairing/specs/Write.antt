-- The plain operator of each instruction: its code, and its items, whose names are sent through a look-up (Core Specification, binary
-- format: instructions; the proposals on threads and wide arithmetic). Instructions that hold sequences or labels have none here.
use Rattle.std.specs.Prelude.{ℕ, nat_le, Bool, List, [], ◌∷◌, Option, Some, None, Ok, Err, if◌then◌else◌}
use Rattle.std.specs.Int.{w32, w128, trailing_zeros, to_le_bytes}
use Rattle.walrus_operators.specs.wasm_operators.declared.memory_access.MemoryAccess.{MemoryAccess}
use Rattle.walrus_operators.specs.wasm_operators.Items.{Space, Types, Functions, Tables, Memories, Tags, Globals, ElementSegments, DataSegments, Locals, Item, Names, Number, S32, S64, Bits, Byte, Bytes, Heap, Access, ManyValues}
use Rattle.walrus_operators.specs.wasm_operators.declared.op_code.OpCode.{OpCode}
use Rattle.walrus_operators.specs.wasm_operators.Operators.{Seen}
use Rattle.walrus_forms.specs.declared.value.HeapType.{HeapType}
use Rattle.walrus_codes.specs.walrus_instr.declared.instr.Value.{Value as Constant}
use Rattle.walrus_codes.specs.walrus_instr.declared.instr.Value.TheVariants as constants
use Rattle.walrus_codes.specs.walrus_instr.declared.instr.Instr.{Instr}
use Rattle.walrus_codes.specs.walrus_instr.declared.instr.Instr.TheVariants as instrs
use Rattle.walrus_codes.specs.walrus_instr.declared.memory.MemArg.{MemArg}
use Rattle.walrus_codes.specs.Runs.{byte, object, bulk, vector, atomic}
use Rattle.walrus_codes.specs.Unary.{unary_code, unary_lane}
use Rattle.walrus_codes.specs.Binary.{binary_code, binary_lane}
use Rattle.walrus_codes.specs.Ternary.{ternary_code}
use Rattle.walrus_codes.specs.Access.{load_code, store_code, simd_code, simd_lane, rmw_code, cmpxchg_code}
use Rattle.walrus_pairing.specs.Looks.{Look, Or, ◌>>=◌, found}
use Rattle.walrus_pairing.specs.Types.{written_heap, written_value}

abbrev pub seen_of : OpCode → List Item → Seen
seen_of code items = record { code = code; items = items }

-- the operator of this code and these items
abbrev pub op : OpCode → List Item → Or (Option Seen)
op code items = Ok (Some (seen_of code items))

-- of a code alone, where there is one
abbrev pub of_code : Option OpCode → Or (Option Seen)
of_code None = Ok None
of_code (Some code) = op code []

-- with one name, with a name and a number, with two names
abbrev pub one : Look → OpCode → Space → ℕ → Or (Option Seen)
one look code space id = found look space id >>= λ n. op code (Names space n ∷ [])

abbrev pub counted : Look → OpCode → Space → ℕ → ℕ → Or (Option Seen)
counted look code space id count = found look space id >>= λ n. op code (Names space n ∷ Number count ∷ [])

abbrev pub two : Look → OpCode → Space → ℕ → Space → ℕ → Or (Option Seen)
two look code first id second other =
    found look first id >>= λ m. found look second other >>= λ n. op code (Names first m ∷ Names second n ∷ [])

-- the logarithm of an alignment: the count of its trailing zeros, at most 31
abbrev pub log_of : ℕ → ℕ
log_of align = if nat_le (trailing_zeros w32 align) 31 then trailing_zeros w32 align else 31

-- a lane, where there is one
abbrev pub lane_items : Option ℕ → List Item
lane_items None = []
lane_items (Some lane) = Byte lane ∷ []

abbrev pub access_of : ℕ → MemArg → MemoryAccess
access_of memory arg = record { align = log_of arg.align; memory = memory; offset = arg.offset }

-- an access to memory, and perhaps a lane
abbrev pub access : Look → OpCode → ℕ → MemArg → Option ℕ → Or (Option Seen)
access look code memory arg lane = found look Memories memory >>= λ n. op code (Access (access_of n arg) ∷ lane_items lane)

abbrev pub heap : Look → OpCode → HeapType → Or (Option Seen)
heap look code ty = written_heap (look Types) ty >>= λ h. op code (Heap h ∷ [])

-- the code of a test, or a cast, of a reference, by whether null passes
abbrev pub test_code : Bool → OpCode
test_code nullable = object (if nullable then 21 else 20)

abbrev pub cast_code : Bool → OpCode
cast_code nullable = object (if nullable then 23 else 22)

-- ---- of no immediates

abbrev pub bare_code : Instr → Option OpCode
bare_code instrs.Unreachable = Some (byte 0x00)
bare_code instrs.ThrowRef = Some (byte 0x0a)
bare_code instrs.Return = Some (byte 0x0f)
bare_code instrs.Drop = Some (byte 0x1a)
bare_code (instrs.Select None) = Some (byte 0x1b)
bare_code instrs.RefIsNull = Some (byte 0xd1)
bare_code instrs.RefEq = Some (byte 0xd3)
bare_code instrs.RefAsNonNull = Some (byte 0xd4)
bare_code instrs.ArrayLen = Some (object 15)
bare_code instrs.AnyConvertExtern = Some (object 26)
bare_code instrs.ExternConvertAny = Some (object 27)
bare_code instrs.RefI31 = Some (object 28)
bare_code instrs.I31GetS = Some (object 29)
bare_code instrs.I31GetU = Some (object 30)
bare_code instrs.I64Add128 = Some (bulk 19)
bare_code instrs.I64Sub128 = Some (bulk 20)
bare_code instrs.I8x16Swizzle = Some (vector 14)
bare_code instrs.V128Bitselect = Some (vector 82)
bare_code (instrs.TernOp op) = Some (ternary_code op)
bare_code _ = None

-- ---- constants, and operators with a lane or none

abbrev pub constant : Constant → Or (Option Seen)
constant (constants.I32 z) = op (byte 0x41) (S32 z ∷ [])
constant (constants.I64 z) = op (byte 0x42) (S64 z ∷ [])
constant (constants.F32 bits) = op (byte 0x43) (Bits 4 bits ∷ [])
constant (constants.F64 bits) = op (byte 0x44) (Bits 8 bits ∷ [])
constant (constants.V128 bits) = op (vector 12) (Bytes (to_le_bytes w128 bits) ∷ [])

abbrev pub numeric : Instr → Or (Option Seen)
numeric (instrs.Const value) = constant value
numeric (instrs.Unop o) = op (unary_code o) (lane_items (unary_lane o))
numeric (instrs.Binop o) = op (binary_code o) (lane_items (binary_lane o))
numeric (instrs.I8x16Shuffle lanes) = op (vector 13) (Bytes lanes ∷ [])
numeric instrs.AtomicFence = op (atomic 3) (Byte 0 ∷ [])
numeric _ = Ok None

-- ---- calls, locals, globals, tables

abbrev pub variable : Look → Instr → Or (Option Seen)
variable look (instrs.Throw tag) = one look (byte 0x08) Tags tag
variable look (instrs.Call func) = one look (byte 0x10) Functions func
variable look (instrs.CallIndirect ty table) = two look (byte 0x11) Types ty Tables table
variable look (instrs.ReturnCall func) = one look (byte 0x12) Functions func
variable look (instrs.ReturnCallIndirect ty table) = two look (byte 0x13) Types ty Tables table
variable look (instrs.CallRef ty) = one look (byte 0x14) Types ty
variable look (instrs.ReturnCallRef ty) = one look (byte 0x15) Types ty
variable look (instrs.LocalGet local) = one look (byte 0x20) Locals local
variable look (instrs.LocalSet local) = one look (byte 0x21) Locals local
variable look (instrs.LocalTee local) = one look (byte 0x22) Locals local
variable look (instrs.GlobalGet global) = one look (byte 0x23) Globals global
variable look (instrs.GlobalSet global) = one look (byte 0x24) Globals global
variable look (instrs.TableGet table) = one look (byte 0x25) Tables table
variable look (instrs.TableSet table) = one look (byte 0x26) Tables table
variable look (instrs.RefFunc func) = one look (byte 0xd2) Functions func
variable look (instrs.TableInit table elem) = two look (bulk 12) ElementSegments elem Tables table
variable look (instrs.ElemDrop elem) = one look (bulk 13) ElementSegments elem
variable look (instrs.TableCopy src dst) = two look (bulk 14) Tables dst Tables src
variable look (instrs.TableGrow table) = one look (bulk 15) Tables table
variable look (instrs.TableSize table) = one look (bulk 16) Tables table
variable look (instrs.TableFill table) = one look (bulk 17) Tables table
variable look _ = Ok None

-- ---- memories

abbrev pub memory_op : Look → Instr → Or (Option Seen)
memory_op look (instrs.Load memory kind arg) = access look (load_code kind) memory arg None
memory_op look (instrs.Store memory kind arg) = access look (store_code kind) memory arg None
memory_op look (instrs.LoadSimd memory kind arg) = access look (simd_code kind) memory arg (simd_lane kind)
memory_op look (instrs.MemorySize memory) = one look (byte 0x3f) Memories memory
memory_op look (instrs.MemoryGrow memory) = one look (byte 0x40) Memories memory
memory_op look (instrs.MemoryInit memory segment) = two look (bulk 8) DataSegments segment Memories memory
memory_op look (instrs.DataDrop segment) = one look (bulk 9) DataSegments segment
memory_op look (instrs.MemoryCopy src dst) = two look (bulk 10) Memories dst Memories src
memory_op look (instrs.MemoryFill memory) = one look (bulk 11) Memories memory
memory_op look (instrs.AtomicNotify memory arg) = access look (atomic 0) memory arg None
memory_op look (instrs.AtomicWait memory arg sixty_four) = access look (atomic (if sixty_four then 2 else 1)) memory arg None
memory_op look (instrs.AtomicRmw memory change width arg) = access look (rmw_code change width) memory arg None
memory_op look (instrs.Cmpxchg memory width arg) = access look (cmpxchg_code width) memory arg None
memory_op look _ = Ok None

-- ---- references, structures and arrays

abbrev pub object_op : Look → Instr → Or (Option Seen)
object_op look (instrs.RefNull ty) = heap look (byte 0xd0) ty.heap_type
object_op look (instrs.RefTest ty) = heap look (test_code ty.nullable) ty.heap_type
object_op look (instrs.RefCast ty) = heap look (cast_code ty.nullable) ty.heap_type
object_op look (instrs.StructNew ty) = one look (object 0) Types ty
object_op look (instrs.StructNewDefault ty) = one look (object 1) Types ty
object_op look (instrs.StructGet ty field) = counted look (object 2) Types ty field
object_op look (instrs.StructGetS ty field) = counted look (object 3) Types ty field
object_op look (instrs.StructGetU ty field) = counted look (object 4) Types ty field
object_op look (instrs.StructSet ty field) = counted look (object 5) Types ty field
object_op look (instrs.ArrayNew ty) = one look (object 6) Types ty
object_op look (instrs.ArrayNewDefault ty) = one look (object 7) Types ty
object_op look (instrs.ArrayNewFixed ty size) = counted look (object 8) Types ty size
object_op look (instrs.ArrayNewData ty segment) = two look (object 9) Types ty DataSegments segment
object_op look (instrs.ArrayNewElem ty elem) = two look (object 10) Types ty ElementSegments elem
object_op look (instrs.ArrayGet ty) = one look (object 11) Types ty
object_op look (instrs.ArrayGetS ty) = one look (object 12) Types ty
object_op look (instrs.ArrayGetU ty) = one look (object 13) Types ty
object_op look (instrs.ArraySet ty) = one look (object 14) Types ty
object_op look (instrs.ArrayFill ty) = one look (object 16) Types ty
object_op look (instrs.ArrayCopy src dst) = two look (object 17) Types dst Types src
object_op look (instrs.ArrayInitData ty segment) = two look (object 18) Types ty DataSegments segment
object_op look (instrs.ArrayInitElem ty elem) = two look (object 19) Types ty ElementSegments elem
object_op look _ = Ok None

-- ---- of a value type: `select`

abbrev pub select : Look → Instr → Or (Option Seen)
select look (instrs.Select (Some ty)) = written_value (look Types) ty >>= λ value. op (byte 0x1c) (ManyValues (value ∷ []) ∷ [])
select look _ = Ok None

-- ---- all

-- the first answer that is not that there is none
abbrev pub either : Or (Option Seen) → Or (Option Seen) → Or (Option Seen)
either (Ok None) other = other
either (Ok (Some s)) other = Ok (Some s)
either (Err e) other = Err e

abbrev pub plain_at : Look → Instr → Or (Option Seen)
plain_at look i = either (of_code (bare_code i)) (either (numeric i) (either (variable look i) (either (memory_op look i) (object_op look i))))

-- the operator of an instruction, if it has one of its own
unfoldable pub operator_at : Look → Instr → Or (Option Seen)
operator_at look i = either (plain_at look i) (select look i)
