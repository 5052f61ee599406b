-- The instruction of each plain operator, by its immediates and its code, names sent through a look-up (Core Specification, binary
-- format: instructions; the proposals on threads and wide arithmetic). Operators of blocks and labels have none here.
use Rattle.std.specs.Prelude.{ℕ, ◌^◌, ◌==◌, ◌&&◌, nat_lt, Bool, true, false, List, [], ◌∷◌, Option, Some, None, Ok, Err, if◌then◌else◌}
use Rattle.std.specs.Option.{option_map}
use Rattle.std.specs.Int.{w128, from_le_bytes}
use Rattle.wasm_ref_types.specs.declared.value.ValType.{ValType as WrittenValue}
use Rattle.walrus_operators.specs.wasm_operators.declared.memory_access.MemoryAccess.{MemoryAccess}
use Rattle.walrus_operators.specs.wasm_operators.Items.{Space, Types, Functions, Tables, Memories, Tags, Globals, ElementSegments, DataSegments, Locals, Labels, Item, Names, Number, S32, S64, Bits, Byte, Bytes, Heap, Access, ManyValues}
use Rattle.walrus_operators.specs.wasm_operators.declared.op_code.OpCode.{OpCode}
use Rattle.walrus_operators.specs.wasm_operators.Operators.{Seen}
use Rattle.walrus_forms.specs.declared.value.HeapType.{HeapType}
use Rattle.walrus_forms.specs.declared.value.RefType.{RefType}
use Rattle.walrus_codes.specs.walrus_instr.declared.instr.Value.TheVariants as constants
use Rattle.walrus_codes.specs.walrus_instr.declared.instr.Instr.{Instr}
use Rattle.walrus_codes.specs.walrus_instr.declared.instr.Instr.TheVariants as instrs
use Rattle.walrus_codes.specs.walrus_instr.declared.memory.MemArg.{MemArg}
use Rattle.walrus_codes.specs.walrus_instr.declared.memory.LoadSimdKind.{LoadSimdKind}
use Rattle.walrus_codes.specs.Runs.{Run, run, in_runs}
use Rattle.walrus_codes.specs.Unary.{unary_at}
use Rattle.walrus_codes.specs.Binary.{binary_at}
use Rattle.walrus_codes.specs.Ternary.{ternary_at}
use Rattle.walrus_codes.specs.Access.{load_at, store_at, simd_at, rmw_at, cmpxchg_at}
use Rattle.walrus_pairing.specs.declared.error.PairError.TheVariants as errors
use Rattle.walrus_pairing.specs.Looks.{Look, Or, ◌>>=◌, found}
use Rattle.walrus_pairing.specs.Types.{read_heap, read_value, named}

-- the one instruction at a number
abbrev pub at : ℕ → Instr → Run Instr
at n i = run n (i ∷ [])

-- by rows for codes of one byte
abbrev pub of_bytes : List (Run Instr) → OpCode → Option Instr
of_bytes rows code = if code.prefix == 0 then in_runs rows code.number else None

-- by rows for codes of one byte, and rows for those behind fb, or fc
abbrev pub of_objects : List (Run Instr) → List (Run Instr) → OpCode → Option Instr
of_objects rows objects code = if code.prefix == 0xfb then in_runs objects code.number else of_bytes rows code

abbrev pub of_bulks : List (Run Instr) → List (Run Instr) → OpCode → Option Instr
of_bulks rows bulks code = if code.prefix == 0xfc then in_runs bulks code.number else of_bytes rows code

-- the first that there is
abbrev pub first : Option Instr → Option Instr → Option Instr
first (Some i) other = Some i
first None other = other

-- ---- without names

abbrev pub bare_at : OpCode → Option Instr
bare_at code =
    if code.prefix == 0 then in_runs (at 0x00 instrs.Unreachable ∷ at 0x0a instrs.ThrowRef ∷ at 0x0f instrs.Return ∷ at 0x1a instrs.Drop
    ∷ at 0x1b (instrs.Select None) ∷ at 0xd1 instrs.RefIsNull ∷ at 0xd3 instrs.RefEq ∷ at 0xd4 instrs.RefAsNonNull ∷ []) code.number
    else (if code.prefix == 0xfb then in_runs (at 15 instrs.ArrayLen ∷ at 26 instrs.AnyConvertExtern ∷ at 27 instrs.ExternConvertAny
    ∷ at 28 instrs.RefI31 ∷ at 29 instrs.I31GetS ∷ at 30 instrs.I31GetU ∷ []) code.number
    else (if code.prefix == 0xfc then in_runs (at 19 instrs.I64Add128 ∷ at 20 instrs.I64Sub128 ∷ []) code.number
    else (if code.prefix == 0xfd then in_runs (at 14 instrs.I8x16Swizzle ∷ at 82 instrs.V128Bitselect ∷ []) code.number
    else None)))

abbrev pub numeric_at : OpCode → Option ℕ → Option Instr
numeric_at code lane = first (option_map instrs.Unop (unary_at code lane)) (option_map instrs.Binop (binary_at code lane))

abbrev pub no_immediates_at : OpCode → Option Instr
no_immediates_at code = first (bare_at code) (first (numeric_at code None) (option_map instrs.TernOp (ternary_at code)))

-- of a byte: a lane, or the byte 00 of a fence
abbrev pub byte_at : OpCode → ℕ → Option Instr
byte_at code b = if code.prefix == 0xfe && code.number == 3 && b == 0 then Some instrs.AtomicFence else numeric_at code (Some b)

abbrev pub run_at : OpCode → List ℕ → Option Instr
run_at code bytes =
    if code.prefix == 0xfd then in_runs (at 12 (instrs.Const (constants.V128 (from_le_bytes w128 bytes))) ∷ at 13 (instrs.I8x16Shuffle bytes) ∷ []) code.number
    else None

abbrev pub bits_at : OpCode → ℕ → ℕ → Option Instr
bits_at code size n =
    if size == 4 then of_bytes (at 0x43 (instrs.Const (constants.F32 n)) ∷ []) code
    else (if size == 8 then of_bytes (at 0x44 (instrs.Const (constants.F64 n)) ∷ []) code
    else None)

-- ---- of one name

abbrev pub type_at : OpCode → ℕ → Option Instr
type_at code ty =
    of_objects (at 0x14 (instrs.CallRef ty) ∷ at 0x15 (instrs.ReturnCallRef ty) ∷ [])
    (at 0 (instrs.StructNew ty) ∷ at 1 (instrs.StructNewDefault ty) ∷ at 6 (instrs.ArrayNew ty) ∷ at 7 (instrs.ArrayNewDefault ty)
    ∷ at 11 (instrs.ArrayGet ty) ∷ at 12 (instrs.ArrayGetS ty) ∷ at 13 (instrs.ArrayGetU ty) ∷ at 14 (instrs.ArraySet ty)
    ∷ at 16 (instrs.ArrayFill ty) ∷ []) code

abbrev pub table_at : OpCode → ℕ → Option Instr
table_at code table =
    of_bulks (at 0x25 (instrs.TableGet table) ∷ at 0x26 (instrs.TableSet table) ∷ [])
    (at 15 (instrs.TableGrow table) ∷ at 16 (instrs.TableSize table) ∷ at 17 (instrs.TableFill table) ∷ []) code

abbrev pub memory_at : OpCode → ℕ → Option Instr
memory_at code memory =
    of_bulks (at 0x3f (instrs.MemorySize memory) ∷ at 0x40 (instrs.MemoryGrow memory) ∷ []) (at 11 (instrs.MemoryFill memory) ∷ []) code

abbrev pub function_at : OpCode → ℕ → Option Instr
function_at code func = of_bytes (at 0x10 (instrs.Call func) ∷ at 0x12 (instrs.ReturnCall func) ∷ at 0xd2 (instrs.RefFunc func) ∷ []) code

abbrev pub local_at : OpCode → ℕ → Option Instr
local_at code local = of_bytes (at 0x20 (instrs.LocalGet local) ∷ at 0x21 (instrs.LocalSet local) ∷ at 0x22 (instrs.LocalTee local) ∷ []) code

abbrev pub global_at : OpCode → ℕ → Option Instr
global_at code global = of_bytes (at 0x23 (instrs.GlobalGet global) ∷ at 0x24 (instrs.GlobalSet global) ∷ []) code

abbrev pub name_at : OpCode → Space → ℕ → Option Instr
name_at code Types ty = type_at code ty
name_at code Functions func = function_at code func
name_at code Tables table = table_at code table
name_at code Memories memory = memory_at code memory
name_at code Tags tag = of_bytes (at 0x08 (instrs.Throw tag) ∷ []) code
name_at code Globals global = global_at code global
name_at code ElementSegments elem = of_bulks [] (at 13 (instrs.ElemDrop elem) ∷ []) code
name_at code DataSegments segment = of_bulks [] (at 9 (instrs.DataDrop segment) ∷ []) code
name_at code Locals local = local_at code local
name_at code Labels label = None

-- ---- of two names, or a name and a number

abbrev pub names_at : OpCode → Space → ℕ → Space → ℕ → Option Instr
names_at code Types ty Tables table = of_bytes (at 0x11 (instrs.CallIndirect ty table) ∷ at 0x13 (instrs.ReturnCallIndirect ty table) ∷ []) code
names_at code DataSegments segment Memories memory = of_bulks [] (at 8 (instrs.MemoryInit memory segment) ∷ []) code
names_at code Memories dst Memories src = of_bulks [] (at 10 (instrs.MemoryCopy src dst) ∷ []) code
names_at code ElementSegments elem Tables table = of_bulks [] (at 12 (instrs.TableInit table elem) ∷ []) code
names_at code Tables dst Tables src = of_bulks [] (at 14 (instrs.TableCopy src dst) ∷ []) code
names_at code Types ty DataSegments segment = of_objects [] (at 9 (instrs.ArrayNewData ty segment) ∷ at 18 (instrs.ArrayInitData ty segment) ∷ []) code
names_at code Types ty ElementSegments elem = of_objects [] (at 10 (instrs.ArrayNewElem ty elem) ∷ at 19 (instrs.ArrayInitElem ty elem) ∷ []) code
names_at code Types dst Types src = of_objects [] (at 17 (instrs.ArrayCopy src dst) ∷ []) code
names_at code _ _ _ _ = None

abbrev pub counted_at : OpCode → ℕ → ℕ → Option Instr
counted_at code ty n =
    of_objects [] (at 2 (instrs.StructGet ty n) ∷ at 3 (instrs.StructGetS ty n) ∷ at 4 (instrs.StructGetU ty n) ∷ at 5 (instrs.StructSet ty n)
    ∷ at 8 (instrs.ArrayNewFixed ty n) ∷ []) code

-- ---- of heap types

abbrev pub to : Bool → HeapType → RefType
to nullable heap = record { nullable = nullable; heap_type = heap }

abbrev pub heap_at : OpCode → HeapType → Option Instr
heap_at code heap =
    of_objects (at 0xd0 (instrs.RefNull (to true heap)) ∷ [])
    (at 20 (instrs.RefTest (to false heap)) ∷ at 21 (instrs.RefTest (to true heap)) ∷ at 22 (instrs.RefCast (to false heap))
    ∷ at 23 (instrs.RefCast (to true heap)) ∷ []) code

-- ---- of accesses to memory

-- alignment and offset; an alignment is at most 2^31
abbrev pub arg_of : MemoryAccess → Or MemArg
arg_of a = if nat_lt a.align 32 then Ok (record { align = 2 ^ a.align; offset = a.offset }) else Err errors.Alignment

abbrev pub wait_at : OpCode → ℕ → MemArg → Option Instr
wait_at code memory arg =
    if code.prefix == 0xfe then in_runs (at 0 (instrs.AtomicNotify memory arg) ∷ at 1 (instrs.AtomicWait memory arg false) ∷ at 2 (instrs.AtomicWait memory arg true) ∷ []) code.number
    else None

abbrev pub simd_access : ℕ → MemArg → LoadSimdKind → Instr
simd_access memory arg kind = instrs.LoadSimd memory kind arg

abbrev pub access_at : OpCode → ℕ → MemArg → Option Instr
access_at code memory arg =
    first (option_map (λ kind. instrs.Load memory kind arg) (load_at code))
    (first (option_map (λ kind. instrs.Store memory kind arg) (store_at code))
    (first (option_map (simd_access memory arg) (simd_at code None))
    (first (option_map (λ change. instrs.AtomicRmw memory change.0 change.1 arg) (rmw_at code))
    (first (option_map (λ width. instrs.Cmpxchg memory width arg) (cmpxchg_at code))
    (wait_at code memory arg)))))

-- ---- of value types: one alone

abbrev pub select_at : (ℕ → Option ℕ) → List WrittenValue → Or (Option Instr)
select_at types (ty ∷ []) = read_value types ty >>= λ value. Ok (Some (instrs.Select (Some value)))
select_at types tys = named types tys >>= λ _. Err errors.Select

-- ---- all

abbrev pub single_at : Look → OpCode → Item → Or (Option Instr)
single_at look code (Names Labels label) = Ok None
single_at look code (Names space n) = found look space n >>= λ id. Ok (name_at code space id)
single_at look code (S32 z) = Ok (of_bytes (at 0x41 (instrs.Const (constants.I32 z)) ∷ []) code)
single_at look code (S64 z) = Ok (of_bytes (at 0x42 (instrs.Const (constants.I64 z)) ∷ []) code)
single_at look code (Bits size n) = Ok (bits_at code size n)
single_at look code (Byte b) = Ok (byte_at code b)
single_at look code (Bytes bytes) = Ok (run_at code bytes)
single_at look code (Heap ty) = read_heap (look Types) ty >>= λ heap. Ok (heap_at code heap)
single_at look code (Access a) = found look Memories a.memory >>= λ memory. arg_of a >>= λ arg. Ok (access_at code memory arg)
single_at look code (ManyValues tys) = select_at (look Types) tys
single_at look code _ = Ok None

abbrev pub pair_at : Look → OpCode → Item → Item → Or (Option Instr)
pair_at look code (Names s m) (Names Labels n) = Ok None
pair_at look code (Names s m) (Names t n) = found look s m >>= λ a. found look t n >>= λ b. Ok (names_at code s a t b)
pair_at look code (Names Types m) (Number n) = found look Types m >>= λ ty. Ok (counted_at code ty n)
pair_at look code (Access a) (Byte b) = found look Memories a.memory >>= λ memory. arg_of a >>= λ arg. Ok (option_map (simd_access memory arg) (simd_at code (Some b)))
pair_at look code _ _ = Ok None

abbrev pub of_items : Look → OpCode → List Item → Or (Option Instr)
of_items look code [] = Ok (no_immediates_at code)
of_items look code (x ∷ []) = single_at look code x
of_items look code (x ∷ y ∷ []) = pair_at look code x y
of_items look code _ = Ok None

-- the instruction of an operator, if it has one of its own
abbrev pub instr_at : Look → Seen → Or (Option Instr)
instr_at look op = of_items look op.code op.items
