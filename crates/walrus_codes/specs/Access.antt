-- Codes of loads, stores and atomic operators (Core Specification, binary format: memory instructions, vector instructions; the
-- proposal on threads).
use Rattle.std.specs.Prelude.{ℕ, ◌+◌, ◌==◌, true, false, List, [], ◌∷◌, Option, Some, None, if◌then◌else◌}
use Rattle.walrus_instr.specs.declared.memory.ExtendedLoad.TheVariants as extends
use Rattle.walrus_instr.specs.declared.memory.LoadKind.{LoadKind}
use Rattle.walrus_instr.specs.declared.memory.LoadKind.TheVariants as loads
use Rattle.walrus_instr.specs.declared.memory.StoreKind.{StoreKind}
use Rattle.walrus_instr.specs.declared.memory.StoreKind.TheVariants as stores
use Rattle.walrus_instr.specs.declared.memory.LoadSimdKind.{LoadSimdKind}
use Rattle.walrus_instr.specs.declared.memory.LoadSimdKind.TheVariants as vectors
use Rattle.walrus_instr.specs.declared.memory.AtomicOp.{AtomicOp}
use Rattle.walrus_instr.specs.declared.memory.AtomicOp.TheVariants as changes
use Rattle.walrus_instr.specs.declared.memory.AtomicWidth.{AtomicWidth}
use Rattle.walrus_instr.specs.declared.memory.AtomicWidth.TheVariants as widths
use Rattle.wasm_operators.specs.declared.op_code.OpCode.{OpCode}
use Rattle.walrus_codes.specs.Runs.{Run, run, in_runs, byte, vector, atomic}

-- loads of one byte
unfoldable pub byte_loads : List (Run LoadKind)
byte_loads = run 0x28 (
    loads.I32 false ∷ loads.I64 false ∷ loads.F32 ∷ loads.F64 ∷ loads.I32_8 extends.SignExtend ∷
    loads.I32_8 extends.ZeroExtend ∷ loads.I32_16 extends.SignExtend ∷ loads.I32_16 extends.ZeroExtend ∷
    loads.I64_8 extends.SignExtend ∷ loads.I64_8 extends.ZeroExtend ∷ loads.I64_16 extends.SignExtend ∷
    loads.I64_16 extends.ZeroExtend ∷ loads.I64_32 extends.SignExtend ∷ loads.I64_32 extends.ZeroExtend ∷
    [])
    ∷ []

-- atomic loads, behind fe
unfoldable pub atomic_loads : List (Run LoadKind)
atomic_loads = run 16 (
    loads.I32 true ∷ loads.I64 true ∷ loads.I32_8 extends.ZeroExtendAtomic ∷
    loads.I32_16 extends.ZeroExtendAtomic ∷ loads.I64_8 extends.ZeroExtendAtomic ∷
    loads.I64_16 extends.ZeroExtendAtomic ∷ loads.I64_32 extends.ZeroExtendAtomic ∷ [])
    ∷ []

-- the load of a code
abbrev pub load_at : OpCode → Option LoadKind
load_at code =
    if code.prefix == 0 then in_runs byte_loads code.number
    else (if code.prefix == 0xfd then in_runs (run 0 (loads.V128 ∷ []) ∷ []) code.number
    else (if code.prefix == 0xfe then in_runs atomic_loads code.number
    else None))

-- stores of one byte
unfoldable pub byte_stores : List (Run StoreKind)
byte_stores = run 0x36 (
    stores.I32 false ∷ stores.I64 false ∷ stores.F32 ∷ stores.F64 ∷ stores.I32_8 false ∷
    stores.I32_16 false ∷ stores.I64_8 false ∷ stores.I64_16 false ∷ stores.I64_32 false ∷ [])
    ∷ []

-- atomic stores, behind fe
unfoldable pub atomic_stores : List (Run StoreKind)
atomic_stores = run 23 (
    stores.I32 true ∷ stores.I64 true ∷ stores.I32_8 true ∷ stores.I32_16 true ∷ stores.I64_8 true ∷
    stores.I64_16 true ∷ stores.I64_32 true ∷ [])
    ∷ []

-- the store of a code
abbrev pub store_at : OpCode → Option StoreKind
store_at code =
    if code.prefix == 0 then in_runs byte_stores code.number
    else (if code.prefix == 0xfd then in_runs (run 11 (stores.V128 ∷ []) ∷ []) code.number
    else (if code.prefix == 0xfe then in_runs atomic_stores code.number
    else None))

-- vector accesses without a lane, behind fd
unfoldable pub vector_accesses : List (Run LoadSimdKind)
vector_accesses = run 1 (
    vectors.V128Load8x8S ∷ vectors.V128Load8x8U ∷ vectors.V128Load16x4S ∷ vectors.V128Load16x4U ∷
    vectors.V128Load32x2S ∷ vectors.V128Load32x2U ∷ vectors.Splat8 ∷ vectors.Splat16 ∷ vectors.Splat32 ∷
    vectors.Splat64 ∷ [])
    ∷ run 92 (
    vectors.V128Load32Zero ∷ vectors.V128Load64Zero ∷ [])
    ∷ []

-- those with a lane
unfoldable pub lane_accesses : ℕ → List (Run LoadSimdKind)
lane_accesses lane = run 84 (
    vectors.V128Load8Lane lane ∷ vectors.V128Load16Lane lane ∷ vectors.V128Load32Lane lane ∷
    vectors.V128Load64Lane lane ∷ vectors.V128Store8Lane lane ∷ vectors.V128Store16Lane lane ∷
    vectors.V128Store32Lane lane ∷ vectors.V128Store64Lane lane ∷ [])
    ∷ []

-- the vector access of a code, and of the lane behind it, if there is one
abbrev pub simd_at : OpCode → Option ℕ → Option LoadSimdKind
simd_at code None = if code.prefix == 0xfd then in_runs vector_accesses code.number else None
simd_at code (Some lane) = if code.prefix == 0xfd then in_runs (lane_accesses lane) code.number else None

-- the widths of an atomic change, in the order of their codes
abbrev pub widths_in_order : List AtomicWidth
widths_in_order = widths.I32 ∷ widths.I64 ∷ widths.I32_8 ∷ widths.I32_16 ∷ widths.I64_8 ∷ widths.I64_16 ∷ widths.I64_32 ∷ []

-- a change at each width
abbrev pub at_widths : AtomicOp → List AtomicWidth → List (AtomicOp × AtomicWidth)
at_widths op [] = []
at_widths op (width ∷ widths) = (op, width) ∷ at_widths op widths

-- atomic changes, behind fe
unfoldable pub atomic_changes : List (Run (AtomicOp × AtomicWidth))
atomic_changes =
    run 30 (at_widths changes.Add widths_in_order)
    ∷ run 37 (at_widths changes.Sub widths_in_order)
    ∷ run 44 (at_widths changes.And widths_in_order)
    ∷ run 51 (at_widths changes.Or widths_in_order)
    ∷ run 58 (at_widths changes.Xor widths_in_order)
    ∷ run 65 (at_widths changes.Xchg widths_in_order)
    ∷ []

abbrev pub rmw_at : OpCode → Option (AtomicOp × AtomicWidth)
rmw_at code = if code.prefix == 0xfe then in_runs atomic_changes code.number else None

-- compare and exchange, behind fe
abbrev pub cmpxchg_at : OpCode → Option AtomicWidth
cmpxchg_at code = if code.prefix == 0xfe then in_runs (run 72 widths_in_order ∷ []) code.number else None

-- the code of each
abbrev pub load_code : LoadKind → OpCode
load_code (loads.I32 false) = byte 0x28
load_code (loads.I64 false) = byte 0x29
load_code loads.F32 = byte 0x2a
load_code loads.F64 = byte 0x2b
load_code (loads.I32_8 extends.SignExtend) = byte 0x2c
load_code (loads.I32_8 extends.ZeroExtend) = byte 0x2d
load_code (loads.I32_16 extends.SignExtend) = byte 0x2e
load_code (loads.I32_16 extends.ZeroExtend) = byte 0x2f
load_code (loads.I64_8 extends.SignExtend) = byte 0x30
load_code (loads.I64_8 extends.ZeroExtend) = byte 0x31
load_code (loads.I64_16 extends.SignExtend) = byte 0x32
load_code (loads.I64_16 extends.ZeroExtend) = byte 0x33
load_code (loads.I64_32 extends.SignExtend) = byte 0x34
load_code (loads.I64_32 extends.ZeroExtend) = byte 0x35
load_code loads.V128 = vector 0
load_code (loads.I32 true) = atomic 16
load_code (loads.I64 true) = atomic 17
load_code (loads.I32_8 extends.ZeroExtendAtomic) = atomic 18
load_code (loads.I32_16 extends.ZeroExtendAtomic) = atomic 19
load_code (loads.I64_8 extends.ZeroExtendAtomic) = atomic 20
load_code (loads.I64_16 extends.ZeroExtendAtomic) = atomic 21
load_code (loads.I64_32 extends.ZeroExtendAtomic) = atomic 22

abbrev pub store_code : StoreKind → OpCode
store_code (stores.I32 false) = byte 0x36
store_code (stores.I64 false) = byte 0x37
store_code stores.F32 = byte 0x38
store_code stores.F64 = byte 0x39
store_code (stores.I32_8 false) = byte 0x3a
store_code (stores.I32_16 false) = byte 0x3b
store_code (stores.I64_8 false) = byte 0x3c
store_code (stores.I64_16 false) = byte 0x3d
store_code (stores.I64_32 false) = byte 0x3e
store_code stores.V128 = vector 11
store_code (stores.I32 true) = atomic 23
store_code (stores.I64 true) = atomic 24
store_code (stores.I32_8 true) = atomic 25
store_code (stores.I32_16 true) = atomic 26
store_code (stores.I64_8 true) = atomic 27
store_code (stores.I64_16 true) = atomic 28
store_code (stores.I64_32 true) = atomic 29

abbrev pub simd_code : LoadSimdKind → OpCode
simd_code vectors.V128Load8x8S = vector 1
simd_code vectors.V128Load8x8U = vector 2
simd_code vectors.V128Load16x4S = vector 3
simd_code vectors.V128Load16x4U = vector 4
simd_code vectors.V128Load32x2S = vector 5
simd_code vectors.V128Load32x2U = vector 6
simd_code vectors.Splat8 = vector 7
simd_code vectors.Splat16 = vector 8
simd_code vectors.Splat32 = vector 9
simd_code vectors.Splat64 = vector 10
simd_code vectors.V128Load32Zero = vector 92
simd_code vectors.V128Load64Zero = vector 93
simd_code (vectors.V128Load8Lane _) = vector 84
simd_code (vectors.V128Load16Lane _) = vector 85
simd_code (vectors.V128Load32Lane _) = vector 86
simd_code (vectors.V128Load64Lane _) = vector 87
simd_code (vectors.V128Store8Lane _) = vector 88
simd_code (vectors.V128Store16Lane _) = vector 89
simd_code (vectors.V128Store32Lane _) = vector 90
simd_code (vectors.V128Store64Lane _) = vector 91

-- the lane that a vector access holds
abbrev pub simd_lane : LoadSimdKind → Option ℕ
simd_lane (vectors.V128Load8Lane lane) = Some lane
simd_lane (vectors.V128Load16Lane lane) = Some lane
simd_lane (vectors.V128Load32Lane lane) = Some lane
simd_lane (vectors.V128Load64Lane lane) = Some lane
simd_lane (vectors.V128Store8Lane lane) = Some lane
simd_lane (vectors.V128Store16Lane lane) = Some lane
simd_lane (vectors.V128Store32Lane lane) = Some lane
simd_lane (vectors.V128Store64Lane lane) = Some lane
simd_lane _ = None

-- the place of a width in their order, and the code of each change at the first width
abbrev pub width_place : AtomicWidth → ℕ
width_place widths.I32 = 0
width_place widths.I64 = 1
width_place widths.I32_8 = 2
width_place widths.I32_16 = 3
width_place widths.I64_8 = 4
width_place widths.I64_16 = 5
width_place widths.I64_32 = 6

abbrev pub first_code : AtomicOp → ℕ
first_code changes.Add = 30
first_code changes.Sub = 37
first_code changes.And = 44
first_code changes.Or = 51
first_code changes.Xor = 58
first_code changes.Xchg = 65

abbrev pub rmw_code : AtomicOp → AtomicWidth → OpCode
rmw_code op width = atomic (first_code op + width_place width)

abbrev pub cmpxchg_code : AtomicWidth → OpCode
cmpxchg_code width = atomic (72 + width_place width)
