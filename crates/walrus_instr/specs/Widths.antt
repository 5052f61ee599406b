-- Bytes that memory instructions touch, and which of them are atomic (Core Specification, memory instructions;
-- threads).
use Rattle.std.specs.Prelude.{ℕ, Bool, true, false}
use Rattle.walrus_instr.specs.declared.memory.ExtendedLoad.{ExtendedLoad}
use Rattle.walrus_instr.specs.declared.memory.ExtendedLoad.TheVariants.{ZeroExtendAtomic}
use Rattle.walrus_instr.specs.declared.memory.LoadKind.{LoadKind}
use Rattle.walrus_instr.specs.declared.memory.LoadKind.TheVariants as Load
use Rattle.walrus_instr.specs.declared.memory.StoreKind.{StoreKind}
use Rattle.walrus_instr.specs.declared.memory.StoreKind.TheVariants as Store
use Rattle.walrus_instr.specs.declared.memory.AtomicWidth.{AtomicWidth}
use Rattle.walrus_instr.specs.declared.memory.AtomicWidth.TheVariants as Atomic

-- whether the load is atomic: those of threads fill with zeros alone
abbrev pub extends_atomically : ExtendedLoad → Bool
extends_atomically ZeroExtendAtomic = true
extends_atomically _ = false

-- how many bytes a load reads
abbrev pub load_width : LoadKind → ℕ
load_width (Load.I32 _) = 4
load_width (Load.I64 _) = 8
load_width Load.F32 = 4
load_width Load.F64 = 8
load_width Load.V128 = 16
load_width (Load.I32_8 _) = 1
load_width (Load.I32_16 _) = 2
load_width (Load.I64_8 _) = 1
load_width (Load.I64_16 _) = 2
load_width (Load.I64_32 _) = 4

-- whether a load is one of `atomic.load`
abbrev pub load_is_atomic : LoadKind → Bool
load_is_atomic (Load.I32 atomic) = atomic
load_is_atomic (Load.I64 atomic) = atomic
load_is_atomic (Load.I32_8 kind) = extends_atomically kind
load_is_atomic (Load.I32_16 kind) = extends_atomically kind
load_is_atomic (Load.I64_8 kind) = extends_atomically kind
load_is_atomic (Load.I64_16 kind) = extends_atomically kind
load_is_atomic (Load.I64_32 kind) = extends_atomically kind
load_is_atomic _ = false

-- how many bytes a store writes
abbrev pub store_width : StoreKind → ℕ
store_width (Store.I32 _) = 4
store_width (Store.I64 _) = 8
store_width Store.F32 = 4
store_width Store.F64 = 8
store_width Store.V128 = 16
store_width (Store.I32_8 _) = 1
store_width (Store.I32_16 _) = 2
store_width (Store.I64_8 _) = 1
store_width (Store.I64_16 _) = 2
store_width (Store.I64_32 _) = 4

-- whether a store is one of `atomic.store`
abbrev pub store_is_atomic : StoreKind → Bool
store_is_atomic (Store.I32 atomic) = atomic
store_is_atomic (Store.I64 atomic) = atomic
store_is_atomic (Store.I32_8 atomic) = atomic
store_is_atomic (Store.I32_16 atomic) = atomic
store_is_atomic (Store.I64_8 atomic) = atomic
store_is_atomic (Store.I64_16 atomic) = atomic
store_is_atomic (Store.I64_32 atomic) = atomic
store_is_atomic _ = false

-- how many bytes an atomic read, change and write touches
abbrev pub atomic_bytes : AtomicWidth → ℕ
atomic_bytes Atomic.I32 = 4
atomic_bytes Atomic.I32_8 = 1
atomic_bytes Atomic.I32_16 = 2
atomic_bytes Atomic.I64 = 8
atomic_bytes Atomic.I64_8 = 1
atomic_bytes Atomic.I64_16 = 2
atomic_bytes Atomic.I64_32 = 4
