-- How types are read (Core Specification, binary format: types; the byte 65 is that of the proposal on shared types).
-- A form that is off is a fault where it begins, an index of 2^20 or more one where the index begins.
use Rattle.std.specs.Prelude.{ℕ, ◌==◌, ◌||◌, nat_lt, Bool, true, false, ℤ, pos, negsuc, List, length, Option, Some, None, Ok, Err, if◌then◌else◌}
use Rattle.std.specs.Option.{is_some}
use Rattle.wasm_reader.specs.wasm_features.declared.WasmFeatures.{WasmFeatures}
use Rattle.wasm_reader.specs.wasm_features.Features.{has, features_of, constant, GcTypes, SharedEverythingThreads}
use Rattle.wasm_reader.specs.declared.error.ErrorKind.TheVariants as faults
use Rattle.wasm_reader.specs.Numbers.{s33_at}
use Rattle.wasm_reader.specs.Reading.{Reading, fault, ◌>>=◌, byte_at, next_at}
use Rattle.wasm_ref_types.specs.declared.heap.AbstractHeapType.{AbstractHeapType}
use Rattle.wasm_ref_types.specs.declared.heap.AbstractHeapType.TheVariants as kinds
use Rattle.wasm_ref_types.specs.declared.heap.HeapType.{HeapType}
use Rattle.wasm_ref_types.specs.declared.heap.HeapType.TheVariants.{Abstract, Concrete}
use Rattle.wasm_ref_types.specs.declared.index.UnpackedIndex.TheVariants.{Module}
use Rattle.wasm_ref_types.specs.declared.value.ValType.{ValType}
use Rattle.wasm_ref_types.specs.declared.value.ValType.TheVariants.{I32, I64, F32, F64, V128, Ref}
use Rattle.wasm_ref_types.specs.Reference.{Reference, reference}

-- the abstract heap type of a byte
abbrev pub abstract_byte : ℕ → Option AbstractHeapType
abstract_byte b =
    if b == 0x70 then Some kinds.Func
    else (if b == 0x6f then Some kinds.Extern
    else (if b == 0x6e then Some kinds.Any
    else (if b == 0x71 then Some kinds.None
    else (if b == 0x72 then Some kinds.NoExtern
    else (if b == 0x73 then Some kinds.NoFunc
    else (if b == 0x6d then Some kinds.Eq
    else (if b == 0x6b then Some kinds.Struct
    else (if b == 0x6a then Some kinds.Array
    else (if b == 0x6c then Some kinds.I31
    else (if b == 0x69 then Some kinds.Exn
    else (if b == 0x74 then Some kinds.NoExn
    else None)))))))))))

-- the types that stand whatever features are on
abbrev pub is_basic : AbstractHeapType → Bool
is_basic kinds.Func = true
is_basic kinds.Extern = true
is_basic kinds.Exn = true
is_basic _ = false

-- the features that a missing form is for
abbrev pub gc_types : WasmFeatures
gc_types = features_of (constant GcTypes)

abbrev pub shared_types : WasmFeatures
shared_types = features_of (constant SharedEverythingThreads)

-- what a byte is taken for, where so many bytes are left from it on
abbrev pub abstract_as : WasmFeatures → Option AbstractHeapType → ℕ → List ℕ → Reading AbstractHeapType
abstract_as features None left bytes = Err (fault faults.BadByte left)
abstract_as features (Some ty) left bytes =
    if is_basic ty || has features GcTypes then Ok (ty, bytes) else Err (fault (faults.Feature gc_types) left)

-- an abstract heap type: one byte
unfoldable pub abstract_at : WasmFeatures → List ℕ → Reading AbstractHeapType
abstract_at features bytes = do
  b ← byte_at bytes
  abstract_as features (abstract_byte b.0) (length bytes) b.1

-- a shared heap type: one byte, and an abstract heap type
unfoldable pub shared_at : WasmFeatures → List ℕ → Reading HeapType
shared_at features bytes = do
  b ← byte_at bytes
  (if has features SharedEverythingThreads then (abstract_at features b.1 >>= λ ty. Ok (Abstract true ty.0, ty.1))
      else Err (fault (faults.Feature shared_types) (length bytes)))

-- what a number is taken for as an index
abbrev pub index_as : ℤ → ℕ → List ℕ → Reading HeapType
index_as (pos n) left bytes = if nat_lt n 1048576 then Ok (Concrete (Module n), bytes) else Err (fault faults.Limit left)
index_as (negsuc n) left bytes = Err (fault faults.BadByte left)

-- an index: an s33 that is not negative
unfoldable pub index_at : List ℕ → Reading HeapType
index_at bytes = do
  n ← s33_at bytes
  index_as n.0 (length bytes) n.1

-- a heap type: an abstract one, a shared one, or an index
unfoldable pub heap_at : WasmFeatures → List ℕ → Reading HeapType
heap_at features bytes = do
  b ← next_at bytes
  (if is_some (abstract_byte b.0) then (abstract_at features b.1 >>= λ ty. Ok (Abstract false ty.0, ty.1))
      else (if b.0 == 0x65 then shared_at features b.1 else index_at b.1))

-- a reference type in its long form: one byte, and a heap type
unfoldable pub long_at : WasmFeatures → Bool → List ℕ → Reading Reference
long_at features nullable bytes = do
  b ← byte_at bytes
  (if has features GcTypes then (heap_at features b.1 >>= λ ty. Ok (reference nullable ty.0, ty.1))
      else Err (fault (faults.Feature gc_types) (length bytes)))

-- a reference type: in its long form, or a shared or abstract heap type for its nullable reference
unfoldable pub reference_at : WasmFeatures → List ℕ → Reading Reference
reference_at features bytes = do
  b ← next_at bytes
  (if b.0 == 0x63 then long_at features true b.1
      else (if b.0 == 0x64 then long_at features false b.1
      else (if b.0 == 0x65 then (shared_at features b.1 >>= λ ty. Ok (reference true ty.0, ty.1))
      else (abstract_at features b.1 >>= λ ty. Ok (reference true (Abstract false ty.0), ty.1)))))

-- a number or vector type: one byte
unfoldable pub plain_at : ValType → List ℕ → Reading ValType
plain_at ty bytes = do
  b ← byte_at bytes
  Ok (ty, b.1)

-- a value type: a number type, a vector type or a reference type
unfoldable pub value_at : WasmFeatures → List ℕ → Reading ValType
value_at features bytes = do
  b ← next_at bytes
  (if b.0 == 0x7f then plain_at I32 b.1
      else (if b.0 == 0x7e then plain_at I64 b.1
      else (if b.0 == 0x7d then plain_at F32 b.1
      else (if b.0 == 0x7c then plain_at F64 b.1
      else (if b.0 == 0x7b then plain_at V128 b.1
      else (reference_at features b.1 >>= λ r. Ok (Ref r.0, r.1)))))))
