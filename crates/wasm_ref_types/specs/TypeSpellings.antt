-- Which bytes spell a type (Core Specification, binary format: types), under which features.
use Rattle.std.specs.Prelude.{ℕ, ◌<◌, ◌^◌, ◌≡◌, ◌⊎◌, Bool, true, false, pos, List, [], ◌∷◌, Ok}
use Rattle.wasm_reader.specs.wasm_features.declared.WasmFeatures.{WasmFeatures}
use Rattle.wasm_reader.specs.wasm_features.Features.{has, GcTypes, SharedEverythingThreads}
use Rattle.wasm_reader.specs.Numbers.{signed, Spells}
use Rattle.wasm_reader.specs.Reading.{Reading}
use Rattle.wasm_ref_types.specs.declared.heap.AbstractHeapType.{AbstractHeapType}
use Rattle.wasm_ref_types.specs.declared.heap.AbstractHeapType.TheVariants as kinds
use Rattle.wasm_ref_types.specs.declared.heap.HeapType.{HeapType}
use Rattle.wasm_ref_types.specs.declared.heap.HeapType.TheVariants.{Abstract, Concrete, Exact}
use Rattle.wasm_ref_types.specs.declared.index.UnpackedIndex.TheVariants.{Module, RecGroup, Id}
use Rattle.wasm_ref_types.specs.declared.value.ValType.{ValType}
use Rattle.wasm_ref_types.specs.declared.value.ValType.TheVariants.{I32, I64, F32, F64, V128, Ref}
use Rattle.wasm_ref_types.specs.Reference.{Reference}

abbrev pub HasGcTypes : WasmFeatures → Type 0
HasGcTypes features = has features GcTypes ≡ true

abbrev pub HasSharedTypes : WasmFeatures → Type 0
HasSharedTypes features = has features SharedEverythingThreads ≡ true

-- absheaptype; continuations have no bytes
abbrev pub SpellsAbstract : WasmFeatures → List ℕ → AbstractHeapType → Type 0
SpellsAbstract features bytes kinds.Func = bytes ≡ 0x70 ∷ []
SpellsAbstract features bytes kinds.Extern = bytes ≡ 0x6f ∷ []
SpellsAbstract features bytes kinds.Any = (bytes ≡ 0x6e ∷ []) × HasGcTypes features
SpellsAbstract features bytes kinds.None = (bytes ≡ 0x71 ∷ []) × HasGcTypes features
SpellsAbstract features bytes kinds.NoExtern = (bytes ≡ 0x72 ∷ []) × HasGcTypes features
SpellsAbstract features bytes kinds.NoFunc = (bytes ≡ 0x73 ∷ []) × HasGcTypes features
SpellsAbstract features bytes kinds.Eq = (bytes ≡ 0x6d ∷ []) × HasGcTypes features
SpellsAbstract features bytes kinds.Struct = (bytes ≡ 0x6b ∷ []) × HasGcTypes features
SpellsAbstract features bytes kinds.Array = (bytes ≡ 0x6a ∷ []) × HasGcTypes features
SpellsAbstract features bytes kinds.I31 = (bytes ≡ 0x6c ∷ []) × HasGcTypes features
SpellsAbstract features bytes kinds.Exn = bytes ≡ 0x69 ∷ []
SpellsAbstract features bytes kinds.NoExn = (bytes ≡ 0x74 ∷ []) × HasGcTypes features
SpellsAbstract features bytes kinds.Cont = ⊥
SpellsAbstract features bytes kinds.NoCont = ⊥

-- this byte, and bytes that spell the rest
abbrev pub SpellsBehind : ℕ → (List ℕ → Type 0) → List ℕ → Type 0
SpellsBehind byte Spelled bytes = (inner : List ℕ) × (bytes ≡ byte ∷ inner) × Spelled inner

-- the byte 65 before an absheaptype that is shared
abbrev pub SpellsShared : WasmFeatures → List ℕ → AbstractHeapType → Type 0
SpellsShared features bytes ty = HasSharedTypes features × SpellsBehind 0x65 (λ inner. SpellsAbstract features inner ty) bytes

-- heaptype: an absheaptype, shared or not, or an index of a module as an s33 that is not negative
abbrev pub SpellsHeap : WasmFeatures → List ℕ → HeapType → Type 0
SpellsHeap features bytes (Abstract false ty) = SpellsAbstract features bytes ty
SpellsHeap features bytes (Abstract true ty) = SpellsShared features bytes ty
SpellsHeap features bytes (Concrete (Module index)) = (index < 2 ^ 20) × Spells signed 33 bytes (pos index)
SpellsHeap features bytes (Concrete (RecGroup index)) = ⊥
SpellsHeap features bytes (Concrete (Id id)) = ⊥
SpellsHeap features bytes (Exact index) = ⊥

-- the byte of a reference type's long form
abbrev pub long_byte : Bool → ℕ
long_byte true = 0x63
long_byte false = 0x64

-- a heap type that is no index
abbrev pub IsAbstract : HeapType → Type 0
IsAbstract (Abstract shared ty) = Unit {0}
IsAbstract (Concrete index) = ⊥
IsAbstract (Exact index) = ⊥

-- reftype: a heaptype behind 63 where null is a value and behind 64 where it is none; an abstract heaptype alone stands for
-- its nullable reference
abbrev pub SpellsReference : WasmFeatures → List ℕ → Reference → Type 0
SpellsReference features bytes r =
    (HasGcTypes features × SpellsBehind (long_byte r.nullable) (λ inner. SpellsHeap features inner r.heap_type) bytes)
    ⊎ ((r.nullable ≡ true) × IsAbstract r.heap_type × SpellsHeap features bytes r.heap_type)

-- valtype: a numtype, the vectype or a reftype
abbrev pub SpellsValue : WasmFeatures → List ℕ → ValType → Type 0
SpellsValue features bytes I32 = bytes ≡ 0x7f ∷ []
SpellsValue features bytes I64 = bytes ≡ 0x7e ∷ []
SpellsValue features bytes F32 = bytes ≡ 0x7d ∷ []
SpellsValue features bytes F64 = bytes ≡ 0x7c ∷ []
SpellsValue features bytes V128 = bytes ≡ 0x7b ∷ []
SpellsValue features bytes (Ref r) = SpellsReference features bytes r

-- an absheaptype that files have: no continuation
abbrev pub IsWrittenAbstract : AbstractHeapType → Type 0
IsWrittenAbstract kinds.Cont = ⊥
IsWrittenAbstract kinds.NoCont = ⊥
IsWrittenAbstract ty = Unit {0}

-- what is shared asks for the feature
abbrev pub MayBeShared : WasmFeatures → Bool → Type 0
MayBeShared features shared = shared ≡ true → HasSharedTypes features

-- a heap type that files have under these features: no continuation, no exact type, and an index of a module below 2^20
abbrev pub IsWritten : WasmFeatures → HeapType → Type 0
IsWritten features (Abstract shared ty) = MayBeShared features shared × IsWrittenAbstract ty
IsWritten features (Concrete (Module index)) = index < 2 ^ 20
IsWritten features (Concrete (RecGroup index)) = ⊥
IsWritten features (Concrete (Id id)) = ⊥
IsWritten features (Exact index) = ⊥

abbrev pub IsWrittenValue : WasmFeatures → ValType → Type 0
IsWrittenValue features (Ref r) = IsWritten features r.heap_type
IsWrittenValue features ty = Unit {0}

-- with garbage-collected types on, each value that files have under the features is what some bytes are read as
abbrev pub ReadsWritten : {A : Type 0} → (WasmFeatures → List ℕ → Reading A) → (WasmFeatures → A → Type 0) → Type 0
ReadsWritten {A} reading Written =
    (features : WasmFeatures) (value : A) → HasGcTypes features → Written features value → (bytes : List ℕ) × (reading features bytes ≡ Ok (value, []))
