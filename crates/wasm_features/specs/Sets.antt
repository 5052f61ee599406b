-- Operations on sets of names, and the sets that go with each version of the standard.
use Rattle.std.specs.Prelude.{Bool, true, List, [], ◌∷◌, ◌<◌, ◌^◌, ◌≡◌}
use Rattle.std.specs.Int.RustNames.{bit_and, bit_or, bit_xor}
use Rattle.bitflags.specs.Sets.{without}
use Rattle.wasm_features.specs.declared.WasmFeatures.{WasmFeatures}
use Rattle.wasm_features.specs.Features.{Feature, MutableGlobal, SaturatingFloatToInt, SignExtension, ReferenceTypes, MultiValue, BulkMemory, Simd, RelaxedSimd, Threads, TailCall, Floats, MultiMemory, Exceptions, Memory64, ExtendedConst, FunctionReferences, Gc, CustomPageSizes, GcTypes, CallIndirectOverlong, BulkMemoryOpt, has, features_of, all_names}

-- a set has a name exactly if the name passes the test
abbrev pub HasExactly : WasmFeatures → (Feature → Bool) → Type 0
HasExactly features test = (name : Feature) → has features name ≡ test name

-- each name of one set is in the other
abbrev pub IsWithin : WasmFeatures → WasmFeatures → Type 0
IsWithin small large = (name : Feature) → has small name ≡ true → has large name ≡ true

-- a set with no digit beyond those of the names
abbrev pub IsNamed : WasmFeatures → Type 0
IsNamed features = features.bits < 2 ^ 24

-- the names of either set, of both, of the first alone, of one alone, and those that a set lacks
abbrev pub union : WasmFeatures → WasmFeatures → WasmFeatures
union a b = record { bits = bit_or a.bits b.bits }

abbrev pub intersection : WasmFeatures → WasmFeatures → WasmFeatures
intersection a b = record { bits = bit_and a.bits b.bits }

abbrev pub difference : WasmFeatures → WasmFeatures → WasmFeatures
difference a b = record { bits = without 32 a.bits b.bits }

abbrev pub symmetric_difference : WasmFeatures → WasmFeatures → WasmFeatures
symmetric_difference a b = record { bits = bit_xor a.bits b.bits }

abbrev pub complement : WasmFeatures → WasmFeatures
complement a = difference (features_of all_names) a

-- the version of WebAssembly of 2017
abbrev pub mvp_names : List Feature
mvp_names = Floats ∷ GcTypes ∷ []

-- version 1.0 of the standard (Core Specification, appendix Change History, for this and the next two)
abbrev pub wasm1_names : List Feature
wasm1_names = MutableGlobal ∷ mvp_names

-- version 2.0: Release 2.0
abbrev pub wasm2_names : List Feature
wasm2_names =
    SaturatingFloatToInt ∷ SignExtension ∷ ReferenceTypes ∷ CallIndirectOverlong ∷ MultiValue ∷ BulkMemory
    ∷ BulkMemoryOpt ∷ Simd ∷ wasm1_names

-- version 3.0: Release 3.0
abbrev pub wasm3_names : List Feature
wasm3_names =
    TailCall ∷ ExtendedConst ∷ FunctionReferences ∷ Gc ∷ MultiMemory ∷ RelaxedSimd ∷ Exceptions ∷ Memory64 ∷ wasm2_names

-- what a reader takes unless told otherwise
abbrev pub default_names : List Feature
default_names = Threads ∷ CustomPageSizes ∷ wasm3_names

-- the profile Lime1: version 1.0 and the features that most engines have
abbrev pub lime1_names : List Feature
lime1_names =
    SaturatingFloatToInt ∷ SignExtension ∷ MultiValue ∷ ExtendedConst ∷ CallIndirectOverlong ∷ BulkMemoryOpt ∷ wasm1_names
