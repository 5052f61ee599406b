-- Sets of 24 names: a set is a number whose binary digits say which names are in.
use Rattle.std.specs.Prelude.{ℕ, Bool, List, [], ◌∷◌, ◌==◌, ◌^◌, ◌&&◌, map, codes}
use Rattle.wasm_features.specs.declared.WasmFeatures.{WasmFeatures}
use Rattle.std.specs.Int.RustNames.{bit_and, bit_or}

-- the names: proposals to WebAssembly, most of them in the standard by now (Core Specification, appendix Change History)
pub data Feature : Type 0 where
  MutableGlobal : Feature
  SaturatingFloatToInt : Feature
  SignExtension : Feature
  ReferenceTypes : Feature
  MultiValue : Feature
  BulkMemory : Feature
  Simd : Feature
  RelaxedSimd : Feature
  Threads : Feature
  SharedEverythingThreads : Feature
  TailCall : Feature
  Floats : Feature
  MultiMemory : Feature
  Exceptions : Feature
  Memory64 : Feature
  ExtendedConst : Feature
  FunctionReferences : Feature
  Gc : Feature
  CustomPageSizes : Feature
  LegacyExceptions : Feature
  GcTypes : Feature
  WideArithmetic : Feature
  CallIndirectOverlong : Feature
  BulkMemoryOpt : Feature

-- the place of a name's digit
abbrev pub place : Feature → ℕ
place MutableGlobal = 0
place SaturatingFloatToInt = 1
place SignExtension = 2
place ReferenceTypes = 3
place MultiValue = 4
place BulkMemory = 5
place Simd = 6
place RelaxedSimd = 7
place Threads = 8
place SharedEverythingThreads = 9
place TailCall = 10
place Floats = 11
place MultiMemory = 12
place Exceptions = 13
place Memory64 = 14
place ExtendedConst = 15
place FunctionReferences = 16
place Gc = 17
place CustomPageSizes = 18
place LegacyExceptions = 19
place GcTypes = 20
place WideArithmetic = 21
place CallIndirectOverlong = 22
place BulkMemoryOpt = 23

-- whether a name is in a set: whether the set has the name's digit
abbrev pub has : WasmFeatures → Feature → Bool
has features name = bit_and features.bits (2 ^ place name) == 2 ^ place name

-- what the accessor of a name answers: whether the set has the name's whole constant
abbrev pub enables : WasmFeatures → Feature → Bool
enables features ReferenceTypes = has features ReferenceTypes && has features CallIndirectOverlong
enables features BulkMemory = has features BulkMemory && has features BulkMemoryOpt
enables features name = has features name

-- a digit 1 at the place of each of these names, and at no other
abbrev pub bits_of : List Feature → ℕ
bits_of [] = 0
bits_of (name ∷ names) = bit_or (2 ^ place name) (bits_of names)

-- the set of these names
abbrev pub features_of : List Feature → WasmFeatures
features_of names = record { bits = bits_of names }

-- the names of a name's constant: itself, and two of them bring a smaller one along
abbrev pub constant : Feature → List Feature
constant ReferenceTypes = ReferenceTypes ∷ CallIndirectOverlong ∷ []
constant BulkMemory = BulkMemory ∷ BulkMemoryOpt ∷ []
constant name = name ∷ []

-- the text of a name's constant
abbrev pub constant_text : Feature → List ℕ
constant_text MutableGlobal = codes "MUTABLE_GLOBAL"
constant_text SaturatingFloatToInt = codes "SATURATING_FLOAT_TO_INT"
constant_text SignExtension = codes "SIGN_EXTENSION"
constant_text ReferenceTypes = codes "REFERENCE_TYPES"
constant_text MultiValue = codes "MULTI_VALUE"
constant_text BulkMemory = codes "BULK_MEMORY"
constant_text Simd = codes "SIMD"
constant_text RelaxedSimd = codes "RELAXED_SIMD"
constant_text Threads = codes "THREADS"
constant_text SharedEverythingThreads = codes "SHARED_EVERYTHING_THREADS"
constant_text TailCall = codes "TAIL_CALL"
constant_text Floats = codes "FLOATS"
constant_text MultiMemory = codes "MULTI_MEMORY"
constant_text Exceptions = codes "EXCEPTIONS"
constant_text Memory64 = codes "MEMORY64"
constant_text ExtendedConst = codes "EXTENDED_CONST"
constant_text FunctionReferences = codes "FUNCTION_REFERENCES"
constant_text Gc = codes "GC"
constant_text CustomPageSizes = codes "CUSTOM_PAGE_SIZES"
constant_text LegacyExceptions = codes "LEGACY_EXCEPTIONS"
constant_text GcTypes = codes "GC_TYPES"
constant_text WideArithmetic = codes "WIDE_ARITHMETIC"
constant_text CallIndirectOverlong = codes "CALL_INDIRECT_OVERLONG"
constant_text BulkMemoryOpt = codes "BULK_MEMORY_OPT"

-- all names, in the order of their digits
abbrev pub all_names : List Feature
all_names = MutableGlobal ∷ SaturatingFloatToInt ∷ SignExtension ∷ ReferenceTypes ∷ MultiValue ∷ BulkMemory ∷ Simd ∷ RelaxedSimd ∷ Threads ∷ SharedEverythingThreads ∷ TailCall ∷ Floats ∷ MultiMemory ∷ Exceptions ∷ Memory64 ∷ ExtendedConst ∷ FunctionReferences ∷ Gc ∷ CustomPageSizes ∷ LegacyExceptions ∷ GcTypes ∷ WideArithmetic ∷ CallIndirectOverlong ∷ BulkMemoryOpt ∷ []

-- each constant's text and set
abbrev pub flag_table : List (List ℕ × ℕ)
flag_table = map (λ name. (constant_text name, bits_of (constant name))) all_names
