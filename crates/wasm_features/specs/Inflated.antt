-- Feature sets as one field for each name.
use Rattle.std.specs.Prelude.{Bool, ◌≡◌, ◌&&◌, filter}
use Rattle.wasm_features.specs.declared.WasmFeatures.{WasmFeatures}
use Rattle.wasm_features.specs.declared.inflated.WasmFeaturesInflated.{WasmFeaturesInflated}
use Rattle.wasm_features.specs.Features.{Feature, MutableGlobal, SaturatingFloatToInt, SignExtension, ReferenceTypes, MultiValue, BulkMemory, Simd, RelaxedSimd, Threads, SharedEverythingThreads, TailCall, Floats, MultiMemory, Exceptions, Memory64, ExtendedConst, FunctionReferences, Gc, CustomPageSizes, LegacyExceptions, GcTypes, WideArithmetic, CallIndirectOverlong, BulkMemoryOpt, enables, features_of, all_names}

-- the field of a name
abbrev pub field : WasmFeaturesInflated → Feature → Bool
field fields MutableGlobal = fields.mutable_global
field fields SaturatingFloatToInt = fields.saturating_float_to_int
field fields SignExtension = fields.sign_extension
field fields ReferenceTypes = fields.reference_types
field fields MultiValue = fields.multi_value
field fields BulkMemory = fields.bulk_memory
field fields Simd = fields.simd
field fields RelaxedSimd = fields.relaxed_simd
field fields Threads = fields.threads
field fields SharedEverythingThreads = fields.shared_everything_threads
field fields TailCall = fields.tail_call
field fields Floats = fields.floats
field fields MultiMemory = fields.multi_memory
field fields Exceptions = fields.exceptions
field fields Memory64 = fields.memory64
field fields ExtendedConst = fields.extended_const
field fields FunctionReferences = fields.function_references
field fields Gc = fields.gc
field fields CustomPageSizes = fields.custom_page_sizes
field fields LegacyExceptions = fields.legacy_exceptions
field fields GcTypes = fields.gc_types
field fields WideArithmetic = fields.wide_arithmetic
field fields CallIndirectOverlong = fields.call_indirect_overlong
field fields BulkMemoryOpt = fields.bulk_memory_opt

-- the fields that a test of the names gives
abbrev pub inflated : (Feature → Bool) → WasmFeaturesInflated
inflated test = record {
  mutable_global = test MutableGlobal;
  saturating_float_to_int = test SaturatingFloatToInt;
  sign_extension = test SignExtension;
  reference_types = test ReferenceTypes;
  multi_value = test MultiValue;
  bulk_memory = test BulkMemory;
  simd = test Simd;
  relaxed_simd = test RelaxedSimd;
  threads = test Threads;
  shared_everything_threads = test SharedEverythingThreads;
  tail_call = test TailCall;
  floats = test Floats;
  multi_memory = test MultiMemory;
  exceptions = test Exceptions;
  memory64 = test Memory64;
  extended_const = test ExtendedConst;
  function_references = test FunctionReferences;
  gc = test Gc;
  custom_page_sizes = test CustomPageSizes;
  legacy_exceptions = test LegacyExceptions;
  gc_types = test GcTypes;
  wide_arithmetic = test WideArithmetic;
  call_indirect_overlong = test CallIndirectOverlong;
  bulk_memory_opt = test BulkMemoryOpt;
}

-- the set of the names whose fields are true
abbrev pub deflated : WasmFeaturesInflated → WasmFeatures
deflated fields = features_of (filter (field fields) all_names)

-- a set made of fields gives each of them back, but for the two names whose constant holds another name too:
-- these are answered true only if that name is as well
abbrev pub InflateGivesBack : Type 0
InflateGivesBack =
    (fields : WasmFeaturesInflated)
    → inflated (enables (deflated fields))
    ≡ record fields {
      reference_types = fields.reference_types && fields.call_indirect_overlong;
      bulk_memory = fields.bulk_memory && fields.bulk_memory_opt;
    }
