-- What bytes are read as which type, or where they are refused (Core Specification, binary format, types). A byte that is given
-- to a reading was read before, and stands where `start` bytes were left.
use Rattle.std.specs.Prelude.{ℕ, ◌==◌, Bool, true, false, List, length, Ok, Err, if◌then◌else◌}
use Rattle.wasm_ref_types.specs.wasm_features.declared.WasmFeatures.{WasmFeatures}
use Rattle.wasm_ref_types.specs.wasm_features.Features.{Feature, GcTypes, SharedEverythingThreads, enables, constant, features_of}
use Rattle.wasm_ref_types.specs.wasm_reader.declared.error.ErrorKind.TheVariants as kinds
use Rattle.wasm_ref_types.specs.wasm_reader.Reading.{Reading, fault, ◌>>=◌, byte_at, next_at}
use Rattle.wasm_ref_types.specs.wasm_reader.Items.{vec_at}
use Rattle.wasm_ref_types.specs.ReadTypes.{value_at}
use Rattle.wasm_composite_types.specs.declared.field.StorageType.{StorageType}
use Rattle.wasm_composite_types.specs.declared.field.StorageType.TheVariants.{I8, I16, Val}
use Rattle.wasm_composite_types.specs.declared.field.FieldType.{FieldType}
use Rattle.wasm_composite_types.specs.declared.form.FuncType.{FuncType}
use Rattle.wasm_composite_types.specs.declared.form.ArrayType.{ArrayType}
use Rattle.wasm_composite_types.specs.declared.form.StructType.{StructType}
use Rattle.wasm_composite_types.specs.declared.form.CompositeInnerType.{CompositeInnerType}
use Rattle.wasm_composite_types.specs.declared.form.CompositeInnerType.TheVariants.{Func, Array, Struct}
use Rattle.wasm_composite_types.specs.declared.form.CompositeType.{CompositeType}

-- a form whose feature has to be on
abbrev pub gated : {A : Type 0} → WasmFeatures → Feature → ℕ → Reading A → Reading A
gated features name start reading = if enables features name then reading else Err (fault (kinds.Feature (features_of (constant name))) start)

-- what a field holds
unfoldable pub storage_at : WasmFeatures → List ℕ → Reading StorageType
storage_at features bytes = do
  b ← next_at bytes
  (if b.0 == 0x78 then (byte_at b.1 >>= λ x. Ok (I8, x.1))
      else (if b.0 == 0x77 then (byte_at b.1 >>= λ x. Ok (I16, x.1))
      else (value_at features b.1 >>= λ x. Ok (Val x.0, x.1))))

-- whether a field or a global can be written
unfoldable pub mutable_at : List ℕ → Reading Bool
mutable_at bytes = do
  b ← byte_at bytes
  (if b.0 == 0 then Ok (false, b.1) else (if b.0 == 1 then Ok (true, b.1) else Err (fault kinds.BadByte (length bytes))))

unfoldable pub field_at : WasmFeatures → List ℕ → Reading FieldType
field_at features bytes = do
  storage ← storage_at features bytes
  mutable ← mutable_at storage.1
  Ok (record { element_type = storage.0; mutable = mutable.0 }, mutable.1)

unfoldable pub func_at : WasmFeatures → List ℕ → Reading FuncType
func_at features bytes = do
  params ← vec_at 1000 (value_at features) bytes
  results ← vec_at 1000 (value_at features) params.1
  Ok (record { params = params.0; results = results.0 }, results.1)

unfoldable pub array_at : WasmFeatures → List ℕ → Reading ArrayType
array_at features bytes = do
  field ← field_at features bytes
  Ok (record { 0 = field.0 }, field.1)

unfoldable pub struct_at : WasmFeatures → List ℕ → Reading StructType
struct_at features bytes = do
  fields ← vec_at 10000 (field_at features) bytes
  Ok (record { fields = fields.0 }, fields.1)

-- the form that begins with this byte
unfoldable pub form_after : WasmFeatures → ℕ → ℕ → List ℕ → Reading CompositeInnerType
form_after features b start bytes =
    if b == 0x60 then (func_at features bytes >>= λ x. Ok (Func x.0, x.1))
    else (if b == 0x5f then gated features GcTypes start (struct_at features bytes >>= λ x. Ok (Struct x.0, x.1))
    else (if b == 0x5e then gated features GcTypes start (array_at features bytes >>= λ x. Ok (Array x.0, x.1))
    else Err (fault kinds.BadByte start)))

-- a form
unfoldable pub form_at : WasmFeatures → List ℕ → Reading CompositeInnerType
form_at features bytes = do
  b ← byte_at bytes
  form_after features b.0 (length bytes) b.1

-- the composite type that begins with this byte
unfoldable pub composite_after : WasmFeatures → ℕ → ℕ → List ℕ → Reading CompositeType
composite_after features b start bytes =
    if b == 0x65 then gated features SharedEverythingThreads start (form_at features bytes >>= λ x. Ok (record { inner = x.0; shared = true }, x.1))
    else (form_after features b start bytes >>= λ x. Ok (record { inner = x.0; shared = false }, x.1))

unfoldable pub composite_at : WasmFeatures → List ℕ → Reading CompositeType
composite_at features bytes = do
  b ← byte_at bytes
  composite_after features b.0 (length bytes) b.1
