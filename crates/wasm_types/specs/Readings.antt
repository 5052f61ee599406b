-- What bytes are read as which type, or where they are refused (Core Specification, binary format, types). A byte that is given
-- to a reading was read before, and stands where `start` bytes were left.
use Rattle.std.specs.Prelude.{ℕ, ◌==◌, ◌^◌, nat_lt, Bool, true, false, List, [], ◌∷◌, length, Option, Some, None, Ok, Err, if◌then◌else◌}
use Rattle.wasm_features.specs.declared.WasmFeatures.{WasmFeatures}
use Rattle.wasm_features.specs.Features.{GcTypes}
use Rattle.wasm_reader.specs.declared.error.ErrorKind.TheVariants as kinds
use Rattle.wasm_reader.specs.Reading.{Reading, fault, ◌>>=◌, byte_at}
use Rattle.wasm_reader.specs.Numbers.{unsigned_at}
use Rattle.wasm_reader.specs.Text.{size_at}
use Rattle.wasm_reader.specs.Items.{vec_at}
use Rattle.wasm_composite_types.specs.wasm_ref_types.declared.index.UnpackedIndex.{UnpackedIndex}
use Rattle.wasm_composite_types.specs.wasm_ref_types.declared.index.UnpackedIndex.TheVariants.{Module}
use Rattle.wasm_composite_types.specs.Readings.{gated, composite_after, composite_at}
use Rattle.wasm_types.specs.declared.subtype.SubType.{SubType}

-- an index of a type, below 2^20
unfoldable pub index_at : List ℕ → Reading UnpackedIndex
index_at bytes = do
  n ← unsigned_at 32 bytes
  if nat_lt n.0 (2 ^ 20) then Ok (Module n.0, n.1) else Err (fault kinds.Limit (length bytes))

-- at most one supertype
unfoldable pub supertype_at : List ℕ → Reading (Option UnpackedIndex)
supertype_at bytes = do
  count ← size_at 1 bytes
  if count.0 == 0 then Ok (None, count.1) else (index_at count.1 >>= λ x. Ok (Some x.0, x.1))

-- what stands after the byte that says whether a subtype is final
unfoldable pub declared_at : WasmFeatures → Bool → List ℕ → Reading SubType
declared_at features is_final bytes = do
  supertype ← supertype_at bytes
  composite ← composite_at features supertype.1
  Ok (record { is_final = is_final; supertype_idx = supertype.0; composite_type = composite.0 }, composite.1)

-- the subtype that begins with this byte
unfoldable pub sub_after : WasmFeatures → ℕ → ℕ → List ℕ → Reading SubType
sub_after features b start bytes =
    if b == 0x50 then gated features GcTypes start (declared_at features false bytes)
    else (if b == 0x4f then gated features GcTypes start (declared_at features true bytes)
    else (composite_after features b start bytes >>= λ x. Ok (record { is_final = true; supertype_idx = None; composite_type = x.0 }, x.1)))

unfoldable pub sub_at : WasmFeatures → List ℕ → Reading SubType
sub_at features bytes = do
  b ← byte_at bytes
  sub_after features b.0 (length bytes) b.1

-- whether a group was written as one, and its types
pub record Listed : Type 0 where
  pub explicit : Bool
  pub types : List SubType

-- the group that begins with this byte
unfoldable pub group_after : WasmFeatures → ℕ → ℕ → List ℕ → Reading Listed
group_after features b start bytes =
    if b == 0x4e then gated features GcTypes start (vec_at 1000000 (sub_at features) bytes >>= λ x. Ok (record { explicit = true; types = x.0 }, x.1))
    else (sub_after features b start bytes >>= λ x. Ok (record { explicit = false; types = x.0 ∷ [] }, x.1))

unfoldable pub group_at : WasmFeatures → List ℕ → Reading Listed
group_at features bytes = do
  b ← byte_at bytes
  group_after features b.0 (length bytes) b.1
