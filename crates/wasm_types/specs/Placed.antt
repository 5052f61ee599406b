-- Where the types of a group stand (Core Specification, binary format, types: recursive types): each with the number of bytes
-- that were left at its first byte.
use Rattle.std.specs.Prelude.{ℕ, ◌-◌, ◌==◌, Bool, true, false, List, [], ◌∷◌, length, map, zip, Ok, if◌then◌else◌}
use Rattle.wasm_features.specs.declared.WasmFeatures.{WasmFeatures}
use Rattle.wasm_features.specs.Features.{GcTypes}
use Rattle.wasm_reader.specs.Reading.{Reading, ◌>>=◌, byte_at}
use Rattle.wasm_reader.specs.Items.{vec_at}
use Rattle.wasm_types.specs.declared.subtype.SubType.{SubType}
use Rattle.wasm_types.specs.Groups.{Group}
use Rattle.wasm_composite_types.specs.Readings.{gated}
use Rattle.wasm_types.specs.Readings.{Listed, sub_at, sub_after}

-- whether a group was written as one, and its types with their places
pub record Placed : Type 0 where
  pub explicit : Bool
  pub members : List (ℕ × SubType)

unfoldable pub placed_sub_at : WasmFeatures → List ℕ → Reading (ℕ × SubType)
placed_sub_at features bytes = do
  ty ← sub_at features bytes
  Ok ((length bytes, ty.0), ty.1)

-- the group that begins with this byte
unfoldable pub placed_after : WasmFeatures → ℕ → ℕ → List ℕ → Reading Placed
placed_after features b start bytes =
    if b == 0x4e then gated features GcTypes start (vec_at 1000000 (placed_sub_at features) bytes >>= λ x. Ok (record { explicit = true; members = x.0 }, x.1))
    else (sub_after features b start bytes >>= λ x. Ok (record { explicit = false; members = (start, x.0) ∷ [] }, x.1))

unfoldable pub placed_at : WasmFeatures → List ℕ → Reading Placed
placed_at features bytes = do
  b ← byte_at bytes
  placed_after features b.0 (length bytes) b.1

-- a member by the number of bytes left, in a window that ends there
abbrev pub placed_member : ℕ → ℕ × SubType → ℕ × SubType
placed_member end member = (end - member.0, member.1)

abbrev pub placed_members : ℕ → Group → List (ℕ × SubType)
placed_members end group = map (placed_member end) (zip group.offsets group.types)

abbrev pub placed : ℕ → Group → Placed
placed end group = record { explicit = group.explicit; members = placed_members end group }

-- the types alone
abbrev pub listed : Group → Listed
listed group = record { explicit = group.explicit; types = group.types }
