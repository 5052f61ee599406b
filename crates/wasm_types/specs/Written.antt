-- Lemmas: each type within the limits, with indices of the module below 2^20, has bytes that spell it.
use Rattle.std.specs.Prelude.{ℕ, zero, suc, ◌≡◌, Bool, true, false, List, [], ◌∷◌, ◌++◌, length, All, Option, Some, None, refl}
use Rattle.std.proofs.Common.{arith, inl, inr}
use Rattle.wasm_features.specs.declared.WasmFeatures.{WasmFeatures}
use Rattle.wasm_reader.specs.Shortest.{shortest_unsigned}
use Rattle.wasm_reader.specs.Spelled.{IsShortest-unsigned}
use Rattle.wasm_reader.specs.Vecs.{vec_spelled}
use Rattle.wasm_composite_types.specs.wasm_ref_types.declared.index.UnpackedIndex.{UnpackedIndex}
use Rattle.wasm_composite_types.specs.wasm_ref_types.declared.index.UnpackedIndex.TheVariants.{Module, RecGroup, Id}
use Rattle.wasm_composite_types.specs.wasm_ref_types.TypeSpellings.{HasGcTypes, ReadsWritten}
use Rattle.wasm_composite_types.specs.wasm_ref_types.TypesTaken.{spelled_read}
use Rattle.wasm_types.specs.declared.subtype.SubType.{SubType}
use Rattle.wasm_composite_types.specs.Written.{items_spelled, composite_spelled}
use Rattle.wasm_types.specs.Readings.{sub_at, group_at}
use Rattle.wasm_composite_types.specs.Spellings.{AtMost}
use Rattle.wasm_types.specs.Spellings.{SpellsIndex, SpellsSupertype, declared_byte, SpellsSub, SpellsGroup, IsWrittenIndex, IsWrittenSub, IsWrittenGroup}
use Rattle.wasm_types.specs.TypesTaken.{sub_taken, group_taken}

index_spelled : (index : UnpackedIndex) → IsWrittenIndex (Some index) → (bytes : List ℕ) × SpellsIndex bytes index
index_spelled (Module n) h = (shortest_unsigned 5 n, (h, (IsShortest-unsigned 5 32 n (omega arith) (omega arith) (omega (arith, h))).spells))
index_spelled (RecGroup n) h = absurd h
index_spelled (Id n) h = absurd h

supertype_spelled : (supertype : Option UnpackedIndex) → IsWrittenIndex supertype → (bytes : List ℕ) × SpellsSupertype bytes supertype
supertype_spelled None h = vec_spelled 1 SpellsIndex [] (omega arith) (omega arith) (λ k d low. absurd (omega arith))
supertype_spelled (Some index) h = vec_spelled 1 SpellsIndex (index ∷ []) (omega arith) (omega arith) (only index (index_spelled index h))
  where
    only : (x : UnpackedIndex) → (bytes : List ℕ) × SpellsIndex bytes x → All (λ i. (bytes : List ℕ) × SpellsIndex bytes i) (x ∷ [])
    only x found zero d low = found
    only x found (suc k) d low = absurd (omega arith)

module _ (features : WasmFeatures) (gc : HasGcTypes features) where
  sub_spelled : (ty : SubType) → IsWrittenSub features ty → (bytes : List ℕ) × SpellsSub features bytes ty
  sub_spelled ty h =
      let supertype = supertype_spelled ty.supertype_idx h.0 in
      let composite = composite_spelled features gc ty.composite_type h.1 in
      let inner = supertype.0 ++ composite.0 in
      (declared_byte ty.is_final ∷ inner, inl (gc, (inner, refl, (supertype.0, composite.0, refl, supertype.1, composite.1))))

  single_spelled : (explicit : Bool) (types : List SubType) → explicit ≡ false → AtMost 1000000 (IsWrittenSub features) types → length types ≡ 1 → (bytes : List ℕ) × SpellsGroup features bytes (record { explicit = explicit; types = types })
  single_spelled explicit [] alone h one = absurd (omega arith)
  single_spelled explicit (ty ∷ []) alone h one = let found = sub_spelled ty (h.1 0 ty (omega arith)) in (found.0, inr (alone, (ty, refl, found.1)))
  single_spelled explicit (ty ∷ another ∷ types) alone h one = absurd (omega arith)

  listed_spelled : (explicit : Bool) (types : List SubType) → AtMost 1000000 (IsWrittenSub features) types → (explicit ≡ false → length types ≡ 1) → (bytes : List ℕ) × SpellsGroup features bytes (record { explicit = explicit; types = types })
  listed_spelled true types h one = let found = items_spelled 1000000 (SpellsSub features) (IsWrittenSub features) (omega arith) sub_spelled types h in (0x4e ∷ found.0, inl (refl, gc, (found.0, refl, found.1)))
  listed_spelled false types h one = single_spelled false types refl h (one refl)

pub sub_is_read : ReadsWritten sub_at IsWrittenSub
sub_is_read features ty gc h = spelled_read (sub_at features) (SpellsSub features) (sub_taken features) ty (sub_spelled features gc ty h)

pub group_is_read : ReadsWritten group_at IsWrittenGroup
group_is_read features group gc h = spelled_read (group_at features) (SpellsGroup features) (group_taken features) group (listed_spelled features gc group.explicit group.types h.0 h.1)
