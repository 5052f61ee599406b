-- Lemmas: each reading of a type is final.
use Rattle.std.specs.Prelude.{ℕ, ◌==◌, ◌^◌, nat_lt, Bool, true, false, List, [], ◌∷◌, Some, None, if◌then◌else◌}
use Rattle.wasm_features.specs.declared.WasmFeatures.{WasmFeatures}
use Rattle.wasm_features.specs.Features.{GcTypes}
use Rattle.wasm_reader.specs.declared.error.ErrorKind.TheVariants as kinds
use Rattle.wasm_reader.specs.Reading.{Reading}
use Rattle.wasm_reader.specs.Laws.{IsFinal}
use Rattle.wasm_reader.specs.Final.{IsFinalFrom, Takes-none, then_final, map_final, from_start, then_from, if_from, done_from, fault_from, done_final}
use Rattle.wasm_reader.specs.Finals.{unsigned_final, size_final, vec_final}
use Rattle.wasm_reader.specs.Numbers.{unsigned_at}
use Rattle.wasm_reader.specs.Text.{size_at}
use Rattle.wasm_reader.specs.Items.{vec_at}
use Rattle.wasm_composite_types.specs.wasm_ref_types.declared.index.UnpackedIndex.TheVariants.{Module}
use Rattle.wasm_composite_types.specs.Readings.{composite_after, composite_at}
use Rattle.wasm_composite_types.specs.Finals.{begun_final, gated_from, made_from, composite_from, composite_final}
use Rattle.wasm_types.specs.Readings.{index_at, supertype_at, declared_at, sub_after, sub_at, group_after, group_at}

-- ---- subtypes and groups

index_final : IsFinal index_at
unfolding index_at
index_final = from_start _ (then_from 0 0 (unsigned_at 32) _ (unsigned_final 32) (Takes-none (unsigned_at 32) (unsigned_final 32)) (λ n.
    if_from (nat_lt n (2 ^ 20)) _ _ (done_from 0 (Module n)) (fault_from 0 kinds.Limit tt)))

either_final : {A : Type 0} (test : Bool) (f g : List ℕ → Reading A) → IsFinal f → IsFinal g → IsFinal (λ bytes. if test then f bytes else g bytes)
either_final true f g p q = p
either_final false f g p q = q

supertype_final : IsFinal supertype_at
unfolding supertype_at
supertype_final = then_final (size_at 1) _ (size_final 1) (λ count.
    either_final (count == 0) _ _ (done_final None) (map_final index_at Some index_final))

declared_final : (features : WasmFeatures) (is_final : Bool) → IsFinal (declared_at features is_final)
unfolding declared_at
declared_final features is_final = then_final supertype_at _ supertype_final (λ supertype.
    map_final (composite_at features) (λ composite. record { is_final = is_final; supertype_idx = supertype; composite_type = composite }) (composite_final features))

sub_from : (features : WasmFeatures) (b : ℕ) → IsFinalFrom 1 (sub_after features b)
unfolding sub_after
sub_from features b =
    if_from (b == 0x50) _ _ (gated_from features GcTypes _ (declared_final features false))
    (if_from (b == 0x4f) _ _ (gated_from features GcTypes _ (declared_final features true))
    (made_from (composite_after features b) (λ composite. record { is_final = true; supertype_idx = None; composite_type = composite }) (composite_from features b)))

pub sub_final : (features : WasmFeatures) → IsFinal (sub_at features)
unfolding sub_at
sub_final features = begun_final (sub_after features) (sub_from features)

group_from : (features : WasmFeatures) (b : ℕ) → IsFinalFrom 1 (group_after features b)
unfolding group_after
group_from features b =
    if_from (b == 0x4e) _ _ (gated_from features GcTypes _ (map_final (vec_at 1000000 (sub_at features)) (λ types. record { explicit = true; types = types }) (vec_final 1000000 (sub_at features) (sub_final features))))
    (made_from (sub_after features b) (λ ty. record { explicit = false; types = ty ∷ [] }) (sub_from features b))

pub group_final : (features : WasmFeatures) → IsFinal (group_at features)
unfolding group_at
group_final features = begun_final (group_after features) (group_from features)
