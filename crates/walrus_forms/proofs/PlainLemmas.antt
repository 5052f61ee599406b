-- Types of numbers and vectors: they name nothing.
use Rattle.std.proofs.Common.{◌≡◌, ℕ, false, List, [], ◌∷◌, map, refl, ap}
use Rattle.std.specs.List.{list_any}
use Rattle.walrus_forms.specs.declared.record.ValRecord.{ValRecord}
use Rattle.walrus_forms.specs.declared.record.ValRecord.TheVariants as records
use Rattle.walrus_forms.specs.declared.value.ValType.{ValType}
use Rattle.walrus_forms.specs.declared.value.ValType.TheVariants.{I32, I64, F32, F64, V128}
use Rattle.walrus_forms.specs.Records.{value_of, plain_of, is_ref}
use Rattle.walrus_forms.specs.Renaming.{renamed_value}

pub map_plain : (r : ℕ → ℕ) (values : List ValRecord) → list_any is_ref values ≡ false → map plain_of values ≡ map (renamed_value r) (map value_of values)
map_plain r [] h = refl
map_plain r (records.I32 ∷ values) h = ap (λ (types : List ValType). I32 ∷ types) (map_plain r values h)
map_plain r (records.I64 ∷ values) h = ap (λ (types : List ValType). I64 ∷ types) (map_plain r values h)
map_plain r (records.F32 ∷ values) h = ap (λ (types : List ValType). F32 ∷ types) (map_plain r values h)
map_plain r (records.F64 ∷ values) h = ap (λ (types : List ValType). F64 ∷ types) (map_plain r values h)
map_plain r (records.V128 ∷ values) h = ap (λ (types : List ValType). V128 ∷ types) (map_plain r values h)
map_plain r (records.Ref ty ∷ values) h = absurd cc
