-- Names that stand twice.
use Rattle.std.specs.Prelude.{ℕ, ◌<◌, ◌≤◌, ◌≡◌, List, [], length, map, slice_index_or}
use Rattle.walrus_known_sections.specs.declared.items.Export.{Export}

abbrev pub names_of : List Export → List (List ℕ)
names_of exports = map (λ (e : Export). e.name.now) exports

abbrev pub name_at : List (List ℕ) → ℕ → List ℕ
name_at names i = slice_index_or names i []

-- the name at a place stands earlier, too
abbrev pub RepeatsAt : List (List ℕ) → ℕ → Type 0
RepeatsAt names i = (j : ℕ) × (j < i) × (name_at names j ≡ name_at names i)

-- the first place from one on whose name stands earlier, or the end
pub record IsFirstRepeat (names : List (List ℕ)) (from first : ℕ) : Type 0 where
  pub within : first ≤ length names
  pub repeats : first < length names → (from ≤ first) × RepeatsAt names first
  pub least : (i : ℕ) → from ≤ i → i < first → RepeatsAt names i → ⊥
