-- How a section is written whose entries stand for those items of a space that the module has itself.
use Rattle.std.specs.Prelude.{ℕ, ◌+◌, ◌≡◌, ◌≤◌, ◌<◌, ◌⊎◌, Bool, List, ◌++◌, length, filter, Result, MatchResult}
use Rattle.std.specs.List.{flat_map}
use Rattle.wasm_formats.specs.declared.fault.Limited.{Limited}
use Rattle.walrus_errors.specs.declared.error.ModuleError.{ModuleError}
use Rattle.walrus_errors.specs.declared.error.ModuleError.TheVariants.{Memory, OutputLimit}
use Rattle.walrus_emit_parts.specs.Due.{Due, Refused, written}

-- there are at most so many of these
abbrev pub HasAtMost : ℕ → Limited → ℕ → Result (Unit {0}) ModuleError → Type 0
HasAtMost most of n result = MatchResult result (λ _. n ≤ most) (λ e. (e ≡ Memory) ⊎ ((e ≡ OutputLimit of) × (most < n)))

-- these were written, and are so many
abbrev pub WritesOwn : {A : Type 0} → (A → Bool) → (A → Due) → List A → List ℕ → List ℕ → Result ℕ ModuleError → Type 0
WritesOwn is_own due xs old new result =
    MatchResult result (λ count. (count ≡ length (filter is_own xs)) × (written new ≡ written old ++ flat_map due (filter is_own xs))) (λ e. Refused (flat_map due (filter is_own xs)) old new e)

-- some of them were, so many
pub record WroteSome {A : Type 0} (is_own : A → Bool) (due : A → Due) (all left : List A) (old now : List ℕ) (count : ℕ) : Type 0 where
  pub done : Due
  pub wrote : written now ≡ written old ++ done
  pub parts : flat_map due (filter is_own all) ≡ done ++ flat_map due (filter is_own left)
  pub counts : length (filter is_own all) ≡ count + length (filter is_own left)
