-- Lemmas: where what is due can be written, so can its parts, and none is too much.
use Rattle.std.specs.Prelude.{ℕ, ◌≡◌, ◌≤◌, Bool, List, ◌++◌, length, take, drop, if◌then◌else◌}
use Rattle.std.proofs.Common.{ap, sym, ◌∙◌, inl, inr}
use Rattle.std.proofs.lemmas.Bool.{cases_lt, lt-ltb}
use Rattle.wasm_formats.specs.declared.fault.Limited.{Limited}
use Rattle.walrus_errors.specs.declared.error.ModuleError.TheVariants.{OutputLimit}
use Rattle.walrus_emit_parts.specs.Due.{Due, lacking, limited, written}
use Rattle.walrus_code_laws.proofs.Texts.{lacking_not, parts}

-- all of it can be written
abbrev pub Fits : Due → Type 0
Fits due = (bytes : List ℕ) × (due ≡ written bytes)

pub front_fits : (a b : Due) → Fits (a ++ b) → Fits a
front_fits a b h = (take (length a) h.0, (parts a b h.0 h.1).0)

pub back_fits : (a b : Due) → Fits (a ++ b) → Fits b
back_fits a b h = (drop (length a) h.0, (parts a b h.0 h.1).1)

pub within_most : (most n : ℕ) (of : Limited) (due : Due) → Fits (limited most n of due) → n ≤ most
within_most most n of due h = elim (cases_lt most n) as (λ _. n ≤ most) [
  | inl lt ↦ absurd (lacking_not (OutputLimit of) h.0 (sym (ap (λ (b : Bool). if b then lacking (OutputLimit of) else due) (lt-ltb most n lt)) ∙ h.1))
  | inr le ↦ le
]
