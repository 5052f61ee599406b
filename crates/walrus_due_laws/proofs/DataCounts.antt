-- Lemmas: what is due for the count of data segments.
use Rattle.std.specs.Prelude.{ℕ, suc, ◌≡◌, ◌||◌, Bool, true, false, List, [], ◌∷◌, length, Option, Some, None, refl}
use Rattle.std.specs.List.{list_any}
use Rattle.std.proofs.Common.{ap, ◌∙◌}
use Rattle.wasm_features.specs.declared.WasmFeatures.{WasmFeatures}
use Rattle.wasm_formats.specs.declared.fault.Limited.TheVariants as limits_of
use Rattle.wasm_operators.specs.Bytes.{unsigned_bytes}
use Rattle.wasm_operators.specs.Names.{Renaming}
use Rattle.wasm_grammar.specs.Modules.{Mode, Passive, Declared, Active, Segment}
use Rattle.wasm_section_bytes.specs.Segments.{sized_bytes}
use Rattle.wasm_canonical.specs.Due.{count_if, is_passive, items_in}
use Rattle.wasm_operators.specs.Items as items
use Rattle.wasm_part.specs.Part.{renumbered_mode, renumbered_segment}
use Rattle.walrus_emit_parts.specs.Due.{number, section}
use Rattle.walrus_emit_due.specs.Own.{live}
use Rattle.walrus_emit_due.specs.DataCount.{counted, is_asked, is_passive as waits_by, waits}
use Rattle.walrus_due_laws.specs.Spelled.{SpelledAs, in_slots, spelled}
use Rattle.walrus_due_laws.specs.DataCounts.{DataCountIsSpelled, is_counted}
use Rattle.walrus_due_laws.proofs.Parts.{alone, plain, section_as, turned, within}

or_turned : (a b : Bool) → (a || b) ≡ (b || a)
or_turned true true = refl
or_turned true false = refl
or_turned false true = refl
or_turned false false = refl

module _ (r : Renaming) where
  abbrev news : List (Option Segment) → List Segment
  news slots = items_in (in_slots (renumbered_segment r) slots)

  same_count : (slots : List (Option Segment)) → length (live slots) ≡ length (news slots)
  same_count [] = refl
  same_count (None ∷ slots) = same_count slots
  same_count (Some x ∷ slots) = ap (λ (n : ℕ). suc n) (same_count slots)

  mode_same : (mode : Mode) → waits_by mode ≡ is_passive (renumbered_mode r items.Memories mode)
  mode_same Passive = refl
  mode_same Declared = refl
  mode_same (Active memory offset) = refl

  any_same : (slots : List (Option Segment)) → list_any waits (live slots) ≡ list_any (λ (x : Segment). is_passive x.mode) (news slots)
  any_same [] = refl
  any_same (None ∷ slots) = any_same slots
  any_same (Some x ∷ slots) =
      ap (λ (b : Bool). b || list_any waits (live slots)) (mode_same x.mode)
      ∙ ap (λ (b : Bool). is_passive (renumbered_mode r items.Memories x.mode) || b) (any_same slots)

  asked_same : (named : Bool) (slots : List (Option Segment)) → is_asked named (live slots) ≡ is_counted (news slots) named
  asked_same named slots = or_turned named (list_any waits (live slots)) ∙ ap (λ (b : Bool). b || named) (any_same slots)

counted_as : (features : WasmFeatures) (asked : Bool) (n : ℕ) → SpelledAs (counted asked n) (spelled features (count_if asked n))
counted_as features true n =
    let bytes = 12 ∷ sized_bytes (unsigned_bytes n) in
    alone (section 12 (number n)) bytes bytes refl (section_as 12 (number n) (unsigned_bytes n) (plain (unsigned_bytes n)))
counted_as features false n = plain []

pub data_count_spelled : DataCountIsSpelled
data_count_spelled features r named slots =
    let asked = is_asked named (live slots) in
    let count = length (live slots) in
    let goal = spelled features (count_if (is_counted (news r slots) named) (length (news r slots))) in
    within 100000 count limits_of.Data (counted asked count) goal
    (turned (counted asked count) (spelled features (count_if asked count)) goal
    (ap (λ (b : Bool). spelled features (count_if b count)) (asked_same r named slots) ∙ ap (λ (n : ℕ). spelled features (count_if (is_counted (news r slots) named) n)) (same_count r slots))
    (counted_as features asked count))
