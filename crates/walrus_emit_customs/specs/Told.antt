-- Sections of a program's own that are told where code stands.
use Rattle.std.specs.Prelude.{ℕ, Bool, false, List, fold, filter, Option, Some, None, is_some}
use Rattle.std.specs.List.{list_any}
use Rattle.walrus_arena.specs.Arena.{Arena, ids, item_at, with_item}
use Rattle.walrus_sections.specs.Sections.{boxed_at}
use Rattle.walrus_sections.specs.declared.section.Section.{Section}
use Rattle.walrus_sections.specs.declared.section.Section.TheVariants.{Boxed}
use Rattle.walrus_emit_customs.specs.Customs.{stands_at}

-- there is one
abbrev pub has_boxed : {B : Type 0} → Arena (Section B) → Bool
has_boxed a = list_any (λ (id : ℕ). is_some (boxed_at a id)) (ids a)

-- those that are told: all that are written, but those that stand first
abbrev pub told_ids : {B : Type 0} → (B → List ℕ) → Arena (Section B) → List ℕ
told_ids names a = filter (λ (id : ℕ). stands_at names false (item_at a id)) (ids a)

-- what is told makes this of a program's own section
module _ {B : Type 0} (change : B → B) where
  abbrev pub changed : Arena (Section B) → ℕ → Option B → Arena (Section B)
  changed a id None = a
  changed a id (Some b) = with_item a id (Boxed (change b))

  abbrev pub change_at : Arena (Section B) → ℕ → Arena (Section B)
  change_at a id = changed a id (boxed_at a id)

  -- each of them, one after another
  abbrev pub all_told : (B → List ℕ) → Arena (Section B) → Arena (Section B)
  all_told names a = fold change_at a (told_ids names a)
