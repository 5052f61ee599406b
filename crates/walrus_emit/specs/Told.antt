-- Sections of a program's own that are told where code stands.
use Rattle.std.specs.Prelude.{ℕ, ◌≡◌, ◌&&◌, Bool, List, MatchBool}
use Rattle.std.specs.declared.ops.Range.{Range}
use Rattle.walrus_arena.specs.Arena.{Arena}
use Rattle.walrus_sections.specs.declared.section.Section.{Section}
use Rattle.walrus_sections.specs.declared.transform.CodeTransform.{CodeTransform}
use Rattle.walrus_emit_customs.specs.Told.{all_told, has_boxed}
use Rattle.walrus_emit.specs.Places.{Tells}

module _ {B : Type 0} (own_name : B → List ℕ) (transformed : B → CodeTransform → B) (locations : List (ℕ × ℕ)) (ranges : List (ℕ × Range ℕ)) (start : ℕ) where
  -- they were told where these stand
  pub record WereTold (old new : Arena (Section B)) : Type 0 where
    pub transform : CodeTransform
    pub tells : Tells locations ranges start transform
    pub told : new ≡ all_told (λ b. transformed b transform) own_name old

  -- if that is wanted and there are any; else nothing was done
  abbrev pub AreTold : (wanted : Bool) → Arena (Section B) → Arena (Section B) → Type 0
  AreTold wanted old new = MatchBool (wanted && has_boxed old) (WereTold old new) (new ≡ old)
