-- Lemmas: what a module that was read tells.
use Rattle.std.proofs.Common.{◌≡◌, ℕ, Bool, true, false, List, [], ◌∷◌, Option, Some, Result, Ok, Err, IfOk, IfErr, refl, subst, inr}
use Rattle.inspect_program.specs.inspect_lines.declared.counts.Counts.{Counts}
use Rattle.inspect_program.specs.walrus_config.declared.config.ModuleConfig.{ModuleConfig}
use Rattle.inspect_program.specs.walrus_errors.declared.error.ModuleError.{ModuleError}
use Rattle.walrus_counts.specs.Counts.{AreCounts}
use Rattle.walrus_counts.specs.walrus_module.Parts.{Module, parts}
use Rattle.walrus_counts.specs.walrus_module.declared.module.Module.{Module as Whole}
use Rattle.walrus_inspect_cli.specs.declared.none.NoSection.{NoSection}
use Rattle.walrus_inspect_cli.specs.Inspected.{AreKeptCounts, Inspects, IsUncounted, IsUntold}
use Rattle.walrus_parse.specs.Parsed.{IsRead}
use Rattle.walrus_passes.specs.Asked.{IsRefusedAsked, WithPushed}
use Rattle.walrus_passes.specs.Part.{IsKeptPart}
use Rattle.walrus_passes.specs.walrus_refusals.Sound.{IsRefused}
use Rattle.walrus_roots.specs.declared.item.Item.{Item}
use Rattle.walrus_sections.specs.Sections.{pushed, pushed_by}
use Rattle.walrus_sections.specs.declared.section.Section.{Section}
use Rattle.walrus_sections.specs.declared.section.Section.TheVariants.{Raw, Boxed}

-- ---- nothing is pushed

module _ {B : Type 0} (roots : B → Option (List Item)) (none : (b : B) → roots b ≡ Some []) where
  one_none : (x : Section B) → pushed_by roots x ≡ Some []
  one_none (Raw section) = refl
  one_none (Boxed section) = none section

  none_pushed : (xs : List (ℕ × Section B)) → pushed roots xs ≡ Some []
  none_pushed [] = refl
  none_pushed (x ∷ xs) = rw (one_none x.1, none_pushed xs) refl

  pub kept_none : (xs : List (ℕ × Section B)) (m n : Module) → WithPushed (pushed roots xs) (λ items. IsKeptPart m items n) → IsKeptPart m [] n
  kept_none xs m n h = subst (λ (o : Option (List Item)). WithPushed o (λ items. IsKeptPart m items n)) (none_pushed xs) h

  pub refused_none : (xs : List (ℕ × Section B)) (m : Module) (e : ModuleError) → IsRefusedAsked m (pushed roots xs) e → IsRefused m [] e
  refused_none xs m e h = subst (λ (o : Option (List Item)). IsRefusedAsked m o e) (none_pushed xs) h

-- what a section of the program's own would push
abbrev pub nothing : NoSection → Option (List Item)
nothing b = Some []

-- ---- counts of what is kept

module _ (m n : Module) (kept : IsKeptPart m [] n) where
  pub told_kept : (r : Result Counts ModuleError) → IfOk r (AreCounts n) → IfOk r (AreKeptCounts m)
  told_kept (Ok c) h = (n, kept, h)
  told_kept (Err e) h = h

  pub untold_kept : (r : Result Counts ModuleError) → IfErr r (IsUncounted n) → IfErr r (IsUntold true m)
  untold_kept (Ok c) h = h
  untold_kept (Err e) h = inr (n, kept, h)

-- ---- what is answered of bytes

pub inspected : (kept : Bool) (bytes : List ℕ) (config : ModuleConfig) (m : Whole NoSection) (r : Result Counts ModuleError) → IsRead config bytes m
    → (kept ≡ false → IfOk r (AreCounts (parts m))) → (kept ≡ true → IfOk r (AreKeptCounts (parts m)))
    → (kept ≡ false → IfErr r (IsUncounted (parts m))) → (kept ≡ true → IfErr r (IsUntold true (parts m))) → Inspects bytes config kept r
inspected false bytes config m (Ok c) read whole part plain dropped = (m, read, whole refl)
inspected true bytes config m (Ok c) read whole part plain dropped = (m, read, part refl)
inspected false bytes config m (Err e) read whole part plain dropped = inr (m, read, plain refl)
inspected true bytes config m (Err e) read whole part plain dropped = inr (m, read, dropped refl)
