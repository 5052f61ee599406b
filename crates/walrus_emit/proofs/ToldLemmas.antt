-- Sections of a program's own are told where code stands.
use Rattle.std.specs.Prelude.{ℕ, ◌≡◌, Bool, true, false, List, [], ◌∷◌, Result, Ok, Err, IfOk, refl}
use Rattle.std.specs.declared.ops.Range.{Range}
use Rattle.std.specs.List.{list_any}
use Rattle.std.proofs.Common.{ap, sym, ◌∙◌, subst}
use Rattle.walrus_arena.specs.Arena.{Arena}
use Rattle.walrus_errors.specs.declared.error.ModuleError.{ModuleError}
use Rattle.walrus_module.specs.Parts.{Module as Parts, parts}
use Rattle.walrus_module.specs.declared.module.Module.{Module}
use Rattle.walrus_sections.specs.declared.section.Section.{Section}
use Rattle.walrus_sections.specs.declared.transform.CodeTransform.{CodeTransform}
use Rattle.walrus_emit_code.specs.declared.emission.Emission.{Emission}
use Rattle.walrus_emit_customs.specs.Told.{all_told, has_boxed}
use Rattle.walrus_emit.specs.Left.{Declares}
use Rattle.walrus_emit.specs.Places.{Tells}
use Rattle.walrus_emit.specs.Told.{AreTold}

-- one that passes is found
pub any_here : {A : Type 0} (p : A → Bool) (had left : List A) (x : A) (all : Bool) → had ≡ x ∷ left → p x ≡ true → list_any p had ≡ all → true ≡ all
any_here p had left x all step is h = sym (first p x left is) ∙ sym (ap (list_any p) step) ∙ h
  where
    first : {A : Type 0} (p : A → Bool) (x : A) (left : List A) → p x ≡ true → list_any p (x ∷ left) ≡ true
    first p x left is = rw is refl

module _ {B : Type 0} (own_name : B → List ℕ) (transformed : B → CodeTransform → B) where
  module _ (locations : List (ℕ × ℕ)) (ranges : List (ℕ × Range ℕ)) (start : ℕ) where
    pub not_wanted : (wanted : Bool) (old new : Arena (Section B)) → wanted ≡ false → new ≡ old → AreTold own_name transformed locations ranges start wanted old new
    not_wanted wanted old new no_wish same = rw no_wish same

    pub none_there : (wanted : Bool) (old new : Arena (Section B)) → wanted ≡ true → has_boxed old ≡ false → new ≡ old → AreTold own_name transformed locations ranges start wanted old new
    none_there wanted old new is none same = rw (is, none) same

    pub were_told : (wanted : Bool) (old new : Arena (Section B)) (transform : CodeTransform) → wanted ≡ true → has_boxed old ≡ true → Tells locations ranges start transform
        → new ≡ all_told (λ b. transformed b transform) own_name old → AreTold own_name transformed locations ranges start wanted old new
    were_told wanted old new transform is some tells told = rw (is, some) (record { transform = transform; tells = tells; told = told })

  declared_config : (functions : List ℕ) (old new : Parts) → Declares functions old new → new.config ≡ old.config
  declared_config [] old new h = ap (λ (p : Parts). p.config) h
  declared_config (f ∷ fs) old new h = ap (λ (p : Parts). p.config) h.0

  -- of the module with its declared segment
  pub still_told : (functions : List ℕ) (old mid : Module B) (customs : Arena (Section B)) (emission : Emission) (r : Result Emission ModuleError) → Declares functions (parts old) (parts mid) → mid.customs ≡ old.customs
      → AreTold own_name transformed emission.locations.items emission.ranges.items emission.code_section_start mid.config.preserve_code_transform mid.customs customs
      → IfOk r (λ (out : Emission). out ≡ record emission { bytes = out.bytes })
      → IfOk r (λ (out : Emission). AreTold own_name transformed out.locations.items out.ranges.items out.code_section_start old.config.preserve_code_transform old.customs customs)
  still_told functions old mid customs emission (Ok out) declared same h kept =
      let locations : emission.locations.items ≡ out.locations.items = sym (ap (λ (e : Emission). e.locations.items) kept) in
      let ranges : emission.ranges.items ≡ out.ranges.items = sym (ap (λ (e : Emission). e.ranges.items) kept) in
      let start : emission.code_section_start ≡ out.code_section_start = sym (ap (λ (e : Emission). e.code_section_start) kept) in
      let wanted : mid.config.preserve_code_transform ≡ old.config.preserve_code_transform = ap (λ c. c.preserve_code_transform) (declared_config functions (parts old) (parts mid) declared) in
      subst (λ (l : List (ℕ × ℕ)). AreTold own_name transformed l out.ranges.items out.code_section_start old.config.preserve_code_transform old.customs customs) locations
      (subst (λ (g : List (ℕ × Range ℕ)). AreTold own_name transformed emission.locations.items g out.code_section_start old.config.preserve_code_transform old.customs customs) ranges
      (subst (λ (n : ℕ). AreTold own_name transformed emission.locations.items emission.ranges.items n old.config.preserve_code_transform old.customs customs) start
      (subst (λ (b : Bool). AreTold own_name transformed emission.locations.items emission.ranges.items emission.code_section_start b old.customs customs) wanted
      (subst (λ (a : Arena (Section B)). AreTold own_name transformed emission.locations.items emission.ranges.items emission.code_section_start mid.config.preserve_code_transform a customs) same h))))
  still_told functions old mid customs emission (Err e) declared same h kept = tt
