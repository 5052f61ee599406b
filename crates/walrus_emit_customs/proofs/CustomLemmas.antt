-- Custom sections are written one behind another.
use Rattle.std.specs.Prelude.{ℕ, ◌≡◌, Bool, true, false, List, [], ◌∷◌, ◌++◌, Option, Some, None, Result, Ok, Err, refl, string_bytes}
use Rattle.std.specs.List.{flat_map}
use Rattle.std.specs.Option.{option_and_then}
use Rattle.std.proofs.Common.{ap, sym, ◌∙◌, subst, append_assoc, append-nil}
use Rattle.std.specs.declared.vec.Vec.{Vec}
use Rattle.std.specs.declared.alloc.Global.{Global}
use Rattle.wasm_operators.proofs.Keeps.{keeps_all}
use Rattle.walrus_errors.specs.declared.error.ModuleError.{ModuleError}
use Rattle.walrus_customs.specs.declared.customs.RawCustomSection.{RawCustomSection}
use Rattle.walrus_sections.specs.Answers.{Gives}
use Rattle.walrus_sections.specs.Refusals.{refusal_of}
use Rattle.walrus_sections.specs.Sections.{boxed_of, raw_of}
use Rattle.walrus_sections.specs.declared.fault.SectionFault.{SectionFault}
use Rattle.walrus_sections.specs.declared.fault.SectionFault.TheVariants as faults
use Rattle.walrus_sections.specs.declared.section.Section.{Section}
use Rattle.walrus_sections.specs.declared.section.Section.TheVariants.{Raw, Boxed}
use Rattle.walrus_emit_parts.specs.Due.{Due, Refused, Writes, written}
use Rattle.walrus_emit_parts.proofs.Lemmas.{lacks_it, refused_front, refused_memory, writes_on}
use Rattle.walrus_emit_customs.specs.Customs.{any_due, custom, standing_due, stands_at, told}

-- ---- what a section of a program's own says

pub contents_given : (name : List ℕ) (said : Option (List ℕ)) (bytes : Vec ℕ Global) (old new : List ℕ) (result : Result (Unit {0}) ModuleError) → Gives said (Ok bytes) → Writes (custom name bytes.items) old new result
    → Writes (told name said) old new result
contents_given name said bytes old new result h w = rw h w

pub contents_refused : (name : List ℕ) (said : Option (List ℕ)) (old : List ℕ) (fault : SectionFault) (e : ModuleError) → Gives said (Err fault) → e ≡ refusal_of fault → Refused (told name said) old old e
contents_refused name said old faults.Refused e h is = rw (h, is) (lacks_it _ old old refl)
contents_refused name said old faults.Memory e h is = rw is (refused_memory (told name said) old old (keeps_all old old refl))

-- ---- one section

module _ {B : Type 0} (names : B → List ℕ) (contents : B → Option (List ℕ)) where
  is_raw : (o : Option (Section B)) (s : RawCustomSection) → option_and_then raw_of o ≡ Some s → o ≡ Some (Raw s)
  is_raw None s h = absurd cc
  is_raw (Some (Raw x)) s h = cc
  is_raw (Some (Boxed b)) s h = absurd cc

  is_boxed : (o : Option (Section B)) (b : B) → option_and_then boxed_of o ≡ Some b → o ≡ Some (Boxed b)
  is_boxed None b h = absurd cc
  is_boxed (Some (Raw x)) b h = absurd cc
  is_boxed (Some (Boxed x)) b h = cc

  is_none : (o : Option (Section B)) → option_and_then raw_of o ≡ None → option_and_then boxed_of o ≡ None → o ≡ None
  is_none None r b = refl
  is_none (Some (Raw x)) r b = absurd cc
  is_none (Some (Boxed x)) r b = absurd cc

  pub raw_written : (o : Option (Section B)) (s : RawCustomSection) (old new : List ℕ) (result : Result (Unit {0}) ModuleError) → option_and_then raw_of o ≡ Some s
      → Writes (custom (string_bytes s.name) s.bytes.items) old new result → Writes (any_due names contents o) old new result
  raw_written o s old new result h w = rw (is_raw o s h) w

  pub boxed_written : (o : Option (Section B)) (b : B) (old new : List ℕ) (result : Result (Unit {0}) ModuleError) → option_and_then boxed_of o ≡ Some b → Writes (told (names b) (contents b)) old new result
      → Writes (any_due names contents o) old new result
  boxed_written o b old new result h w = rw (is_boxed o b h) w

  pub none_written : (o : Option (Section B)) (old : List ℕ) → option_and_then raw_of o ≡ None → option_and_then boxed_of o ≡ None → written old ≡ written old ++ any_due names contents o
  none_written o old r b = rw (is_none o r b) (sym (append-nil (written old)))

  pub not_standing : (first : Bool) (o : Option (Section B)) (old : List ℕ) → stands_at names first o ≡ false → written old ≡ written old ++ standing_due names contents first o
  not_standing first o old h = rw h (sym (append-nil (written old)))

  pub standing : (first : Bool) (o : Option (Section B)) (old new : List ℕ) (result : Result (Unit {0}) ModuleError) → stands_at names first o ≡ true → Writes (any_due names contents o) old new result
      → Writes (standing_due names contents first o) old new result
  standing first o old new result h w = rw h w

-- ---- one behind another

-- some of it was written, and this is what is left
pub record WroteFirst {A : Type 0} (due : A → Due) (all left : List A) (old now : List ℕ) : Type 0 where
  pub done : Due
  pub wrote : written now ≡ written old ++ done
  pub parts : flat_map due all ≡ done ++ flat_map due left

module _ {A : Type 0} (due : A → Due) (all : List A) where
  pub all_left : (left : List A) (old : List ℕ) → left ≡ all → WroteFirst due all left old old
  all_left left old is = record {
    done = [];
    wrote = sym (append-nil (written old));
    parts = ap (λ (l : List A). flat_map due l) (sym is);
  }

  pub one_written : (had left : List A) (x : A) (old mid new : List ℕ) → had ≡ x ∷ left → WroteFirst due all had old mid → written new ≡ written mid ++ due x → WroteFirst due all left old new
  one_written had left x old mid new step h w = record {
    done = h.done ++ due x;
    wrote = w ∙ ap (λ (l : Due). l ++ due x) h.wrote ∙ append_assoc (written old) h.done (due x);
    parts = h.parts ∙ ap (λ (l : List A). h.done ++ flat_map due l) step ∙ sym (append_assoc h.done (due x) (flat_map due left));
  }

  pub one_refused : (had left : List A) (x : A) (old mid new : List ℕ) (e : ModuleError) → had ≡ x ∷ left → WroteFirst due all had old mid → Refused (due x) mid new e → Refused (flat_map due all) old new e
  one_refused had left x old mid new e step h r =
      subst (λ (l : Due). Refused l old new e) (sym (h.parts ∙ ap (λ (l : List A). h.done ++ flat_map due l) step))
      (writes_on old mid new h.done (due x ++ flat_map due left) (Err e) h.wrote (refused_front (due x) (flat_map due left) mid new e r))

  pub none_left : (had : List A) (old now : List ℕ) → had ≡ [] → WroteFirst due all had old now → written now ≡ written old ++ flat_map due all
  none_left had old now none h =
      h.wrote ∙ ap (λ (l : Due). written old ++ l) (sym (h.parts ∙ ap (λ (l : List A). h.done ++ flat_map due l) none ∙ append-nil h.done))
