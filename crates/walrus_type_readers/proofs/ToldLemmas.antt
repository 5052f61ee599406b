-- Lemmas: values in other words, collected one by one.
use Rattle.std.proofs.Common.{◌≡◌, ◌∙◌, ℕ, false, suc, zero, ◌+◌, ◌<◌, List, [], ◌∷◌, ◌++◌, length, map, take, Option, Some, None, slice_index_or, refl, sym, ap, arith, add-one}
use Rattle.std.specs.Option.{option_map}
use Rattle.std.proofs.Math.Seq.{take-suc}
use Rattle.std.proofs.lemmas.List.{map_push}
use Rattle.std.specs.List.{list_any}
use Rattle.walrus_known_sections.specs.wasm_sections.wasm_grammar.TypeWords.{value_of}
use Rattle.wasm_ref_types.specs.declared.value.ValType.{ValType as ReadValue}
use Rattle.wasm_ref_types.specs.declared.value.ValType.TheVariants as values
use Rattle.walrus_forms.specs.declared.value.ValType.{ValType}
use Rattle.walrus_forms.specs.declared.value.ValType.TheVariants.{I32, I64, F32, F64, V128}
use Rattle.walrus_section_values.specs.Plain.{is_ref, plain_of}
use Rattle.walrus_known_sections.specs.wasm_sections.TypeNames.{both, told_all}

module _ {A B : Type 0} (f : A → Option B) where
  abbrev first : B → List B → List B
  first y ys = y ∷ ys

  abbrev last : List B → B → List B
  last ys y = ys ++ y ∷ []

  turned : (o : Option B) (all : Option (List B)) (p : Option B) → both first o (both last all p) ≡ both last (both first o all) p
  turned None all p = refl
  turned (Some y) None p = refl
  turned (Some y) (Some ys) None = refl
  turned (Some y) (Some ys) (Some z) = refl

  one : (o : Option B) → both first o (Some []) ≡ both last (Some []) o
  one None = refl
  one (Some y) = refl

  told_last : (xs : List A) (x : A) → told_all f (xs ++ x ∷ []) ≡ both last (told_all f xs) (f x)
  told_last [] x = one (f x)
  told_last (z ∷ xs) x = ap (λ (o : Option (List B)). both first (f z) o) (told_last xs x) ∙ turned (f z) (told_all f xs) (f x)

  none_first : (o : Option B) → both first o None ≡ None
  none_first None = refl
  none_first (Some y) = refl

  -- one that has no other words
  pub told_not : (xs : List A) (i : ℕ) (d : A) → i < length xs → f (slice_index_or xs i d) ≡ None → told_all f xs ≡ None
  told_not [] i d lt none = absurd (omega (arith, lt))
  told_not (x ∷ xs) zero d lt none = rw none refl
  told_not (x ∷ xs) (suc i) d lt none = ap (λ (o : Option (List B)). both first (f x) o) (told_not xs i d (omega (arith, lt)) none) ∙ none_first (f x)

  -- one more
  pub told_more : {R : Type 0} (view : R → B) (xs : List A) (i : ℕ) (x : A) (r : R) (items later : List R) → i < length xs → x ≡ slice_index_or xs i x → option_map view (Some r) ≡ f x
      → told_all f (take i xs) ≡ Some (map view items) → later ≡ items ++ r ∷ [] → told_all f (take (i + 1) xs) ≡ Some (map view later)
  told_more view xs i x r items later lt is told so_far push =
      rw (add-one, take-suc xs i x lt) (told_last (take i xs) (slice_index_or xs i x)
      ∙ ap (λ (o : Option (List B)). both last o (f (slice_index_or xs i x))) so_far
      ∙ ap (λ (o : Option B). both last (Some (map view items)) o) (ap f (sym is) ∙ sym told)
      ∙ ap (λ (ys : List B). Some ys) (sym (map_push view items r) ∙ ap (map view) (sym push)))

-- numbers and vectors
abbrev plus : ValType → Option (List ValType) → Option (List ValType)
plus ty all = both (λ y ys. y ∷ ys) (Some ty) all

pub told_plain : (types : List ReadValue) → list_any is_ref types ≡ false → Some (map plain_of types) ≡ told_all value_of types
told_plain [] h = refl
told_plain (values.I32 ∷ types) h = ap (plus I32) (told_plain types h)
told_plain (values.I64 ∷ types) h = ap (plus I64) (told_plain types h)
told_plain (values.F32 ∷ types) h = ap (plus F32) (told_plain types h)
told_plain (values.F64 ∷ types) h = ap (plus F64) (told_plain types h)
told_plain (values.V128 ∷ types) h = ap (plus V128) (told_plain types h)
told_plain (values.Ref ty ∷ types) h = absurd cc
