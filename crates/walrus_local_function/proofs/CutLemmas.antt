-- Lemmas: locals that were named are named no more.
use Rattle.std.proofs.Common.{◌≡◌, ◌∙◌, ◌==◌, ◌++◌, ℕ, List, Bool, true, false, length, take, if◌then◌else◌, refl, ap, sym, subst, inl, inr}
use Rattle.std.proofs.lemmas.Bool.{cases_Bool, eqb-true}
use Rattle.std.proofs.Math.Seq.{take-append_seam}
use Rattle.walrus_index_maps.specs.Maps.{Ids, with_first}
use Rattle.walrus_function_parser.specs.walrus_body_locals.Locals.{with_more, with_locals}

agree : {A : Type 0} (f g : ℕ → A) → ((n : ℕ) → f n ≡ g n) → f ≡ g
agree f g h = λ i n. h n i

-- the list of a function, cut back to what it was
pub cut_more : (function : ℕ) (ids : List ℕ) (locals : ℕ → List ℕ) → with_first function (length (locals function)) (with_more function ids locals) ≡ locals
cut_more function ids locals = agree _ _ each
  where
    each : (f : ℕ) → with_first function (length (locals function)) (with_more function ids locals) f ≡ locals f
    each f = elim (cases_Bool (f == function)) [
      | inl same ↦ rw (same, sym (eqb-true f function same)) (take-append_seam (locals f) ids)
      | inr other ↦ rw other refl
    ]

-- the map is as it was
pub cut_back : (function count : ℕ) (ids : List ℕ) (i j : Ids) → j ≡ with_locals function ids i → count ≡ length (i.locals function) → record j { locals = with_first function count j.locals } ≡ i
cut_back function count ids i j is many =
    ap (λ (k : ℕ). record j { locals = with_first function k j.locals }) many
    ∙ ap (λ (k : Ids). record k { locals = with_first function (length (i.locals function)) k.locals }) is
    ∙ ap (λ (l : ℕ → List ℕ). record i { locals = l }) (cut_more function ids i.locals)
