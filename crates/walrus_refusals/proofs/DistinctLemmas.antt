-- Ids that stand once, told by the set of those before.
use Rattle.std.proofs.Common.{◌≡◌, ◌∙◌, ◌⊎◌, ◌+◌, ◌<◌, ℕ, Bool, true, false, not, cond, List, ◌∷◌, drop, length, get_or, refl, sym, ap, subst, inl, inr}
use Rattle.std.specs.Prelude.{◌↔◌, Decides, nat_eq}
use Rattle.std.proofs.lemmas.List.{drop_more}
use Rattle.std.proofs.lemmas.Bool.{cases_eq, eq-eqb, ne_eqb, false≢true}
use Rattle.walrus_tree.specs.Trees.{Has, AreDistinct}

-- none of these was there before, and none stands twice
abbrev pub Rest : (ℕ → Bool) → List ℕ → Type 0
Rest has ks = ((k : ℕ) → Has ks k → has k ≡ false) × AreDistinct ks

pub begins : (has : ℕ → Bool) (ks : List ℕ) → ((k : ℕ) → has k ≡ false) → AreDistinct ks ↔ Rest has ks
begins has ks empty = (λ d. (λ k _. empty k, d), λ r. r.1)

module _ (eq : ℕ → ℕ → Bool) (is : (a b : ℕ) → eq a b ≡ nat_eq a b) (has put : ℕ → Bool) (key : ℕ) (ks : List ℕ) (step : (k : ℕ) → put k ≡ cond (eq key k) true (has k)) where
  put_other : (k : ℕ) → (key ≡ k → ⊥) → put k ≡ has k
  put_other k other = step k ∙ ap (λ b. cond b true (has k)) (is key k ∙ ne_eqb key k other)

  put_itself : put key ≡ true
  put_itself = step key ∙ ap (λ b. cond b true (has key)) (is key key ∙ eq-eqb key key refl)

  forth : Rest has (key ∷ ks) → Rest put ks
  forth r = (
    λ k h. elim (cases_eq key k) as (λ _. put k ≡ false) [
      | inl e ↦ absurd (r.1.0 (subst (Has ks) (sym e) h))
      | inr other ↦ put_other k other ∙ r.0 k (inr h)
    ],
    r.1.1,
  )

  back_has : has key ≡ false → (k : ℕ) → ((j : ℕ) → Has ks j → put j ≡ false) → (key ≡ k) ⊎ Has ks k → has k ≡ false
  back_has fresh k none (inl e) = subst (λ j. has j ≡ false) e fresh
  back_has fresh k none (inr h) = elim (cases_eq key k) as (λ _. has k ≡ false) [ inl e ↦ subst (λ j. has j ≡ false) e fresh | inr other ↦ sym (put_other k other) ∙ none k h ]

  back : has key ≡ false → Rest put ks → Rest has (key ∷ ks)
  back fresh r = (λ k h. back_has fresh k r.0 h, (λ h. false≢true (sym (r.0 key h) ∙ put_itself), r.1))

  pub one_more : has key ≡ false → Rest has (key ∷ ks) ↔ Rest put ks
  one_more fresh = (forth, back fresh)

-- one that was there
pub again : (has : ℕ → Bool) (key : ℕ) (ks : List ℕ) → has key ≡ true → Rest has (key ∷ ks) → ⊥
again has key ks there r = false≢true (sym (r.0 key (inl refl)) ∙ there)

was_there : (b : Bool) → not b ≡ false → b ≡ true
was_there true e = refl
was_there false e = absurd (false≢true (sym e))

was_new : (b : Bool) → not b ≡ true → b ≡ false
was_new true e = absurd (false≢true e)
was_new false e = refl

-- a turn, over all of these ids
module _ (has : ℕ → Bool) (ids : List ℕ) (i x : ℕ) (below : i < length ids) (is : x ≡ get_or ids i x) (added : Bool) (told : added ≡ not (has x)) (h : AreDistinct ids ↔ Rest has (drop i ids)) where
  at : drop i ids ≡ x ∷ drop (i + 1) ids
  at = drop_more ids i x below ∙ ap (λ y. y ∷ drop (i + 1) ids) (sym is)

  pub turn_stops : added ≡ false → Decides false (AreDistinct ids)
  turn_stops no_more = (λ e. absurd (false≢true e), λ d. absurd (again has x (drop (i + 1) ids) (was_there (has x) (sym told ∙ no_more)) (subst (Rest has) at (h.0 d))))

  pub turn_goes : (eq : ℕ → ℕ → Bool) → ((a b : ℕ) → eq a b ≡ nat_eq a b) → (put : ℕ → Bool) → ((k : ℕ) → put k ≡ cond (eq x k) true (has k)) → added ≡ true → AreDistinct ids ↔ Rest put (drop (i + 1) ids)
  turn_goes eq by_number put step more =
      let on = one_more eq by_number has put x (drop (i + 1) ids) step (was_new (has x) (sym told ∙ more)) in
      (λ d. on.0 (subst (Rest has) at (h.0 d)), λ r. h.1 (subst (Rest has) (sym at) (on.1 r)))
