-- Sets of ids.
use Rattle.std.proofs.Common.{◌≡◌, ◌∙◌, ◌+◌, ◌<◌, ◌≤◌, ◌||◌, ℕ, Bool, true, cond, List, [], ◌∷◌, refl, sym, ap, subst, inl, inr, arith}
use Rattle.std.specs.Prelude.{Decides, nat_eq, slice_index_or}
use Rattle.std.specs.List.{list_any}
use Rattle.walrus_roots.specs.declared.item.Item.{Item}
use Rattle.walrus_marks.specs.Chains.{FitsIn}
use Rattle.walrus_passes.specs.UsedItems.{HasJust}
use Rattle.walrus_passes.specs.declared.used.Used.{Used}
use Rattle.std.proofs.lemmas.Bool.{cases_eq, eq-eqb, ne_eqb}

any_same : (f g : ℕ → Bool) → ((k : ℕ) → f k ≡ g k) → (ks : List ℕ) → list_any f ks ≡ list_any g ks
any_same f g same [] = refl
any_same f g same (k ∷ ks) = ap (λ b. b || list_any f ks) (same k) ∙ ap (λ b. g k || b) (any_same f g same ks)

module _ (n : ℕ) (Held : ℕ → Type 0) where
  decides_true : (b : Bool) → {P : Type 0} → b ≡ true → P → Decides b P
  decides_true b e p = (λ _. p, λ _. e)

  -- one more, which isn't held
  pub skipped : (has : ℕ → Bool) → (Held n → ⊥) → ((id : ℕ) → Decides (has id) ((id < n) × Held id)) → (id : ℕ) → Decides (has id) ((id < n + 1) × Held id)
  skipped has not_held before id = (
    λ e. (let h = (before id).0 e in (omega (arith, h.0), h.1)),
    λ h. elim (cases_eq id n) as (λ _. has id ≡ true) [ inl e ↦ absurd (not_held (subst Held e h.1)) | inr other ↦ (before id).1 (omega (arith, h.0, other), h.1) ],
  )

  -- one more, which is held
  pub inserted : (has put : ℕ → Bool) (key : ℕ) → key ≡ n → Held n → ((id : ℕ) → put id ≡ cond (nat_eq key id) true (has id)) → ((id : ℕ) → Decides (has id) ((id < n) × Held id)) → (id : ℕ) → Decides (put id) ((id < n + 1) × Held id)
  inserted has put key same held step before id = elim (cases_eq id n) as (λ _. Decides (put id) ((id < n + 1) × Held id)) [
    | inl e ↦ decides_true (put id) (step id ∙ ap (λ b. cond b true (has id)) (eq-eqb key id (same ∙ sym e))) (omega (arith, e), subst Held (sym e) held)
    | inr other ↦
        let is : put id ≡ has id = step id ∙ ap (λ b. cond b true (has id)) (ne_eqb key id (λ k. other (sym k ∙ same))) in
        (λ e. (let h = (before id).0 (sym is ∙ e) in (omega (arith, h.0), h.1)), λ h. is ∙ (before id).1 (omega (arith, h.0, other), h.1))
  ]

-- the same, by the equality of ids
module _ (eq : ℕ → ℕ → Bool) (is : (a b : ℕ) → eq a b ≡ nat_eq a b) (old new : List ℕ) (n key : ℕ) (Held : ℕ → Type 0) where
  by_number : (ks : List ℕ) (id : ℕ) → list_any (eq id) ks ≡ list_any (nat_eq id) ks
  by_number ks id = any_same (eq id) (nat_eq id) (is id) ks

  pub one_inserted : key ≡ n → Held n → ((id : ℕ) → list_any (eq id) new ≡ cond (eq key id) true (list_any (eq id) old)) → ((id : ℕ) → Decides (list_any (nat_eq id) old) ((id < n) × Held id)) → (id : ℕ) → Decides (list_any (nat_eq id) new) ((id < n + 1) × Held id)
  one_inserted same held step before = inserted n Held (λ id. list_any (nat_eq id) old) (λ id. list_any (nat_eq id) new) key same held
      (λ id. sym (by_number new id) ∙ step id ∙ ap (λ b. cond b true (list_any (eq id) old)) (is key id) ∙ ap (λ b. cond (nat_eq key id) true b) (by_number old id)) before

-- the same sets, by equal counts
pub all_sets : (Held : Item → Type 0) (counts most : List ℕ) (u : Used) → counts ≡ most → HasJust (λ x. FitsIn counts x × Held x) u → HasJust (λ x. FitsIn most x × Held x) u
all_sets Held counts most u same h = subst (λ (cs : List ℕ). HasJust (λ x. FitsIn cs x × Held x) u) same h

pub bounded_by : (counts most : List ℕ) (bound : ℕ) → counts ≡ most → ((space : ℕ) → space < 8 → slice_index_or most space 0 ≤ bound) → (space : ℕ) → space < 8 → slice_index_or counts space 0 ≤ bound
bounded_by counts most bound same all space below = subst (λ (cs : List ℕ). slice_index_or cs space 0 ≤ bound) (sym same) (all space below)
