-- Lemmas: slots that were filled in order, and named since, hold items with their own ids.
use Rattle.std.specs.Prelude.{ℕ, zero, suc, ◌+◌, ◌≡◌, List, [], ◌∷◌, map, Option, Some, None, slice_index_or, refl}
use Rattle.std.specs.Option.{option_map}
use Rattle.std.proofs.Common.{ap, sym, ◌∙◌, subst, arith}
use Rattle.std.proofs.lemmas.Option.{none-some, same_Some}
use Rattle.walrus_arena.specs.Arena.{Arena}
use Rattle.walrus_items_into.specs.walrus_tables_into.walrus_sections_into.Slots.{Become, Filled}
use Rattle.walrus_item_names.specs.Called.{bare_items}
use Rattle.walrus_linked.specs.OwnIds.{HaveOwnIds}

-- ---- filled in order

module _ {X Y : Type 0} (R : ℕ → X → Y → Type 0) (id_of : Y → ℕ) (told : (slot : ℕ) (x : X) (y : Y) → R slot x y → id_of y ≡ slot) where
  become_own : (xs : List X) (ys : List (Option Y)) (first : ℕ) → Become R xs ys first → (n : ℕ) (y : Y) → slice_index_or ys n None ≡ Some y → id_of y ≡ first + n
  become_own [] [] first h n y e = absurd (none-some y e)
  become_own [] (z ∷ ys) first h n y e = absurd h
  become_own (x ∷ xs) [] first h n y e = absurd h
  become_own (x ∷ xs) (None ∷ ys) first h n y e = absurd h
  become_own (x ∷ xs) (Some z ∷ ys) first h zero y e = let here : first ≡ first + 0 = omega arith in subst (λ (y : Y). id_of y ≡ first + 0) (same_Some z y e) (told first x z h.0 ∙ here)
  become_own (x ∷ xs) (Some z ∷ ys) first h (suc n) y e = let later = become_own xs ys (suc first) h.1 n y e in omega (arith, later)

  pub filled_own : (xs : List X) (a : Arena Y) → Filled R xs [] a.slots → HaveOwnIds id_of a
  filled_own xs a h id x e =
      let at = become_own xs h.more 0 h.become id x (sym (ap (λ (slots : List (Option Y)). slice_index_or slots id None) h.behind) ∙ e) in
      omega (arith, at)

-- ---- named since

slot_at : {A B : Type 0} (see : A → B) (slots : List (Option A)) (n : ℕ) → slice_index_or (map (option_map see) slots) n None ≡ option_map see (slice_index_or slots n None)
slot_at see [] n = refl
slot_at see (x ∷ slots) zero = refl
slot_at see (x ∷ slots) (suc n) = slot_at see slots n

module _ {Y : Type 0} (bare : Y → Y) (id_of : Y → ℕ) (keeps : (y : Y) → id_of (bare y) ≡ id_of y) where
  bare_own : (o : Option Y) (x : Y) (id : ℕ) → option_map bare o ≡ Some (bare x) → ((y : Y) → o ≡ Some y → id_of y ≡ id) → id_of x ≡ id
  bare_own None x id e own = absurd (none-some (bare x) e)
  bare_own (Some y) x id e own = sym (keeps x) ∙ ap id_of (sym (same_Some (bare y) (bare x) e)) ∙ keeps y ∙ own y refl

  pub named_own : (old new : Arena Y) → bare_items bare new ≡ bare_items bare old → HaveOwnIds id_of old → HaveOwnIds id_of new
  named_own old new same own id x e =
      bare_own (slice_index_or old.slots id None) x id
      (sym (slot_at bare old.slots id)
      ∙ sym (ap (λ (a : Arena Y). slice_index_or a.slots id None) same)
      ∙ slot_at bare new.slots id
      ∙ ap (option_map bare) e)
      (λ y there. own id y there)
