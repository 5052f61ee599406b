-- What is picked for the items of a collection.
use Rattle.std.proofs.Common.{◌≡◌, ◌∙◌, ◌+◌, ◌<◌, ℕ, zero, suc, List, [], ◌∷◌, ◌++◌, length, get_or, take, Option, Some, None, Contains, append-nil, refl, sym, ap, subst, inl, inr, arith}
use Rattle.std.specs.Prelude.{MatchOption}
use Rattle.std.specs.List.{flat_map}
use Rattle.std.proofs.lemmas.List.{append_assoc, take_all}
use Rattle.std.proofs.lemmas.List.Elements.{Contains-append_left, Contains-append_right, Contains-append_cases}
use Rattle.walrus_arena.specs.Arena.{Arena, entries_from, item_at}
use Rattle.walrus_reasons.specs.Picks.{picked, picked_at}
use Rattle.walrus_reasons.proofs.AddedLemmas.{none_in}

module _ {T X : Type 0} (picks : ℕ → T → List X) where
  -- what is picked for these slots, where the first has this id
  abbrev pub picked_from : ℕ → List (Option T) → List X
  picked_from id slots = flat_map (λ e. picks e.0 e.1) (entries_from id slots)

  same_id : (k n : ℕ) (o : Option T) → picked_at picks (k + 1 + n) o ≡ picked_at picks (k + suc n) o
  same_id k n o = ap (λ (i : ℕ). picked_at picks i o) (omega arith)

  -- one slot more
  pub picked_more : (k : ℕ) (slots : List (Option T)) (n : ℕ) → n < length slots
      → picked_from k (take (suc n) slots) ≡ picked_from k (take n slots) ++ picked_at picks (k + n) (get_or slots n None)
  picked_more k [] n below = absurd (omega arith)
  picked_more k (None ∷ slots) zero below = refl
  picked_more k (Some t ∷ slots) zero below = append-nil (picks k t) ∙ ap (λ (i : ℕ). picks i t) (omega arith)
  picked_more k (None ∷ slots) (suc n) below = picked_more (k + 1) slots n (omega arith) ∙ ap (λ (xs : List X). picked_from (k + 1) (take n slots) ++ xs) (same_id k n (get_or slots n None))
  picked_more k (Some t ∷ slots) (suc n) below =
      ap (λ (xs : List X). picks k t ++ xs) (picked_more (k + 1) slots n (omega arith) ∙ ap (λ (xs : List X). picked_from (k + 1) (take n slots) ++ xs) (same_id k n (get_or slots n None)))
      ∙ sym (append_assoc (picks k t) (picked_from (k + 1) (take n slots)) (picked_at picks (k + suc n) (get_or slots n None)))

  -- whose it is
  abbrev pub IsPickedAt : ℕ → Option T → X → Type 0
  IsPickedAt id o x = MatchOption o ⊥ (λ t. Contains (picks id t) x)

  at_forth : (k : ℕ) (slots : List (Option T)) (x : X) → Contains (picked_from k slots) x → (n : ℕ) × IsPickedAt (k + n) (get_or slots n None) x
  at_forth k [] x c = absurd (none_in x c)
  at_forth k (None ∷ slots) x c = (let h = at_forth (k + 1) slots x c in (suc h.0, subst (λ (i : ℕ). IsPickedAt i (get_or slots h.0 None) x) (omega arith) h.1))
  at_forth k (Some t ∷ slots) x c = elim (Contains-append_cases (picks k t) (picked_from (k + 1) slots) x c) as (λ _. (n : ℕ) × IsPickedAt (k + n) (get_or (Some t ∷ slots) n None) x) [
    | inl l ↦ (0, subst (λ (i : ℕ). Contains (picks i t) x) (omega arith) l)
    | inr r ↦ (let h = at_forth (k + 1) slots x r in (suc h.0, subst (λ (i : ℕ). IsPickedAt i (get_or slots h.0 None) x) (omega arith) h.1))
  ]

  at_back : (k : ℕ) (slots : List (Option T)) (n : ℕ) (x : X) → IsPickedAt (k + n) (get_or slots n None) x → Contains (picked_from k slots) x
  at_back k [] n x h = absurd h
  at_back k (None ∷ slots) zero x h = absurd h
  at_back k (Some t ∷ slots) zero x h = Contains-append_left (picks k t) (picked_from (k + 1) slots) x (subst (λ (i : ℕ). Contains (picks i t) x) (omega arith) h)
  at_back k (None ∷ slots) (suc n) x h = at_back (k + 1) slots n x (subst (λ (i : ℕ). IsPickedAt i (get_or slots n None) x) (omega arith) h)
  at_back k (Some t ∷ slots) (suc n) x h = Contains-append_right (picks k t) (picked_from (k + 1) slots) x (at_back (k + 1) slots n x (subst (λ (i : ℕ). IsPickedAt i (get_or slots n None) x) (omega arith) h))

  pub picked_forth : (a : Arena T) (x : X) → Contains (picked picks a) x → (n : ℕ) × IsPickedAt n (item_at a n) x
  picked_forth a x c = (let h = at_forth 0 a.slots x c in (h.0, subst (λ (i : ℕ). IsPickedAt i (item_at a h.0) x) (omega arith) h.1))

  pub picked_back : (a : Arena T) (n : ℕ) (x : X) → IsPickedAt n (item_at a n) x → Contains (picked picks a) x
  picked_back a n x h = at_back 0 a.slots n x (subst (λ (i : ℕ). IsPickedAt i (item_at a n) x) (omega arith) h)

  -- ---- a loop over the slots
  pub more_picked : (slots : List (Option T)) (n : ℕ) (old mid new : List X) → n < length slots → mid ≡ old ++ picked_from 0 (take n slots) → new ≡ mid ++ picked_at picks n (get_or slots n None)
      → new ≡ old ++ picked_from 0 (take (n + 1) slots)
  more_picked slots n old mid new below before now =
      let one = picked_at picks n (get_or slots n None) in
      let next : n + 1 ≡ suc n = omega arith in
      let id : 0 + n ≡ n = omega arith in
      let step : picked_from 0 (take (n + 1) slots) ≡ picked_from 0 (take n slots) ++ one =
      ap (λ (i : ℕ). picked_from 0 (take i slots)) next ∙ picked_more 0 slots n below ∙ ap (λ (i : ℕ). picked_from 0 (take n slots) ++ picked_at picks i (get_or slots n None)) id in
      now ∙ ap (λ (xs : List X). xs ++ one) before ∙ append_assoc old (picked_from 0 (take n slots)) one ∙ ap (λ (xs : List X). old ++ xs) (sym step)

  pub all_picked : (a : Arena T) (n : ℕ) (old new : List X) → n ≡ length a.slots → new ≡ old ++ picked_from 0 (take n a.slots) → new ≡ old ++ picked picks a
  all_picked a n old new all is = is ∙ ap (λ (slots : List (Option T)). old ++ picked_from 0 slots) (take_all n a.slots (omega (arith, all)))
