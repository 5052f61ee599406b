-- The look-up of a set, over its adds and removes.
use Rattle.std.proofs.Common.{◌≡◌, ◌≢◌, ℕ, Bool, true, cond, List, [], ◌∷◌, ◌++◌, length, Option, Some, None, slice_index_or, slice_set, sym, ap, ◌∙◌, arith, ⊎_elim}
use Rattle.std.specs.Option.{option_map}
use Rattle.std.specs.declared.cmp.Ordering.{Ordering}
use Rattle.std.specs.Ordering.{eq_by_cmp}
use Rattle.std.specs.BTreeMap.{is_at}
use Rattle.std.specs.Cmp.{IsEquivalence}
use Rattle.std.proofs.lemmas.Bool.{cases_Bool, both_ways}
use Rattle.walrus_arena.specs.Arena.{Arena}
use Rattle.walrus_arena.specs.Set.{IsIndex, id_equal_to}
use Rattle.walrus_arena.proofs.ArenaLemmas.{live-within, at-kept, at-last, at-push, at-deleted, at-other, find-none, find-lowest}

module _ {T : Type 0} {eq : T → T → Bool} where
  -- what a change at an equal key makes of the look-up, where keys are equal that the order doesn't tell apart
  pub updated_where_equal : (cmp : T → T → Ordering) (find new : T → Option ℕ) → ((x y : T) → eq x y ≡ eq_by_cmp cmp x y)
      → (key : T) (id : Option ℕ) → ((q : T) → new q ≡ cond (is_at (cmp key) q) id (find q))
      → (q : T) → new q ≡ cond (eq key q) id (find q)
  updated_where_equal cmp find new ties key id updates q = updates q ∙ ap (λ (b : Bool). cond b id (find q)) (sym (ties key q))

  -- equal live items have one id
  pub IsIndex-distinct : {find : T → Option ℕ} {slots : List (Option T)} → IsEquivalence eq → IsIndex eq find slots
      → (i j : ℕ) (x y : T) → slice_index_or slots i None ≡ Some x → slice_index_or slots j None ≡ Some y → eq x y ≡ true → i ≡ j
  IsIndex-distinct laws index i j x y at_i at_j same =
      let a = index.back x i x at_i (laws.refl x) in
      let b = index.back x j y at_j same in cc

  -- what the look-up finds is the live id whose item is equal
  pub IsIndex-found : {find : T → Option ℕ} → IsEquivalence eq → (a : Arena T) → IsIndex eq find a.slots
      → (value : T) (id : ℕ) → find value ≡ Some id → id_equal_to eq value a ≡ Some id
  IsIndex-found laws a index value id is =
      let here = index.forth value id is in
      ap (option_map (λ (e : ℕ × T). e.0)) (find-lowest (eq value) 0 a.slots id here.0 id here.1 here.2
      (λ j other at same. let b = index.back value j other at same in let e : id ≡ j = cc in omega arith) (omega arith))

  -- where it finds nothing, no live item is equal
  pub IsIndex-absent : {find : T → Option ℕ} → (a : Arena T) → IsIndex eq find a.slots
      → (value : T) → find value ≡ None → id_equal_to eq value a ≡ None
  IsIndex-absent a index value is =
      ap (option_map (λ (e : ℕ × T). e.0)) (find-none (eq value) 0 a.slots
      (λ i item at. ⊎_elim (λ same. let b = index.back value i item at same in absurd cc) (λ no_match. no_match) (cases_Bool (eq value item))))

  -- one more item, under a clone of it
  pub IsIndex-push : {find new : T → Option ℕ} {slots : List (Option T)} → IsEquivalence eq → IsIndex eq find slots
      → (key value : T) (id : ℕ) → eq value key ≡ true → find value ≡ None → length slots ≡ id
      → ((q : T) → new q ≡ cond (eq key q) (Some id) (find q))
      → IsIndex eq new (slots ++ Some value ∷ [])
  IsIndex-push {find} {new} {slots} laws index key value id clone absent is updates = record {
    forth = λ q found at. ⊎_elim
        (λ same.
        let here : new q ≡ Some id = rw same at (updates q) in
        let e : found ≡ id = cc in
        let equal : eq q value ≡ true = laws.symm q value ∙ laws.congr value key q clone ∙ same in
        (value, at-last slots (Some value) found (is ∙ sym e), equal))
        (λ apart.
        let there : find q ≡ Some found = sym (rw apart at (updates q)) ∙ at in
        let h = index.forth q found there in
        (h.0, at-kept slots (Some value) found (live-within slots found h.0 h.1) ∙ h.1, h.2))
        (cases_Bool (eq key q));
    back = λ q i item at same. ⊎_elim
        (λ old. ⊎_elim
        (λ tied.
        let equal : eq value item ≡ true = laws.congr value q item (laws.congr value key q clone ∙ tied) ∙ same in
        let there = index.back value i item old equal in absurd cc)
        (λ apart. rw apart at (updates q) ∙ index.back q i item old same)
        (cases_Bool (eq key q)))
        (λ last.
        let equal : eq q value ≡ true = ap (λ (x : T). eq q x) (sym last.1) ∙ same in
        let tied : eq key q ≡ true = sym (laws.congr value key q clone) ∙ laws.symm value q ∙ equal in
        let there : new q ≡ Some id = rw tied at (updates q) in
        there ∙ ap Some (sym is ∙ sym last.0))
        (at-push slots value item i at);
  }

  -- one item less
  pub IsIndex-remove : {find new : T → Option ℕ} {slots : List (Option T)} → IsEquivalence eq → IsIndex eq find slots
      → (value : T) (id : ℕ) → slice_index_or slots id None ≡ Some value
      → ((q : T) → new q ≡ cond (eq value q) None (find q))
      → IsIndex eq new (slice_set slots id None)
  IsIndex-remove {find} {new} {slots} laws index value id live updates = record {
    forth = λ q found at. ⊎_elim
        (λ same. let gone : new q ≡ None = rw same at (updates q) in absurd cc)
        (λ apart.
        let there : find q ≡ Some found = sym (rw apart at (updates q)) ∙ at in
        let h = index.forth q found there in
        let other : found ≢ id = λ e.
        let here : slice_index_or slots found None ≡ Some value = ap (λ (i : ℕ). slice_index_or slots i None) e ∙ live in
        let is_value : h.0 ≡ value = cc in
        let tied : eq value q ≡ true = laws.symm value q ∙ ap (λ (x : T). eq q x) (sym is_value) ∙ h.2 in
        both_ways (eq value q) apart tied in
        (h.0, at-other slots None id found other ∙ h.1, h.2))
        (cases_Bool (eq value q));
    back = λ q i item at same.
        let old = at-deleted slots id i item at in
        ⊎_elim
        (λ tied.
        let equal : eq value item ≡ true = laws.congr value q item tied ∙ same in
        absurd (old.1 (sym (IsIndex-distinct laws index id i value item live old.0 equal))))
        (λ apart. rw apart at (updates q) ∙ index.back q i item old.0 same)
        (cases_Bool (eq value q));
  }
