-- What is found in a collection that has one more item.
use Rattle.std.proofs.Common.{◌≡◌, ◌∙◌, ◌⊎◌, ℕ, [], ◌∷◌, ◌++◌, Option, Some, None, IsSome, sym, ap, subst, inl, inr}
use Rattle.std.specs.Option.{option_and_then}
use Rattle.walrus_arena.specs.Arena.{Arena, item_at}
use Rattle.walrus_linked.proofs.SlotLemmas.{pushed_at, and_then_some, some_of, is_some_at}

module _ {T : Type 0} (a b : Arena T) (x : T) (adds : b.slots ≡ a.slots ++ Some x ∷ []) where
  -- where the new one says nothing, what is said was said before
  pub says_at : (says : T → Option ℕ) → says x ≡ None → (id i : ℕ) → option_and_then says (item_at b id) ≡ Some i → option_and_then says (item_at a id) ≡ Some i
  says_at says none id i h =
      let o = and_then_some says (item_at b id) i h in
      elim (pushed_at a b x adds o.0 id o.1) as (λ _. option_and_then says (item_at a id) ≡ Some i) [
        | inl k ↦ ap (option_and_then says) k ∙ o.2
        | inr k ↦ let bad : None ≡ Some i = sym none ∙ sym (ap says k.1) ∙ o.2 in absurd cc
      ]

  -- what holds of a live item held of it before, or holds of the new one
  pub named_at : (N : Option T → Type 0) (id : ℕ) → IsSome (item_at b id) → N (item_at b id) → (IsSome (item_at a id) × N (item_at a id)) ⊎ N (Some x)
  named_at N id h has =
      let o = some_of (item_at b id) h in
      elim (pushed_at a b x adds o.0 id o.1) as (λ _. (IsSome (item_at a id) × N (item_at a id)) ⊎ N (Some x)) [
        | inl k ↦ inl (is_some_at (item_at a id) o.0 k, subst N (o.1 ∙ sym k) has)
        | inr k ↦ inr (subst N (o.1 ∙ ap Some k.1) has)
      ]

pub or_new : {A B C : Type 0} → A ⊎ B → (B → C) → A ⊎ C
or_new (inl a) f = inl a
or_new (inr b) f = inr (f b)
