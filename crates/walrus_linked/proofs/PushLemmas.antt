-- What is found in a collection that has one more item.
use Rattle.std.proofs.Common.{◌≡◌, ◌∙◌, ◌⊎◌, ℕ, List, [], ◌∷◌, ◌++◌, length, Option, Some, IsSome, Contains, sym, ap, subst, inl, inr}
use Rattle.std.specs.Option.{option_and_then}
use Rattle.walrus_arena.specs.Arena.{Arena, item_at}
use Rattle.wasm_formats.specs.declared.fault.Space.{Space}
use Rattle.walrus_roots.specs.declared.item.Item.{Item}
use Rattle.walrus_roots.specs.Items.{item}
use Rattle.walrus_linked.proofs.SlotLemmas.{pushed_at, pushed_kept, pushed_new, and_then_some, some_of, is_some_at}

module _ {T : Type 0} (a b : Arena T) (x : T) (adds : b.slots ≡ a.slots ++ Some x ∷ []) where
  -- what an item that was there says, it says still
  pub says_kept : (says : T → Option ℕ) (id i : ℕ) → option_and_then says (item_at a id) ≡ Some i → option_and_then says (item_at b id) ≡ Some i
  says_kept says id i h = let o = and_then_some says (item_at a id) i h in ap (option_and_then says) (pushed_kept a b x adds o.0 id o.1) ∙ o.2

  pub live_kept : (id : ℕ) → IsSome (item_at a id) → IsSome (item_at b id)
  live_kept id h = let o = some_of (item_at a id) h in is_some_at (item_at b id) o.0 (pushed_kept a b x adds o.0 id o.1)

  -- what is said was said before, or the new one says it
  pub says_or_new : (s : Space) (says : T → Option ℕ) (first : ℕ) → says x ≡ Some first → (id i : ℕ) → option_and_then says (item_at b id) ≡ Some i
      → (option_and_then says (item_at a id) ≡ Some i) ⊎ ((item s id ≡ item s (length a.slots)) × (i ≡ first))
  says_or_new s says first back id i h =
      let o = and_then_some says (item_at b id) i h in
      elim (pushed_at a b x adds o.0 id o.1) as (λ _. (option_and_then says (item_at a id) ≡ Some i) ⊎ ((item s id ≡ item s (length a.slots)) × (i ≡ first))) [
        | inl k ↦ inl (ap (option_and_then says) k ∙ o.2)
        | inr k ↦ let e : Some i ≡ Some first = sym o.2 ∙ ap says k.1 ∙ back in inr (ap (item s) k.0, cc)
      ]

  pub live_or_new : (s : Space) (id : ℕ) → IsSome (item_at b id) → IsSome (item_at a id) ⊎ (item s id ≡ item s (length a.slots))
  live_or_new s id h =
      let o = some_of (item_at b id) h in
      elim (pushed_at a b x adds o.0 id o.1) as (λ _. IsSome (item_at a id) ⊎ (item s id ≡ item s (length a.slots))) [
        | inl k ↦ inl (is_some_at (item_at a id) o.0 k)
        | inr k ↦ inr (ap (item s) k.0)
      ]

  -- what an item that was there names, it names still
  pub names_kept : (named : Option T → List Item) (id : ℕ) → IsSome (item_at a id) → named (item_at b id) ≡ named (item_at a id)
  names_kept named id h = let o = some_of (item_at a id) h in ap named (pushed_kept a b x adds o.0 id o.1 ∙ sym o.1)

  -- what holds of all that the new one names
  pub new_names : (named : Option T → List Item) (P : Item → Type 0) → ((y : Item) → Contains (named (Some x)) y → P y) → (y : Item) → Contains (named (item_at b (length a.slots))) y → P y
  new_names named P all y has = let C : Option T → Type 0 = λ o. Contains (named o) y in all y (subst C (pushed_new a b x adds) has)
