-- What is left of a collection.
use Rattle.std.proofs.Common.{◌≡◌, ◌∙◌, ◌+◌, ◌<◌, ◌≤◌, ℕ, List, Option, Some, None, length, get_or, refl, sym, ap, subst, inl, inr, arith}
use Rattle.std.proofs.Math.ListN.{set, length-set}
use Rattle.std.proofs.lemmas.List.{get_or-set_same, get_or-set_other, get_or_past}
use Rattle.std.proofs.lemmas.Bool.{cases_eq, cases_lt}
use Rattle.walrus_arena.specs.Arena.{Arena, item_at}
use Rattle.walrus_passes.specs.Part.{RestAmong}

module _ {T : Type 0} where
  -- nothing is dropped of these, since what is there stays
  pub rest_same : (among : ℕ → Type 0) (stays : ℕ → T → Type 0) (a b : Arena T) → b ≡ a → ((id : ℕ) (x : T) → among id → item_at a id ≡ Some x → stays id x) → RestAmong among stays a b
  rest_same among stays a b same all = record {
    sized = ap (λ (c : Arena T). length c.slots) same;
    each = λ id x at _. ap (λ (c : Arena T). item_at c id) same ∙ at;
    only = λ id x at. ap (λ (c : Arena T). item_at c id) (sym same) ∙ at;
    stay = λ id x is at. all id x is (ap (λ (c : Arena T). item_at c id) (sym same) ∙ at);
  }

  -- nothing of none
  pub rest_none : (stays : ℕ → T → Type 0) (a : Arena T) → RestAmong (λ k. k < 0) stays a a
  rest_none stays a = rest_same (λ k. k < 0) stays a a refl (λ id x below at. absurd (omega (arith, below)))

  -- one that isn't to stay
  module _ (stays : ℕ → T → Type 0) (a b : Arena T) (id : ℕ) (gone : b.slots ≡ set a.slots id None) (no_more : (x : T) → item_at a id ≡ Some x → stays id x → ⊥) where
    gone_other : (k : ℕ) → (k ≡ id → ⊥) → item_at b k ≡ item_at a k
    gone_other k other = ap (λ (slots : List (Option T)). get_or slots k None) gone ∙ get_or-set_other a.slots id k None None other

    gone_this : item_at b id ≡ None
    gone_this = ap (λ (slots : List (Option T)). get_or slots id None) gone ∙ elim (cases_lt id (length a.slots)) as (λ _. get_or (set a.slots id None) id None ≡ None) [
      | inl below ↦ get_or-set_same a.slots id None None below
      | inr past ↦ get_or_past (set a.slots id None) id None (omega (arith, past, length-set a.slots id None))
    ]

    not_there : (x : T) → item_at b id ≡ Some x → ⊥
    not_there x at = (let e : None ≡ Some x = sym gone_this ∙ at in absurd cc)

    pub rest_without : RestAmong (λ k. k ≡ id) stays a b
    rest_without = record {
      sized = ap length gone ∙ length-set a.slots id None;
      each = λ k x at s. elim (cases_eq k id) as (λ _. item_at b k ≡ Some x) [
        | inl e ↦ absurd (no_more x (subst (λ j. item_at a j ≡ Some x) e at) (subst (λ j. stays j x) e s))
        | inr other ↦ gone_other k other ∙ at
      ];
      only = λ k x at. elim (cases_eq k id) as (λ _. item_at a k ≡ Some x) [
        | inl e ↦ absurd (not_there x (subst (λ j. item_at b j ≡ Some x) e at))
        | inr other ↦ sym (gone_other k other) ∙ at
      ];
      stay = λ k x is at. absurd (not_there x (subst (λ j. item_at b j ≡ Some x) is at));
    }

  -- one after those below
  pub rest_more : (stays : ℕ → T → Type 0) (a b c : Arena T) (n id : ℕ) → id ≡ n → RestAmong (λ k. k < n) stays a b → RestAmong (λ k. k ≡ id) stays b c → RestAmong (λ k. k < n + 1) stays a c
  rest_more stays a b c n id same before now = record {
    sized = now.sized ∙ before.sized;
    each = λ k x at s. now.each k x (before.each k x at s) s;
    only = λ k x at. before.only k x (now.only k x at);
    stay = λ k x below at. elim (cases_eq k n) as (λ _. stays k x) [
      | inl e ↦ now.stay k x (e ∙ sym same) at
      | inr other ↦ before.stay k x (omega (arith, below, other)) (now.only k x at)
    ];
  }

  -- all of them
  pub rest_all : (stays : ℕ → T → Type 0) (a b : Arena T) (n : ℕ) → length a.slots ≤ n → RestAmong (λ k. k < n) stays a b → RestAmong (λ _. Unit {0}) stays a b
  rest_all stays a b n all before = record {
    sized = before.sized;
    each = before.each;
    only = before.only;
    stay = λ k x _ at. elim (cases_lt k n) as (λ _. stays k x) [
      | inl below ↦ before.stay k x below at
      | inr past ↦ (let none : None ≡ Some x = sym (get_or_past b.slots k None (omega (arith, past, all, before.sized))) ∙ at in absurd cc)
    ];
  }

  -- the same, by another condition
  pub rest_as : (stays kept : ℕ → T → Type 0) (a b : Arena T) → ((id : ℕ) (x : T) → stays id x → kept id x) → ((id : ℕ) (x : T) → kept id x → stays id x) → RestAmong (λ _. Unit {0}) stays a b → RestAmong (λ _. Unit {0}) kept a b
  rest_as stays kept a b forth back r = record {
    sized = r.sized;
    each = λ id x at k. r.each id x at (back id x k);
    only = r.only;
    stay = λ id x _ at. forth id x (r.stay id x tt at);
  }
