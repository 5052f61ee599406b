-- Adding just these items.
use Rattle.std.proofs.Common.{◌≡◌, ◌∙◌, ◌⊎◌, ◌+◌, ◌<◌, ℕ, Bool, true, false, List, [], ◌++◌, Contains, append-nil, sym, ap, subst, inl, inr, arith}
use Rattle.std.specs.Prelude.{◌↔◌}
use Rattle.std.proofs.lemmas.Bool.{cases_eq, false≢true}
use Rattle.std.proofs.lemmas.List.{append_assoc}
use Rattle.std.proofs.lemmas.List.Elements.{Contains-append_left, Contains-append_right, Contains-append_cases}
use Rattle.walrus_roots.specs.declared.item.Item.{Item}
use Rattle.walrus_reasons.specs.Added.{AreJust, Adds}

pub none_in : {X : Type 0} (x : X) → Contains [] x → ⊥
none_in x c = omega (arith, c.1)

-- a test that fails
pub not_so : {P : Type 0} (r : Bool) → (r ≡ true) ↔ P → r ≡ false → P → ⊥
not_so r is failed p = false≢true (sym failed ∙ is.1 p)

-- these, in a list
pub adds_list : (xs a b : List Item) → b ≡ a ++ xs → Adds (λ x. Contains xs x) a b
adds_list xs a b added = record { items = xs; are = λ x. (λ c. c, λ c. c); added = added }

-- none
pub adds_none : (P : Item → Type 0) (a b : List Item) → ((x : Item) → P x → ⊥) → b ≡ a → Adds P a b
adds_none P a b none same = record { items = []; are = λ x. (λ c. absurd (none_in x c), λ p. absurd (none x p)); added = same ∙ sym (append-nil a) }

-- the same, in other words
pub adds_same : (P Q : Item → Type 0) (a b : List Item) → ((x : Item) → P x ↔ Q x) → Adds P a b → Adds Q a b
adds_same P Q a b same m = record { items = m.items; are = λ x. (λ c. (same x).0 ((m.are x).0 c), λ q. (m.are x).1 ((same x).1 q)); added = m.added }

-- these, and then those
pub adds_then : (P Q : Item → Type 0) (a b c : List Item) → Adds P a b → Adds Q b c → Adds (λ x. P x ⊎ Q x) a c
adds_then P Q a b c m n = record {
  items = m.items ++ n.items;
  are = λ x. (
    λ h. elim (Contains-append_cases m.items n.items x h) as (λ _. P x ⊎ Q x) [ inl l ↦ inl ((m.are x).0 l) | inr r ↦ inr ((n.are x).0 r) ],
    λ h. elim h as (λ _. Contains (m.items ++ n.items) x) [ inl p ↦ Contains-append_left m.items n.items x ((m.are x).1 p) | inr q ↦ Contains-append_right m.items n.items x ((n.are x).1 q) ],
  );
  added = n.added ∙ ap (λ (xs : List Item). xs ++ n.items) m.added ∙ append_assoc a m.items n.items;
}

-- the item is one of a number below n
abbrev pub Below : (ℕ → Item → Type 0) → ℕ → Item → Type 0
Below P n x = (k : ℕ) × (k < n) × P k x

-- one number after the other
module _ (P : ℕ → Item → Type 0) where
  pub none_below : (a b : List Item) → b ≡ a → Adds (Below P 0) a b
  none_below a b same = adds_none (Below P 0) a b (λ x h. omega (arith, h.1)) same

  pub below_more : (n : ℕ) (a b c : List Item) → Adds (Below P n) a b → Adds (P n) b c → Adds (Below P (n + 1)) a c
  below_more n a b c before now = adds_same (λ x. Below P n x ⊎ P n x) (Below P (n + 1)) a c (λ x. (
    λ h. elim h as (λ _. Below P (n + 1) x) [ inl l ↦ (l.0, omega (arith, l.1), l.2) | inr r ↦ (n, omega arith, r) ],
    λ h. elim (cases_eq h.0 n) as (λ _. Below P n x ⊎ P n x) [ inl e ↦ inr (subst (λ k. P k x) e h.2) | inr other ↦ inl (h.0, omega (arith, h.1, other), h.2) ],
  ))
      (adds_then (Below P n) (P n) a b c before now)

  pub below_skip : (n : ℕ) (a b : List Item) → ((x : Item) → P n x → ⊥) → Adds (Below P n) a b → Adds (Below P (n + 1)) a b
  below_skip n a b none before = adds_same (Below P n) (Below P (n + 1)) a b (λ x. (
    λ l. (l.0, omega (arith, l.1), l.2),
    λ h. elim (cases_eq h.0 n) as (λ _. Below P n x) [ inl e ↦ absurd (none x (subst (λ k. P k x) e h.2)) | inr other ↦ (h.0, omega (arith, h.1, other), h.2) ],
  )) before

  pub below_all : (n : ℕ) (a b : List Item) → ((k : ℕ) (x : Item) → P k x → k < n) → Adds (Below P n) a b → Adds (λ x. (k : ℕ) × P k x) a b
  below_all n a b bound before = adds_same (Below P n) (λ x. (k : ℕ) × P k x) a b (λ x. (λ h. (h.0, h.2), λ h. (h.0, bound h.0 x h.1, h.1))) before

-- what is added to nothing is all
pub all_added : (P : Item → Type 0) (a b : List Item) → a ≡ [] → Adds P a b → AreJust b P
all_added P a b none m = (let all : b ≡ m.items = m.added ∙ ap (λ (xs : List Item). xs ++ m.items) none in subst (λ (xs : List Item). AreJust xs P) (sym all) m.are)
