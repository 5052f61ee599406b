-- Meeting just these items.
use Rattle.std.proofs.Common.{◌≡◌, ◌∙◌, ◌⊎◌, ◌+◌, ◌<◌, ℕ, List, [], ◌++◌, Contains, sym, ap, subst, inl, inr, arith}
use Rattle.std.specs.Prelude.{◌↔◌}
use Rattle.std.specs.List.{fold}
use Rattle.std.proofs.lemmas.List.Sums.{fold-append}
use Rattle.std.proofs.lemmas.List.Elements.{Contains-append_left, Contains-append_right, Contains-append_cases}
use Rattle.std.proofs.lemmas.Bool.{cases_eq}
use Rattle.walrus_roots.specs.declared.item.Item.{Item}
use Rattle.walrus_marks.specs.Marks.{State, meet}
use Rattle.walrus_marks.specs.Chains.{Meets}
use Rattle.walrus_used.specs.Picks.{Below}

-- these, in a list
pub meets_list : (es : List Item) (a b : State) → b ≡ fold meet a es → Meets (λ x. Contains es x) a b
meets_list es a b met = record { items = es; are = λ x. (λ c. c, λ c. c); met = met }

-- none
pub meets_none : (P : Item → Type 0) (a b : State) → ((x : Item) → P x → ⊥) → b ≡ a → Meets P a b
meets_none P a b none same = record { items = []; are = λ x. (λ c. absurd (omega (arith, c.1)), λ p. absurd (none x p)); met = same }

-- the same, in other words
pub meets_same : (P Q : Item → Type 0) (a b : State) → ((x : Item) → P x ↔ Q x) → Meets P a b → Meets Q a b
meets_same P Q a b same m = record { items = m.items; are = λ x. (λ c. (same x).0 ((m.are x).0 c), λ q. (m.are x).1 ((same x).1 q)); met = m.met }

-- these, and then those
pub meets_then : (P Q : Item → Type 0) (a b c : State) → Meets P a b → Meets Q b c → Meets (λ x. P x ⊎ Q x) a c
meets_then P Q a b c m n = record {
  items = m.items ++ n.items;
  are = λ x. (
    λ h. elim (Contains-append_cases m.items n.items x h) as (λ _. P x ⊎ Q x) [ inl l ↦ inl ((m.are x).0 l) | inr r ↦ inr ((n.are x).0 r) ],
    λ h. elim h as (λ _. Contains (m.items ++ n.items) x) [ inl p ↦ Contains-append_left m.items n.items x ((m.are x).1 p) | inr q ↦ Contains-append_right m.items n.items x ((n.are x).1 q) ],
  );
  met = n.met ∙ ap (λ (s : State). fold meet s n.items) m.met ∙ sym (fold-append meet a m.items n.items);
}

-- one number after the other
module _ (P : ℕ → Item → Type 0) where
  pub none_below : (a m : State) → m ≡ a → Meets (Below P 0) a m
  none_below a m same = meets_none (Below P 0) a m (λ x h. omega (arith, h.1)) same

  pub below_more : (n : ℕ) (a m c : State) → Meets (Below P n) a m → Meets (P n) m c → Meets (Below P (n + 1)) a c
  below_more n a m c before now = meets_same (λ x. Below P n x ⊎ P n x) (Below P (n + 1)) a c (λ x. (
    λ h. elim h as (λ _. Below P (n + 1) x) [ inl l ↦ (l.0, omega (arith, l.1), l.2) | inr r ↦ (n, omega arith, r) ],
    λ h. elim (cases_eq h.0 n) as (λ _. Below P n x ⊎ P n x) [ inl e ↦ inr (subst (λ k. P k x) e h.2) | inr other ↦ inl (h.0, omega (arith, h.1, other), h.2) ],
  ))
      (meets_then (Below P n) (P n) a m c before now)

  pub below_skip : (n : ℕ) (a m : State) → ((x : Item) → P n x → ⊥) → Meets (Below P n) a m → Meets (Below P (n + 1)) a m
  below_skip n a m none before = meets_same (Below P n) (Below P (n + 1)) a m (λ x. (
    λ l. (l.0, omega (arith, l.1), l.2),
    λ h. elim (cases_eq h.0 n) as (λ _. Below P n x) [ inl e ↦ absurd (none x (subst (λ k. P k x) e h.2)) | inr other ↦ (h.0, omega (arith, h.1, other), h.2) ],
  )) before

  pub below_all : (n : ℕ) (a m : State) → ((k : ℕ) (x : Item) → P k x → k < n) → Meets (Below P n) a m → Meets (λ x. (k : ℕ) × P k x) a m
  below_all n a m bound before = meets_same (Below P n) (λ x. (k : ℕ) × P k x) a m (λ x. (λ h. (h.0, h.2), λ h. (h.0, bound h.0 x h.1, h.1))) before

-- ---- lists of just these items
abbrev pub AreJust : List Item → (Item → Type 0) → Type 0
AreJust xs P = (x : Item) → Contains xs x ↔ P x

module _ (P : ℕ → Item → Type 0) where
  pub just_none : (xs : List Item) → xs ≡ [] → AreJust xs (Below P 0)
  just_none xs is = λ x. (λ c. absurd (let none = subst (λ (l : List Item). Contains l x) is c in omega (arith, none.1)), λ h. absurd (omega (arith, h.1)))

  pub just_more : (n : ℕ) (xs ys zs : List Item) → zs ≡ xs ++ ys → AreJust xs (Below P n) → AreJust ys (P n) → AreJust zs (Below P (n + 1))
  just_more n xs ys zs is before now = λ x. (
    λ c. elim (Contains-append_cases xs ys x (subst (λ (l : List Item). Contains l x) is c)) as (λ _. Below P (n + 1) x) [
      | inl l ↦ (let h = (before x).0 l in (h.0, omega (arith, h.1), h.2))
      | inr r ↦ (n, omega arith, (now x).0 r)
    ],
    λ h. subst (λ (l : List Item). Contains l x) (sym is) (elim (cases_eq h.0 n) as (λ _. Contains (xs ++ ys) x) [
      | inl e ↦ Contains-append_right xs ys x ((now x).1 (subst (λ k. P k x) e h.2))
      | inr other ↦ Contains-append_left xs ys x ((before x).1 (h.0, omega (arith, h.1, other), h.2))
    ]),
  )

  pub just_skip : (n : ℕ) (xs : List Item) → ((x : Item) → P n x → ⊥) → AreJust xs (Below P n) → AreJust xs (Below P (n + 1))
  just_skip n xs none before = λ x. (
    λ c. (let h = (before x).0 c in (h.0, omega (arith, h.1), h.2)),
    λ h. elim (cases_eq h.0 n) as (λ _. Contains xs x) [ inl e ↦ absurd (none x (subst (λ k. P k x) e h.2)) | inr other ↦ (before x).1 (h.0, omega (arith, h.1, other), h.2) ],
  )

  pub just_all : (n : ℕ) (xs : List Item) → ((k : ℕ) (x : Item) → P k x → k < n) → AreJust xs (Below P n) → AreJust xs (λ x. (k : ℕ) × P k x)
  just_all n xs bound before = λ x. (λ c. (let h = (before x).0 c in (h.0, h.2)), λ h. (before x).1 (h.0, bound h.0 x h.1, h.1))
