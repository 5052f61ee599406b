-- Lemmas: sequences that are met, one after another.
use Rattle.std.proofs.Common.{ℕ, zero, suc, ◌≡◌, ◌⊎◌, Bool, true, false, List, [], ◌∷◌, map, Some, refl, ap, inl, inr, eq-eqb, eqb-true}
use Rattle.std.specs.Prelude.{◌==◌, slice_get, if◌then◌else◌}
use Rattle.walrus_marks.specs.walrus_instr.declared.seq.InstrSeq.{InstrSeq}
use Rattle.walrus_handler_laws.specs.walrus_tree.walrus_builder.Built.{Seq, seq_of}
use Rattle.walrus_handler_laws.specs.walrus_body_steps.walrus_body_nesting.Stands.{with}

-- what was met stays so
abbrev pub Stays : (ℕ → Bool) → (ℕ → Bool) → Type 0
Stays met done = (j : ℕ) → met j ≡ true → done j ≡ true

-- it was met in between
abbrev pub New : (ℕ → Bool) → (ℕ → Bool) → ℕ → Type 0
New met done j = (met j ≡ false) × (done j ≡ true)

pub not_both : (b : Bool) → b ≡ true → b ≡ false → ⊥
not_both b h g = cc

pub either_bool : (b : Bool) → (b ≡ true) ⊎ (b ≡ false)
either_bool true = inl refl
either_bool false = inr refl

old : (met done : ℕ → Bool) → Stays met done → (j : ℕ) → done j ≡ false → met j ≡ false
old met done stays j h = elim (either_bool (met j)) as (λ _. met j ≡ false) [ inl e ↦ absurd (not_both (done j) (stays j e) h) | inr e ↦ e ]

pub with_here : (k : ℕ) (met : ℕ → Bool) → with k met k ≡ true
with_here k met = ap (λ (c : Bool). if c then true else met k) (eq-eqb k k refl)

pub with_stays : (k : ℕ) (met : ℕ → Bool) → Stays met (with k met)
with_stays k met j h = go (j == k)
  where
    go : (c : Bool) → (if c then true else met j) ≡ true
    go true = refl
    go false = h

-- met with one more: it is that one, or was met
pub with_cases : (k : ℕ) (met : ℕ → Bool) (j : ℕ) → (j ≡ k) ⊎ (with k met j ≡ met j)
with_cases k met j = elim (either_bool (j == k)) as (λ _. (j ≡ k) ⊎ (with k met j ≡ met j)) [ inl e ↦ inl (eqb-true j k e) | inr e ↦ inr (ap (λ (c : Bool). if c then true else met j) e) ]

pub new_one : (k : ℕ) (met done : ℕ → Bool) (j : ℕ) → New (with k met) done j → New met done j
new_one k met done j h = (old met (with k met) (with_stays k met) j h.0, h.1)

pub new_front : (met half done : ℕ → Bool) → Stays half done → (j : ℕ) → New met half j → New met done j
new_front met half done stays j h = (h.0, stays j h.1)

pub new_back : (met half done : ℕ → Bool) → Stays met half → (j : ℕ) → New half done j → New met done j
new_back met half done stays j h = (old met half stays j h.0, h.1)

pub seen_at : (b : List InstrSeq) (k : ℕ) (x : Seq) → slice_get (map seq_of b) k ≡ Some x → (y : InstrSeq) × (slice_get b k ≡ Some y) × (x ≡ seq_of y)
seen_at [] k x e = absurd cc
seen_at (y ∷ b) zero x e = (y, refl, let f = e in cc)
seen_at (y ∷ b) (suc k) x e = seen_at b k x e
