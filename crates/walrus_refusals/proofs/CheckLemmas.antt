-- Checks of the items that were met.
use Rattle.std.proofs.Common.{◌≡◌, ◌∙◌, ◌+◌, ◌<◌, ℕ, Bool, true, false, List, get_or, refl, sym, ap, subst, inl, inr, arith}
use Rattle.std.specs.Prelude.{Decides, slice_index_or}
use Rattle.std.proofs.lemmas.Bool.{cases_eq, false≢true}
use Rattle.wasm_formats.specs.declared.fault.Space.{Space}
use Rattle.walrus_roots.specs.declared.item.Item.{Item}
use Rattle.walrus_roots.specs.Items.{item, space_number}
use Rattle.walrus_marks.specs.Marks.{State}
use Rattle.walrus_marks.specs.Chains.{FitsIn}
use Rattle.walrus_marks.proofs.MarkLemmas.{same_item}
use Rattle.walrus_refusals.specs.Checks.{IsMet, HoldsIn}

-- what is decided, under a condition that doesn't hold, or that does
pub unless : {A P : Type 0} → (A → ⊥) → Decides true (A → P)
unless not_a = (λ _ a. absurd (not_a a), λ _. refl)

pub given : {A P : Type 0} (b : Bool) → A → Decides b P → Decides b (A → P)
given b a d = (λ e _. d.0 e, λ f. d.1 (f a))

pub not_so : {P : Type 0} (b : Bool) → b ≡ false → Decides b P → P → ⊥
not_so b e d p = false≢true (sym e ∙ d.1 p)

module _ (holds : Item → Type 0) (marks : State) where
  pub one_more_in : (space : Space) (n : ℕ) → (IsMet marks (item space n) → holds (item space n)) → HoldsIn holds marks space n → HoldsIn holds marks space (n + 1)
  one_more_in space n this before = λ id below met. elim (cases_eq id n) as (λ _. holds (item space id)) [
    | inl e ↦ subst (λ k. IsMet marks (item space k) → holds (item space k)) (sym e) this met
    | inr other ↦ before id (omega (arith, below, other)) met
  ]

  -- what holds in the spaces of lower numbers
  abbrev pub HoldsBelow : ℕ → Type 0
  HoldsBelow n = (x : Item) → space_number x.space < n → IsMet marks x → holds x

  pub one_more_space : (counts : List ℕ) (space : Space) (n count : ℕ) → space_number space ≡ n → count ≡ slice_index_or counts n 0 → ((x : Item) → IsMet marks x → FitsIn counts x)
      → HoldsIn holds marks space count → HoldsBelow n → HoldsBelow (n + 1)
  one_more_space counts space n count number at fits here before = λ x below met. elim (cases_eq (space_number x.space) n) as (λ _. holds x) [
    | inl e ↦
        let same : x ≡ item space x.id = same_item x (item space x.id) (e ∙ sym number) refl in
        let fit : x.id < count = omega (arith, fits x met, at, ap (λ k. get_or counts k 0) e) in
        subst holds (sym same) (here x.id fit (subst (IsMet marks) same met))
    | inr other ↦ before x (omega (arith, below, other)) met
  ]

  -- not in this space
  pub fails_in : (space : Space) (count : ℕ) (b : Bool) → b ≡ false → Decides b (HoldsIn holds marks space count) → ((x : Item) → x.space ≡ space → IsMet marks x → holds x) → ⊥
  fails_in space count b e d all = not_so b e d (λ id _ met. all (item space id) refl met)
