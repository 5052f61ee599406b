-- Items that imports bring and that were never given out.
use Rattle.std.proofs.Common.{◌≡◌, ◌∙◌, ◌⊎◌, ◌+◌, ℕ, List, [], get_or, Option, Some, None, refl, sym, ap, subst, inl, inr, arith}
use Rattle.std.specs.Prelude.{IsSome, IsTrue, MatchOption, nat_eq, replicate}
use Rattle.std.specs.List.{list_any}
use Rattle.std.proofs.lemmas.List.{get_or-replicate, get_or_past, length-replicate}
use Rattle.std.proofs.lemmas.Bool.{cases_eq, cases_lt, false≢true}
use Rattle.walrus_arena.specs.Arena.{IsLive, item_at}
use Rattle.walrus_used.specs.walrus_module.walrus_module_items.declared.import.Import.{Import}
use Rattle.walrus_used.specs.walrus_module.Items.{brought}
use Rattle.walrus_used.specs.walrus_module.Parts.{Module}
use Rattle.walrus_roots.specs.declared.item.Item.{Item}
use Rattle.walrus_roots.specs.Items.{space_number}
use Rattle.walrus_marks.specs.Chains.{FitsIn}
use Rattle.walrus_marks.specs.Claims.{IsAdded}
use Rattle.walrus_marks.specs.Marks.{is_claimed}
use Rattle.walrus_used.specs.Counts.{counts_of}
use Rattle.walrus_refusals.specs.Checks.{ArePast, IsAddedPast, IsBroughtBelow}

module _ (counts : List ℕ) (old : List (List ℕ)) (i : Item) where
  pub past_added : (new : List (List ℕ)) → (FitsIn counts i → ⊥) → IsAdded old i new → IsAddedPast counts old i new
  past_added new past h = record {
    sized = h.sized;
    are = λ x. (
      λ claims. elim ((h.are x).0 claims) as (λ _. ((x ≡ i) × (FitsIn counts x → ⊥)) ⊎ IsTrue (is_claimed old x)) [
        | inl same ↦ inl (same, λ fits. past (subst (FitsIn counts) same fits))
        | inr before ↦ inr before
      ],
      λ either. (h.are x).1 (elim either as (λ _. (x ≡ i) ⊎ IsTrue (is_claimed old x)) [ inl both ↦ inl both.0 | inr before ↦ inr before ]),
    );
  }

  pub none_added : FitsIn counts i → IsAddedPast counts old i old
  none_added fits = record {
    sized = refl;
    are = λ x. (
      λ claims. inr claims,
      λ either. elim either as (λ _. IsTrue (is_claimed old x)) [ inl both ↦ absurd (both.1 (subst (FitsIn counts) (sym both.0) fits)) | inr before ↦ before ],
    );
  }

abbrev no_ids : List ℕ
no_ids = []

none_listed : (k : ℕ) → get_or (replicate 10 no_ids) k no_ids ≡ no_ids
none_listed k = elim (cases_lt k 10) as (λ _. get_or (replicate 10 no_ids) k no_ids ≡ no_ids) [
  | inl below ↦ get_or-replicate 10 k no_ids no_ids below
  | inr past ↦ get_or_past (replicate 10 no_ids) k no_ids (omega (arith, past, length-replicate 10 no_ids))
]

module _ (m : Module) where
  abbrev Past : Item → Type 0
  Past x = FitsIn (counts_of m) x → ⊥

  pub none_past : (claimed : List (List ℕ)) → claimed ≡ replicate 10 [] → ArePast m 0 claimed
  none_past claimed is x = (
    λ claims. absurd (false≢true (sym (ap (λ (c : List (List ℕ)). is_claimed c x) is ∙ ap (list_any (nat_eq x.id)) (none_listed (space_number x.space))) ∙ claims)),
    λ both. absurd (omega (arith, both.1.1)),
  )

  brought_before : (n : ℕ) (x : Item) → IsBroughtBelow m n x → IsBroughtBelow m (n + 1) x
  brought_before n x b = (b.0, omega (arith, b.1), b.2)

  brought_now : (n : ℕ) (import : Import) (x : Item) → item_at m.imports n ≡ Some import → brought import.kind ≡ x → IsBroughtBelow m (n + 1) x
  brought_now n import x at is = (n, omega arith, subst (λ (o : Option Import). MatchOption o ⊥ (λ import. brought import.kind ≡ x)) (sym at) is)

  brought_or : (n : ℕ) (x : Item) → IsBroughtBelow m (n + 1) x → IsBroughtBelow m n x ⊎ MatchOption (item_at m.imports n) ⊥ (λ import. brought import.kind ≡ x)
  brought_or n x b = elim (cases_eq b.0 n) as (λ _. IsBroughtBelow m n x ⊎ MatchOption (item_at m.imports n) ⊥ (λ import. brought import.kind ≡ x)) [
    | inl e ↦ inr (subst (λ k. MatchOption (item_at m.imports k) ⊥ (λ import. brought import.kind ≡ x)) e b.2)
    | inr other ↦ inl (b.0, omega (arith, b.1, other), b.2)
  ]

  pub more_past : (counts : List ℕ) (n : ℕ) (import : Import) (i : Item) (old new : List (List ℕ)) → counts ≡ counts_of m → item_at m.imports n ≡ Some import → i ≡ brought import.kind → IsAddedPast counts old i new → ArePast m n old → ArePast m (n + 1) new
  more_past counts n import i old new same at is h before x = (
    λ claims. elim ((h.are x).0 claims) as (λ _. Past x × IsBroughtBelow m (n + 1) x) [
      | inl both ↦ (λ fits. both.1 (subst (λ (cs : List ℕ). FitsIn cs x) (sym same) fits), brought_now n import x at (sym (both.0 ∙ is)))
      | inr old ↦ (let was = (before x).0 old in (was.0, brought_before n x was.1))
    ],
    λ both. (h.are x).1 (elim (brought_or n x both.1) as (λ _. ((x ≡ i) × (FitsIn counts x → ⊥)) ⊎ IsTrue (is_claimed old x)) [
      | inl b ↦ inr ((before x).1 (both.0, b))
      | inr now ↦ inl (sym (subst (λ (o : Option Import). MatchOption o ⊥ (λ import. brought import.kind ≡ x)) at now) ∙ sym is, λ fits. both.0 (subst (λ (cs : List ℕ). FitsIn cs x) same fits))
    ]),
  )

  none_at : (o : Option Import) (x : Item) → (IsSome o → ⊥) → MatchOption o ⊥ (λ import. brought import.kind ≡ x) → ⊥
  none_at None x dead h = h
  none_at (Some import) x dead h = dead refl

  pub dead_past : (n : ℕ) (old : List (List ℕ)) → (IsLive m.imports n → ⊥) → ArePast m n old → ArePast m (n + 1) old
  dead_past n old dead before x = (
    λ claims. (let was = (before x).0 claims in (was.0, brought_before n x was.1)),
    λ both. (before x).1 (both.0, elim (brought_or n x both.1) as (λ _. IsBroughtBelow m n x) [ inl b ↦ b | inr now ↦ absurd (none_at (item_at m.imports n) x dead now) ]),
  )
