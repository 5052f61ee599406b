-- How two neighbouring numbers change places.
use Rattle.std.proofs.Common.{◌≡◌, ◌≢◌, ◌∙◌, ℕ, ◌+◌, ◌<◌, ◌≤◌, ◌⊎◌, inl, inr, ◌==◌, if◌then◌else◌, arith}
use Rattle.std.proofs.lemmas.Bool.{cases_eq, eq-eqb, ne_eqb, cond-true, cond-false}
use Rattle.walrus_type_laws.specs.Swap.{swapped}

-- where a number goes
abbrev pub Goes : ℕ → ℕ → ℕ → Type 0
Goes n i j = ((i ≡ n) × (j ≡ n + 1)) ⊎ (((i ≡ n + 1) × (j ≡ n)) ⊎ ((i ≢ n) × (i ≢ n + 1) × (j ≡ i)))

pub goes : (n i : ℕ) → Goes n i (swapped n i)
goes n i =
    elim (cases_eq i n) as (λ _. Goes n i (swapped n i)) [
      | inl low ↦ inl (low, cond-true (i == n) (n + 1) (if i == n + 1 then n else i) (eq-eqb i n low))
      | inr other ↦
          let past : swapped n i ≡ (if i == n + 1 then n else i) = cond-false (i == n) (n + 1) (if i == n + 1 then n else i) (ne_eqb i n other) in
          elim (cases_eq i (n + 1)) as (λ _. Goes n i (swapped n i)) [
            | inl high ↦ inr (inl (high, past ∙ cond-true (i == n + 1) n i (eq-eqb i (n + 1) high)))
            | inr apart ↦ inr (inr (other, apart, past ∙ cond-false (i == n + 1) n i (ne_eqb i (n + 1) apart)))
          ]
    ]

pub goes-back : (n i : ℕ) → swapped n (swapped n i) ≡ i
goes-back n i =
    elim (goes n i) as (λ _. swapped n (swapped n i) ≡ i) [
      | inl a ↦ elim (goes n (swapped n i)) as (λ _. swapped n (swapped n i) ≡ i) [
        | inl b ↦ absurd (omega (arith, a.1, b.0))
        | inr r ↦ elim r as (λ _. swapped n (swapped n i) ≡ i) [
          | inl b ↦ omega (arith, a.0, b.1)
          | inr b ↦ absurd (b.1 a.1)
        ]
      ]
      | inr r ↦ elim r as (λ _. swapped n (swapped n i) ≡ i) [
        | inl a ↦ elim (goes n (swapped n i)) as (λ _. swapped n (swapped n i) ≡ i) [
          | inl b ↦ omega (arith, a.0, b.1)
          | inr s ↦ elim s as (λ _. swapped n (swapped n i) ≡ i) [
            | inl b ↦ absurd (omega (arith, a.1, b.0))
            | inr b ↦ absurd (b.0 a.1)
          ]
        ]
        | inr a ↦ elim (goes n (swapped n i)) as (λ _. swapped n (swapped n i) ≡ i) [
          | inl b ↦ absurd (a.0 (omega (arith, a.2, b.0)))
          | inr s ↦ elim s as (λ _. swapped n (swapped n i) ≡ i) [
            | inl b ↦ absurd (a.1 (omega (arith, a.2, b.0)))
            | inr b ↦ omega (arith, a.2, b.2)
          ]
        ]
      ]
    ]

pub goes-low : (n : ℕ) → swapped n n ≡ n + 1
goes-low n =
    elim (goes n n) as (λ _. swapped n n ≡ n + 1) [
      | inl a ↦ a.1
      | inr r ↦ elim r as (λ _. swapped n n ≡ n + 1) [ inl a ↦ absurd (omega (arith, a.0)) | inr a ↦ absurd (a.0 (omega arith)) ]
    ]

pub goes-high : (n : ℕ) → swapped n (n + 1) ≡ n
goes-high n =
    elim (goes n (n + 1)) as (λ _. swapped n (n + 1) ≡ n) [
      | inl a ↦ absurd (omega (arith, a.0))
      | inr r ↦ elim r as (λ _. swapped n (n + 1) ≡ n) [ inl a ↦ a.1 | inr a ↦ absurd (a.1 (omega arith)) ]
    ]

-- numbers below and above stay
pub stays-below : (n i : ℕ) → i < n → swapped n i ≡ i
stays-below n i less =
    elim (goes n i) as (λ _. swapped n i ≡ i) [
      | inl a ↦ absurd (omega (arith, a.0, less))
      | inr r ↦ elim r as (λ _. swapped n i ≡ i) [ inl a ↦ absurd (omega (arith, a.0, less)) | inr a ↦ a.2 ]
    ]

pub stays-above : (n i : ℕ) → n + 2 ≤ i → swapped n i ≡ i
stays-above n i past =
    elim (goes n i) as (λ _. swapped n i ≡ i) [
      | inl a ↦ absurd (omega (arith, a.0, past))
      | inr r ↦ elim r as (λ _. swapped n i ≡ i) [ inl a ↦ absurd (omega (arith, a.0, past)) | inr a ↦ a.2 ]
    ]

pub stays-within : (n i end : ℕ) → n + 2 ≤ end → i < end → swapped n i < end
stays-within n i end fits less =
    elim (goes n i) as (λ _. swapped n i < end) [
      | inl a ↦ omega (arith, a.1, fits)
      | inr r ↦ elim r as (λ _. swapped n i < end) [ inl a ↦ omega (arith, a.1, fits) | inr a ↦ omega (arith, a.2, less) ]
    ]

-- only the two neighbours change their order
pub turned : (n x y : ℕ) → x < y → swapped n y < swapped n x → (x ≡ n) × (y ≡ n + 1)
turned n x y less back =
    elim (goes n x) as (λ _. (x ≡ n) × (y ≡ n + 1)) [
      | inl a ↦ elim (goes n y) as (λ _. (x ≡ n) × (y ≡ n + 1)) [
        | inl b ↦ absurd (omega (arith, a.0, b.0, less))
        | inr s ↦ elim s as (λ _. (x ≡ n) × (y ≡ n + 1)) [
          | inl b ↦ (a.0, b.0)
          | inr b ↦ absurd (b.1 (omega (arith, a.0, a.1, b.2, less, back)))
        ]
      ]
      | inr r ↦ elim r as (λ _. (x ≡ n) × (y ≡ n + 1)) [
        | inl a ↦ elim (goes n y) as (λ _. (x ≡ n) × (y ≡ n + 1)) [
          | inl b ↦ absurd (omega (arith, a.0, b.0, less))
          | inr s ↦ elim s as (λ _. (x ≡ n) × (y ≡ n + 1)) [
            | inl b ↦ absurd (omega (arith, a.0, b.0, less))
            | inr b ↦ absurd (omega (arith, a.0, a.1, b.2, less, back))
          ]
        ]
        | inr a ↦ elim (goes n y) as (λ _. (x ≡ n) × (y ≡ n + 1)) [
          | inl b ↦ absurd (omega (arith, a.2, b.0, b.1, less, back))
          | inr s ↦ elim s as (λ _. (x ≡ n) × (y ≡ n + 1)) [
            | inl b ↦ absurd (a.0 (omega (arith, a.2, b.0, b.1, less, back)))
            | inr b ↦ absurd (omega (arith, a.2, b.2, less, back))
          ]
        ]
      ]
    ]
