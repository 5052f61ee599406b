-- Lemmas: numbers of two digits, compared digit by digit.
use Rattle.std.specs.Prelude.{ℕ, ◌+◌, ◌*◌, ◌<◌, ◌≤◌, ◌≡◌, refl}
use Rattle.std.specs.declared.cmp.Ordering.TheVariants.{Less, Equal, Greater}
use Rattle.std.specs.Ordering.{nat_cmp, ordering_then}
use Rattle.std.proofs.Common.{arith, sym, ◌∙◌, suc, inl, inr}
use Rattle.std.proofs.lemmas.Bool.{cases_lt, lt-ltb}
use Rattle.std.proofs.Math.Nat.{mul-le-mul_left}
use Rattle.std.proofs.lemmas.Cmp.{tied_itself, nat_cmp_total}
use Rattle.std.proofs.lemmas.Bool.Decides.{nat_tests}

pub cmp-less : (a b : ℕ) → a < b → nat_cmp a b ≡ Less
cmp-less a b h = rw (lt-ltb a b h) refl

pub cmp-greater : (a b : ℕ) → b < a → nat_cmp a b ≡ Greater
cmp-greater a b h = grind (arith, nat_tests)

pub cmp-same : (a : ℕ) → nat_cmp a a ≡ Equal
cmp-same a = tied_itself nat_cmp_total a

cmp-plus : (a n p : ℕ) → nat_cmp (a + n) (a + p) ≡ nat_cmp n p
cmp-plus a n p = elim (cases_lt n p) as (λ _. nat_cmp (a + n) (a + p) ≡ nat_cmp n p) [
  | inl less ↦ cmp-less (a + n) (a + p) (omega arith) ∙ sym (cmp-less n p less)
  | inr most ↦ elim (cases_lt p n) as (λ _. nat_cmp (a + n) (a + p) ≡ nat_cmp n p) [
    | inl more ↦ cmp-greater (a + n) (a + p) (omega arith) ∙ sym (cmp-greater n p more)
    | inr least ↦ let same : n ≡ p = omega arith in rw same (cmp-same (a + p) ∙ sym (cmp-same p))
  ]
]

pub digits_cmp : (m k l n p : ℕ) → n < m → p < m → nat_cmp (m * k + n) (m * l + p) ≡ ordering_then (nat_cmp k l) (nat_cmp n p)
digits_cmp m k l n p small other = elim (cases_lt k l) as (λ _. nat_cmp (m * k + n) (m * l + p) ≡ ordering_then (nat_cmp k l) (nat_cmp n p)) [
  | inl less ↦
      let step : m * suc k ≤ m * l = mul-le-mul_left m less in
      rw (cmp-less k l less) (cmp-less (m * k + n) (m * l + p) (omega arith))
  | inr most ↦ elim (cases_lt l k) as (λ _. nat_cmp (m * k + n) (m * l + p) ≡ ordering_then (nat_cmp k l) (nat_cmp n p)) [
    | inl more ↦
        let step : m * suc l ≤ m * k = mul-le-mul_left m more in
        rw (cmp-greater k l more) (cmp-greater (m * k + n) (m * l + p) (omega arith))
    | inr least ↦
        let same : k ≡ l = omega arith in
        rw (same, cmp-same l) (cmp-plus (m * l) n p)
  ]
]
