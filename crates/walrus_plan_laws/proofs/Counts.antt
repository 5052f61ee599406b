-- Lemmas: what a list has once, a permutation of it has once.
use Rattle.std.specs.Prelude.{ℕ, zero, suc, ◌<◌, ◌≤◌, ◌≡◌, ◌==◌, Bool, List, [], ◌∷◌, refl, if◌then◌else◌}
use Rattle.std.specs.List.{sum_by}
use Rattle.std.specs.List.Sorted.{IsPermutation}
use Rattle.std.proofs.Common.{ap, arith, inl, inr}
use Rattle.std.proofs.lemmas.Bool.{cases_eq, eq-eqb, ne_eqb}
use Rattle.std.proofs.lemmas.List.Sorted.{sum_by-IsPermutation}
use Rattle.std.proofs.lemmas.List.Sums.{sum_by-cons}
use Rattle.std.proofs.lemmas.Option.{none-some, same_Some}
use Rattle.walrus_plan_laws.proofs.Lists.{Apart, In, RiseFrom}

abbrev hit : ℕ → ℕ → ℕ
hit k n = if n == k then 1 else 0

hit_it : (k n : ℕ) → n ≡ k → hit k n ≡ 1
hit_it k n e = ap (λ (b : Bool). if b then 1 else 0) (eq-eqb n k e)

hit_other : (k n : ℕ) → (n ≡ k → ⊥) → hit k n ≡ 0
hit_other k n e = ap (λ (b : Bool). if b then 1 else 0) (ne_eqb n k e)

abbrev hits : ℕ → List ℕ → ℕ
hits k ns = sum_by (hit k) ns

above_none : (k j : ℕ) (ns : List ℕ) → k < j → RiseFrom j ns → hits k ns ≡ 0
above_none k j [] lt h = refl
above_none k j (n ∷ ns) lt h =
    let low : j ≤ n = h.0 in
    let first = hit_other k n (λ e. omega (arith, e, lt, low)) in
    let rest = above_none k (suc n) ns (omega (arith, lt, low)) h.1 in
    let all = sum_by-cons (hit k) n ns in
    omega (arith, first, rest, all)

rising_once : (k j : ℕ) (ns : List ℕ) → RiseFrom j ns → hits k ns ≤ 1
rising_once k j [] h = omega arith
rising_once k j (n ∷ ns) h = elim (cases_eq n k) as (λ _. hits k (n ∷ ns) ≤ 1) [
  | inl e ↦
      let first = hit_it k n e in
      let rest = above_none k (suc n) ns (omega (arith, e)) h.1 in
      let all = sum_by-cons (hit k) n ns in
      omega (arith, first, rest, all)
  | inr differs ↦
      let first = hit_other k n differs in
      let rest = rising_once k (suc n) ns h.1 in
      let all = sum_by-cons (hit k) n ns in
      omega (arith, first, rest, all)
]

in_hits : (ns : List ℕ) (n : ℕ) → In ns n → 1 ≤ hits n ns
in_hits [] n (i, e) = absurd (none-some n e)
in_hits (m ∷ ns) n (zero, e) = let first = hit_it n m (same_Some m n e) in let all = sum_by-cons (hit n) m ns in omega (arith, first, all)
in_hits (m ∷ ns) n (suc i, e) = let rest = in_hits ns n (i, e) in let all = sum_by-cons (hit n) m ns in omega (arith, rest, all)

once_apart : (ns : List ℕ) → ((k : ℕ) → hits k ns ≤ 1) → Apart ns
once_apart [] h = tt
once_apart (n ∷ ns) h = (
  λ at.
      let first = hit_it n n refl in
      let rest = in_hits ns n at in
      let all = sum_by-cons (hit n) n ns in
      let most = h n in
      absurd (omega (arith, first, rest, all, most)),
  once_apart ns (λ k. let all = sum_by-cons (hit k) n ns in let most = h k in omega (arith, all, most)),
)

pub moved_apart : (j : ℕ) (xs ys : List ℕ) → RiseFrom j xs → IsPermutation xs ys → Apart ys
moved_apart j xs ys h moved = once_apart ys (λ k. let once = rising_once k j xs h in let same = sum_by-IsPermutation (hit k) xs ys moved in omega (arith, once, same))
