-- Lemmas: how many labels there are.
use Rattle.std.proofs.Common.{ℕ, suc, ◌-◌, ◌≡◌, List, [], ◌∷◌, length, refl, ap, arith}
use Rattle.walrus_body_steps.specs.walrus_body_nesting.Opens.{Open, ids_of}

ids_count : (os : List Open) → length (ids_of os) ≡ length os
ids_count [] = refl
ids_count (o ∷ os) = ap (λ (n : ℕ). suc n) (ids_count os)

pub outer_ids : (o : Open) (os : List Open) → length os ≡ length (ids_of (o ∷ os)) - 1
outer_ids o os = omega (arith, ids_count os)
