-- Lemmas: what lists hold.
use Rattle.std.specs.Prelude.{ℕ, zero, suc, ◌<◌, ◌≡◌, ◌⊎◌, List, [], ◌∷◌, ◌++◌, All, AllPairs, Contains, length, map, Option, Some, slice_get, slice_index_or, refl}
use Rattle.std.proofs.Common.{subst, inl, inr, arith}
use Rattle.std.proofs.lemmas.List.Elements.{Contains-append_cases, Contains-get_or}
use Rattle.std.proofs.lemmas.List.Kept.{AllPairs-cons}

pub some_is : {A : Type 0} (x y : A) → (let some : A → Option A = λ z. Some z in some x ≡ some y) → x ≡ y
some_is x y e = cc

module _ {X : Type 0} where
  pub nothing : {P : Type 0} (x : X) → Contains [] x → P
  nothing x c = let lt = c.1 in absurd (omega (arith, lt))

  at_cases : (x y : X) (xs : List X) (k : ℕ) → k < length (x ∷ xs) → slice_index_or (x ∷ xs) k y ≡ y → (x ≡ y) ⊎ Contains xs y
  at_cases x y xs zero lt e = inl e
  at_cases x y xs (suc k) lt e = inr (k, omega (arith, lt), e)

  pub one_alone : (x y : X) → Contains (x ∷ []) y → x ≡ y
  one_alone x y c = elim (at_cases x y [] c.0 c.1 c.2) as (λ _. x ≡ y) [
    | inl is ↦ is
    | inr none ↦ nothing y none
  ]

  -- what is so of all that a list holds
  pub all_in : (P : X → Type 0) (xs : List X) → ((x : X) → Contains xs x → P x) → All P xs
  all_in P xs h = λ k d lt. h (slice_index_or xs k d) (Contains-get_or xs k d lt)

  -- a list behind another
  pub pairs_joined : (R : X → X → Type 0) (xs ys : List X) → AllPairs R xs → AllPairs R ys → ((x y : X) → Contains xs x → Contains ys y → R x y) → AllPairs R (xs ++ ys)
  pairs_joined R [] ys h k cross = k
  pairs_joined R (x ∷ xs) ys h k cross =
      let first : (y : X) → Contains xs y → R x y = λ y c. subst (λ z. R x z) c.2 (h 0 (suc c.0) y (omega arith) (let lt = c.1 in omega (arith, lt))) in
      let head : (y : X) → Contains (xs ++ ys) y → R x y = λ y c. elim (Contains-append_cases xs ys y c) as (λ _. R x y) [
        | inl here ↦ first y here
        | inr later ↦ cross x y (0, omega arith, refl) later
      ] in
      let rest = pairs_joined R xs ys (λ i j d before inside. h (suc i) (suc j) d (omega (arith, before)) (omega (arith, inside))) k (λ y z c. cross y z (suc c.0, (let lt = c.1 in omega (arith, lt)), c.2)) in
      AllPairs-cons R x (xs ++ ys) (all_in (R x) (xs ++ ys) head) rest

-- ---- of mapped lists

pub map_at : {A B : Type 0} (f : A → B) (xs : List A) (i : ℕ) (x : A) → slice_get xs i ≡ Some x → slice_get (map f xs) i ≡ Some (f x)
map_at f [] i x e = absurd cc
map_at f (y ∷ xs) zero x e = let is : y ≡ x = some_is y x e in λ k. Some (f (is k))
map_at f (y ∷ xs) (suc i) x e = map_at f xs i x e

pub map_back : {A B : Type 0} (f : A → B) (xs : List A) (i : ℕ) (y : B) → slice_get (map f xs) i ≡ Some y → (x : A) × (slice_get xs i ≡ Some x) × (f x ≡ y)
map_back f [] i y e = absurd cc
map_back f (x ∷ xs) zero y e = (x, refl, some_is (f x) y e)
map_back f (x ∷ xs) (suc i) y e = map_back f xs i y e
