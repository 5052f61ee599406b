-- A list whose first item that passes a test is edited, or which has one more where none passes.
use Rattle.std.proofs.Common.{◌≡◌, ℕ, zero, suc, ◌+◌, ◌<◌, ◌≤◌, Bool, true, false, List, [], ◌∷◌, ◌++◌, length, map, get_or, slice_set, position, Option, Some, None, refl, ap, arith, inl, inr}
use Rattle.std.specs.List.{position_or_len}
use Rattle.std.proofs.lemmas.Bool.{cases_Bool, cases_lt, lt-ltb}
use Rattle.std.proofs.lemmas.List.Quantifiers.{position-Some}

-- where an item that passes comes first it is edited, else what is behind it; to a list of none that passes, the last one is added
pub record Edits {X Y : Type 0} (see : X → Y) (test : X → Bool) (last : Y) (edit : Y → Y) (f : List Y → List Y) : Type 0 where
  pub none : f [] ≡ last ∷ []
  pub here : (x : X) (ys : List Y) → test x ≡ true → f (see x ∷ ys) ≡ edit (see x) ∷ ys
  pub there : (x : X) (ys : List Y) → test x ≡ false → f (see x ∷ ys) ≡ see x ∷ f ys

module _ {X Y : Type 0} (see : X → Y) (test : X → Bool) (last : Y) (edit : Y → Y) (f : List Y → List Y) (e : Edits see test last edit f) where
  at_index : (xs : List X) (i : ℕ) (new d : X) → i < length xs → test (get_or xs i d) ≡ true → ((k : ℕ) → k < i → test (get_or xs k d) ≡ false)
      → see new ≡ edit (see (get_or xs i d)) → map see (slice_set xs i new) ≡ f (map see xs)
  at_index [] i new d less passes before is = absurd (omega arith)
  at_index (x ∷ xs) zero new d less passes before is = rw (e.here x (map see xs) passes, is) refl
  at_index (x ∷ xs) (suc i) new d less passes before is =
      rw (e.there x (map see xs) (before 0 (omega arith)))
      (ap (λ ys. see x ∷ ys) (at_index xs i new d (omega arith) passes (λ k under. before (suc k) (omega arith)) is))

  -- the first item that passes is exchanged for one that is seen as it is edited
  pub edited : (xs : List X) (i : ℕ) (new old : X) → position test xs ≡ Some i → get_or xs i old ≡ old → see new ≡ edit (see old)
      → map see (slice_set xs i new) ≡ f (map see xs)
  edited xs i new old found at is =
      let p = position-Some test xs i old found in
      at_index xs i new old p.0 p.1 p.2 (rw at is)

  at_end : (xs : List X) (new : X) → length xs ≤ position_or_len test xs → see new ≡ last → map see (xs ++ new ∷ []) ≡ f (map see xs)
  at_end [] new past is = rw (e.none, is) refl
  at_end (x ∷ xs) new past is = elim (cases_Bool (test x)) [
    | inl passes ↦ let none : suc (length xs) ≤ 0 = rw passes at past in absurd (omega arith)
    | inr fails ↦
        let rest : suc (length xs) ≤ 1 + position_or_len test xs = rw fails at past in
        rw (e.there x (map see xs) fails) (ap (λ ys. see x ∷ ys) (at_end xs new (omega arith) is))
  ]

  -- one that is seen as the last is added, where none passes
  pub added : (xs : List X) (new : X) → position test xs ≡ None → see new ≡ last → map see (xs ++ new ∷ []) ≡ f (map see xs)
  added xs new none is = elim (cases_lt (position_or_len test xs) (length xs)) [
    | inl less ↦ let some : ◌≡◌ {A = Option ℕ} (Some (position_or_len test xs)) None = rw (lt-ltb (position_or_len test xs) (length xs) less) at none in absurd cc
    | inr past ↦ at_end xs new past is
  ]
