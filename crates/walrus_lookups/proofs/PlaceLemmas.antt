-- What a search among rising locations finds.
use Rattle.std.proofs.Common.{◌≡◌, ◌≤◌, ◌<◌, ◌==◌, ℕ, zero, suc, true, false, List, [], ◌∷◌, length, get_or, Option, Some, None, Contains, find, refl, ap, inl, inr, arith}
use Rattle.std.specs.Prelude.{IfSome, nat_lt, slice_get}
use Rattle.std.specs.List.Sorted.{IsPartitionPoint}
use Rattle.std.proofs.lemmas.Bool.{cases_Bool, eqb-true, eqb-false, ltb-true, ltb-false, ne_eqb}
use Rattle.walrus_instr.specs.declared.seq.InstrLocId.{InstrLocId}
use Rattle.walrus_lookups.specs.Places.{Rises, place_at, place_of}

abbrev key : InstrLocId × ℕ → ℕ
key e = e.0.0

none_above : (x : ℕ) (map : List (InstrLocId × ℕ)) → ((k : ℕ) (d : InstrLocId × ℕ) → k < length map → x < key (get_or map k d)) → find (λ (e : InstrLocId × ℕ). e.0.0 == x) map ≡ None
none_above x [] above = refl
none_above x (e ∷ map) above =
    let first = above 0 e (omega arith) in
    rw (ne_eqb e.0.0 x (λ same. omega (arith, same, first))) (none_above x map (λ k d below. above (suc k) d (omega (arith, below))))

module _ (at : InstrLocId) where
  abbrev x : ℕ
  x = at.0

  from_here : (e : InstrLocId × ℕ) (map : List (InstrLocId × ℕ)) → Rises (e ∷ map) → x ≤ key e → place_at at (Some e) ≡ place_of at (e ∷ map)
  from_here e map rises le = elim (cases_Bool (e.0.0 == x)) as (λ _. place_at at (Some e) ≡ place_of at (e ∷ map)) [
    | inl is ↦ rw is refl
    | inr not ↦
        let other = eqb-false e.0.0 x not in
        let none = none_above x map (λ k d below. (let up = rises 0 (suc k) d (omega arith) (omega (arith, below)) in omega (arith, le, other, up))) in
        rw (not, none) refl
  ]

  pub found_at : (map : List (InstrLocId × ℕ)) (i : ℕ) → Rises map → ((k : ℕ) (d : InstrLocId × ℕ) → k < i → i ≤ length map → key (get_or map k d) < x) → ((k : ℕ) (d : InstrLocId × ℕ) → i ≤ k → k < length map → x ≤ key (get_or map k d)) → i ≤ length map
      → place_at at (slice_get map i) ≡ place_of at map
  found_at [] i rises before after within = refl
  found_at (e ∷ map) zero rises before after within = from_here e map rises (after 0 e (omega arith) (omega arith))
  found_at (e ∷ map) (suc i) rises before after within =
      let lower = before 0 e (omega arith) within in
      rw (ne_eqb e.0.0 x (λ same. omega (arith, same, lower)))
      (found_at map i (λ a b d le below. rises (suc a) (suc b) d (omega (arith, le)) (omega (arith, below)))
      (λ k d below inside. before (suc k) d (omega (arith, below)) (omega (arith, inside))) (λ k d le below. after (suc k) d (omega (arith, le)) (omega (arith, below))) (omega (arith, within)))

  pub point_found : (map : List (InstrLocId × ℕ)) (i : ℕ) → Rises map → i ≤ length map → IsPartitionPoint (λ (e : InstrLocId × ℕ). nat_lt e.0.0 x ≡ true) (λ (e : InstrLocId × ℕ). nat_lt e.0.0 x ≡ false) map i → place_at at (slice_get map i) ≡ place_of at map
  point_found map i rises within point =
      found_at map i rises (λ k d below inside. ltb-true (key (get_or map k d)) x (point.0 k d (omega arith) below)) (λ k d le below. ltb-false (key (get_or map k d)) x (point.1 k d le below)) within

  -- what is found is there
  kept : (e : InstrLocId × ℕ) (map : List (InstrLocId × ℕ)) (place : ℕ) → (Contains map (at, place)) → Contains (e ∷ map) (at, place)
  kept e map place c = (suc c.0, omega (arith, c.1), c.2)

  one_there : (e : InstrLocId × ℕ) (map : List (InstrLocId × ℕ)) → IfSome (place_at at (Some e)) (λ place. Contains (e ∷ map) (at, place))
  one_there e map = elim (cases_Bool (e.0.0 == x)) as (λ _. IfSome (place_at at (Some e)) (λ place. Contains (e ∷ map) (at, place))) [
    | inl is ↦ rw is (0, omega arith, ap (λ (n : ℕ). (record { 0 = n }, e.1)) (eqb-true e.0.0 x is))
    | inr not ↦ rw not tt
  ]

  more_there : (o : Option ℕ) (e : InstrLocId × ℕ) (map : List (InstrLocId × ℕ)) → IfSome o (λ place. Contains map (at, place)) → IfSome o (λ place. Contains (e ∷ map) (at, place))
  more_there None e map h = tt
  more_there (Some place) e map h = kept e map place h

  pub is_there : (map : List (InstrLocId × ℕ)) (i : ℕ) → IfSome (place_at at (slice_get map i)) (λ place. Contains map (at, place))
  is_there [] i = tt
  is_there (e ∷ map) zero = one_there e map
  is_there (e ∷ map) (suc i) = more_there (place_at at (slice_get map i)) e map (is_there map i)
