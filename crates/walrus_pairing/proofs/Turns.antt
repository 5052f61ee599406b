-- Lemmas: ids that are numbered in turn have the numbers 0, 1, ..
use Rattle.std.specs.Prelude.{ℕ, zero, suc, ◌+◌, ◌≡◌, ◌==◌, ◌⊎◌, true, List, [], ◌∷◌, ◌++◌, length, slice_get, Some, None, refl}
use Rattle.std.proofs.Common.{ap, sym, subst, ◌∙◌, arith, inl, inr}
use Rattle.std.proofs.lemmas.Bool.{cases_Bool, eqb-true, eq-eqb}
use Rattle.std.proofs.lemmas.List.{append_assoc}
use Rattle.walrus_index_maps.specs.Maps.{Numbering, unnumbered, next_numbered}
use Rattle.walrus_pairing.specs.Turns.{numbered_in_turn, AreNew, IsInTurn, TurnsNumber}

-- what stands at a place of a list with one more
last_at : (xs : List ℕ) (x : ℕ) → slice_get (xs ++ x ∷ []) (length xs) ≡ Some x
last_at [] x = refl
last_at (y ∷ ys) x = last_at ys x

front_at : (xs : List ℕ) (x n y : ℕ) → slice_get xs n ≡ Some y → slice_get (xs ++ x ∷ []) n ≡ Some y
front_at [] x n y e = absurd cc
front_at (z ∷ zs) x zero y e = e
front_at (z ∷ zs) x (suc n) y e = front_at zs x n y e

at_either : (xs : List ℕ) (x n y : ℕ) → slice_get (xs ++ x ∷ []) n ≡ Some y → (slice_get xs n ≡ Some y) ⊎ ((n ≡ length xs) × (x ≡ y))
at_either [] x zero y e = inr (refl, cc)
at_either [] x (suc n) y e = absurd cc
at_either (z ∷ zs) x zero y e = inl e
at_either (z ∷ zs) x (suc n) y e = elim (at_either zs x n y e) [
  | inl h ↦ inl h
  | inr h ↦ inr (ap (λ (k : ℕ). suc k) h.0, h.1)
]

longer : (xs : List ℕ) (x : ℕ) → length (xs ++ x ∷ []) ≡ length xs + 1
longer [] x = refl
longer (y ∷ ys) x = let h = longer ys x in omega (arith, h)

-- one more
module _ (ids : List ℕ) (m : Numbering) (h : IsInTurn ids m) (id : ℕ) (fresh : m.number id ≡ None) where
  there : (other n : ℕ) → (next_numbered id m).number other ≡ Some n → slice_get (ids ++ id ∷ []) n ≡ Some other
  there other n e = elim (cases_Bool (other == id)) [
    | inl is ↦
        let given : m.given ≡ n = (let w = (rw is at e) in cc) in
        let place : length ids ≡ n = sym h.given ∙ given in
        subst (λ (k : ℕ). slice_get (ids ++ id ∷ []) k ≡ Some other) place (last_at ids id ∙ ap Some (sym (eqb-true other id is)))
    | inr out ↦ front_at ids id n other ((h.numbers other n).0 (rw out at e))
  ]

  back : (other n : ℕ) → slice_get (ids ++ id ∷ []) n ≡ Some other → (next_numbered id m).number other ≡ Some n
  back other n e = elim (at_either ids id n other e) [
    | inl earlier ↦ elim (cases_Bool (other == id)) [
      | inl is ↦
          let had : m.number id ≡ Some n = subst (λ (k : ℕ). m.number k ≡ Some n) (eqb-true other id is) ((h.numbers other n).1 earlier) in
          absurd cc
      | inr out ↦ rw out ((h.numbers other n).1 earlier)
    ]
    | inr last ↦
        let same : (other == id) ≡ true = eq-eqb other id (sym last.1) in
        rw same (ap Some (h.given ∙ sym last.0))
  ]

  next : IsInTurn (ids ++ id ∷ []) (next_numbered id m)
  next = record {
    given = (let a = h.given in let b = longer ids id in let sum : m.given + 1 ≡ length (ids ++ id ∷ []) = omega (arith, a, b) in sum);
    numbers = λ other n. (there other n, back other n);
  }

all_next : (more ids : List ℕ) (m : Numbering) → IsInTurn ids m → AreNew more m → IsInTurn (ids ++ more) (numbered_in_turn more m)
all_next [] ids m h fresh = subst (λ (l : List ℕ). IsInTurn l m) (sym (nothing_more ids)) h
  where
    nothing_more : (xs : List ℕ) → xs ++ [] ≡ xs
    nothing_more [] = refl
    nothing_more (x ∷ xs) = ap (λ (l : List ℕ). x ∷ l) (nothing_more xs)
all_next (id ∷ more) ids m h fresh =
    subst (λ (l : List ℕ). IsInTurn l (numbered_in_turn more (next_numbered id m))) (append_assoc ids (id ∷ []) more)
    (all_next more (ids ++ id ∷ []) (next_numbered id m) (next ids m h id fresh.0) fresh.1)

none : IsInTurn [] unnumbered
none = record { given = refl; numbers = λ id n. ((λ e. absurd cc), (λ e. absurd cc)) }

pub turns_number : TurnsNumber
turns_number ids fresh = all_next ids [] unnumbered none fresh
