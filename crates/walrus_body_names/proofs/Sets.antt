-- A sorted list without repeats is the set of what was sorted.
use Rattle.std.proofs.Common.{ℕ, ◌≡◌, Bool, List, [], ◌∷◌, cond, refl, sym, ap, subst, ◌∙◌}
use Rattle.std.specs.Prelude.{Contains, nat_eq}
use Rattle.std.specs.declared.cmp.Ordering.{Ordering}
use Rattle.std.specs.Ordering.{is_lt, nat_cmp}
use Rattle.std.specs.Cmp.{nat_cmp_total, unsigned_ties}
use Rattle.std.specs.List.{dedup, dedup_from}
use Rattle.std.specs.List.Retain.{DiffersFromLast, IsFiltered}
use Rattle.std.specs.List.Sorted.{IsPermutation, IsSorted, IsStrictlySortedBy}
use Rattle.std.proofs.lemmas.List.Filters.{dedup_is}
use Rattle.std.proofs.lemmas.List.Kept.{Contains-dedup_nat, Contains-from_dedup, IsStrictlySortedBy-dedup}
use Rattle.std.proofs.lemmas.List.Sorted.{Contains-permutation, IsPermutation-sym}
use Rattle.walrus_body_names.specs.Names.{AreSet}

module _ (E : ℕ → ℕ → Bool) (C : ℕ → ℕ → Ordering) (equal : (a b : ℕ) → E a b ≡ nat_eq a b) (ordered : (a b : ℕ) → C a b ≡ nat_cmp a b) where
  same_from : (k : ℕ) (xs : List ℕ) → dedup_from E k xs ≡ dedup_from nat_eq k xs
  same_from k [] = refl
  same_from k (x ∷ xs) =
      ap (λ b. cond b (dedup_from E k xs) (k ∷ dedup_from E x xs)) (equal x k) ∙ ap (λ z. cond (nat_eq x k) z (k ∷ dedup_from E x xs)) (same_from k xs)
      ∙ ap (λ z. cond (nat_eq x k) (dedup_from nat_eq k xs) (k ∷ z)) (same_from x xs)

  same_dedup : (xs : List ℕ) → dedup E xs ≡ dedup nat_eq xs
  same_dedup [] = refl
  same_dedup (x ∷ xs) = same_from x xs

  pub is_set : (ids sorted set : List ℕ) → IsPermutation ids sorted → IsSorted C sorted → IsFiltered (DiffersFromLast E) [] sorted set → AreSet ids set
  is_set ids sorted set moved up filtered =
      let is : set ≡ dedup nat_eq sorted = dedup_is E sorted set filtered ∙ same_dedup sorted in
      let rises : IsSorted nat_cmp sorted = λ k d from upto. sym (ap is_lt (ordered _ _)) ∙ up k d from upto in
      record {
        rising = subst (IsStrictlySortedBy nat_cmp) (sym is) (IsStrictlySortedBy-dedup nat_cmp_total unsigned_ties sorted rises);
        members = λ k. (
          (λ c. Contains-permutation sorted ids k (IsPermutation-sym ids sorted moved) (Contains-from_dedup nat_eq sorted k (subst (λ (z : List ℕ). Contains z k) is c))),
          (λ c. subst (λ (z : List ℕ). Contains z k) (sym is) (Contains-dedup_nat sorted k (Contains-permutation ids sorted k moved c))),
        );
      }
