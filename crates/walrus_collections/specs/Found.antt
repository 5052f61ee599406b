-- What a look-up finds is live.
use Rattle.std.specs.Prelude.{◌≡◌, ℕ, ◌+◌, Bool, true, false, List, [], ◌∷◌, find, Option, Some, None, slice_index_or}
use Rattle.std.proofs.Common.{suc, arith, ap, subst, if◌then◌else◌}
use Rattle.std.proofs.lemmas.Option.{some_pair_parts}
use Rattle.walrus_arena.specs.Arena.{Arena, item_at, entries_from}
use Rattle.walrus_collections.specs.LookUps.{lowest}

module _ {T : Type 0} (test : T → Bool) where
  found_from : (first : ℕ) (slots : List (Option T)) (id : ℕ) (item : T) → find (λ (e : ℕ × T). test e.1) (entries_from first slots) ≡ Some (id, item)
      → (i : ℕ) × (first + i ≡ id) × (slice_index_or slots i None ≡ Some item)
  found_from first [] id item e = absurd cc
  found_from first (None ∷ rest) id item e = let h = found_from (first + 1) rest id item e in (suc h.0, omega (arith, h.1), h.2)
  found_from first (Some x ∷ rest) id item e = by_test (test x) e (λ h. found_from (first + 1) rest id item h)
    where
      by_test : (b : Bool) → (if b then Some (first, x) else find (λ (d : ℕ × T). test d.1) (entries_from (first + 1) rest)) ≡ Some (id, item)
          → (find (λ (d : ℕ × T). test d.1) (entries_from (first + 1) rest) ≡ Some (id, item) → (i : ℕ) × (first + 1 + i ≡ id) × (slice_index_or rest i None ≡ Some item))
          → (i : ℕ) × (first + i ≡ id) × (slice_index_or (Some x ∷ rest) i None ≡ Some item)
      by_test true h later = let parts = some_pair_parts first id x item h in (0, omega (arith, parts.0), ap Some parts.1)
      by_test false h later = let l = later h in (suc l.0, omega (arith, l.1), l.2)

  pub found_live : (a : Arena T) (id : ℕ) (item : T) → lowest test a ≡ Some (id, item) → item_at a id ≡ Some item
  found_live a id item e = let h = found_from 0 a.slots id item e in let same : h.0 ≡ id = omega (arith, h.1) in subst (λ (i : ℕ). slice_index_or a.slots i None ≡ Some item) same h.2
