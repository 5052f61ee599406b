-- Items that are claimed, as ids by the number of their space.
use Rattle.std.specs.Prelude.{◌≡◌, ◌↔◌, ◌⊎◌, ℕ, IsTrue, List, length, map}
use Rattle.std.specs.HashSet.{HashSet, keys}
use Rattle.walrus_roots.specs.declared.item.Item.{Item}
use Rattle.walrus_marks.specs.Marks.{is_claimed}

-- sets as lists
abbrev pub ids_of : {S : Type 0} → List (HashSet ℕ S) → List (List ℕ)
ids_of sets = map keys sets

-- this one and those before are claimed
pub record IsAdded (old : List (List ℕ)) (i : Item) (new : List (List ℕ)) : Type 0 where
  pub sized : length new ≡ length old
  pub are : (x : Item) → IsTrue (is_claimed new x) ↔ ((x ≡ i) ⊎ IsTrue (is_claimed old x))
