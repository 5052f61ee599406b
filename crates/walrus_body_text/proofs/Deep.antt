-- How deep sequences lie, once one more is entered.
use Rattle.std.proofs.Common.{ℕ, zero, suc, ◌<◌, ◌≡◌, List, [], ◌∷◌, length, Some, refl, ap, arith, inl, inr, ◌∙◌}
use Rattle.std.specs.Prelude.{slice_get, slice_set}
use Rattle.walrus_tree.specs.Trees.{Has}
use Rattle.walrus_body_text.specs.Doing.{AreDeep}

other_stays : (ds : List ℕ) (k j v : ℕ) → (j ≡ k → ⊥) → slice_get (slice_set ds k v) j ≡ slice_get ds j
other_stays [] k j v h = refl
other_stays (d ∷ ds) zero zero v h = absurd (h refl)
other_stays (d ∷ ds) zero (suc j) v h = refl
other_stays (d ∷ ds) (suc k) zero v h = refl
other_stays (d ∷ ds) (suc k) (suc j) v h = other_stays ds k j v (λ e. h (ap suc e))

set_here : (ds : List ℕ) (k v : ℕ) → k < length ds → slice_get (slice_set ds k v) k ≡ Some v
set_here [] k v l = absurd (omega (arith, l))
set_here (d ∷ ds) zero v l = refl
set_here (d ∷ ds) (suc k) v l = set_here ds k v (omega (arith, l))

deep_others : (ds around : List ℕ) (k v : ℕ) → (Has around k → ⊥) → AreDeep ds around → AreDeep (slice_set ds k v) around
deep_others ds [] k v not h = tt
deep_others ds (j ∷ js) k v not h = (other_stays ds k j v (λ e. not (inl e)) ∙ h.0, deep_others ds js k v (λ g. not (inr g)) h.1)

pub deep_entered : (ds around : List ℕ) (k : ℕ) → k < length ds → (Has around k → ⊥) → AreDeep ds around → AreDeep (slice_set ds k (length around)) (k ∷ around)
deep_entered ds around k l not h = (set_here ds k (length around) l, deep_others ds around k (length around) not h)
