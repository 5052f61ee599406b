-- How the last place of each location is found: pairs of one location stand together, the last place last.
use Rattle.std.specs.Prelude.{ℕ, ◌+◌, ◌==◌, Bool, true, not, List, [], ◌∷◌, map, if◌then◌else◌}
use Rattle.std.specs.Ordering.{nat_cmp, ordering_then}
use Rattle.std.specs.declared.cmp.Ordering.{Ordering}
use Rattle.walrus_instr.specs.declared.seq.InstrLocId.{InstrLocId}

abbrev pub Pair : Type 0
Pair = ℕ × ℕ

-- by location, then by place
abbrev pub pair_cmp : Pair → Pair → Ordering
pair_cmp x y = ordering_then (nat_cmp x.0 y.0) (nat_cmp x.1 y.1)

abbrev pub ends : List (ℕ × ℕ) → Bool
ends [] = true
ends (p ∷ []) = true
ends (p ∷ q ∷ ps) = not (q.0 == p.0)

abbrev pub lasts : List (ℕ × ℕ) → List (ℕ × ℕ)
lasts [] = []
lasts (p ∷ ps) = if ends (p ∷ ps) then p ∷ lasts ps else lasts ps

abbrev pub placed : ℕ → ℕ × ℕ → InstrLocId × ℕ
placed start p = (record { 0 = p.0 }, start + p.1)

abbrev pub all_placed : ℕ → List (ℕ × ℕ) → List (InstrLocId × ℕ)
all_placed start pairs = map (placed start) (lasts pairs)
