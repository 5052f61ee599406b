-- Ids that are numbered in turn.
use Rattle.std.specs.Prelude.{ℕ, ◌≡◌, ◌↔◌, List, [], ◌∷◌, length, slice_get, Some, None}
use Rattle.walrus_index_maps.specs.Maps.{Numbering, unnumbered, next_numbered}

-- each has the next number
abbrev pub numbered_in_turn : List ℕ → Numbering → Numbering
numbered_in_turn [] m = m
numbered_in_turn (id ∷ ids) m = numbered_in_turn ids (next_numbered id m)

-- none has one when its turn comes
abbrev pub AreNew : List ℕ → Numbering → Type 0
AreNew [] m = Unit {0}
AreNew (id ∷ ids) m = (m.number id ≡ None) × AreNew ids (next_numbered id m)

-- the ids of a list have the numbers 0, 1, .., and no other id has one
pub record IsInTurn (ids : List ℕ) (m : Numbering) : Type 0 where
  pub given : m.given ≡ length ids
  pub numbers : (id n : ℕ) → (m.number id ≡ Some n) ↔ (slice_get ids n ≡ Some id)

abbrev pub TurnsNumber : Type 0
TurnsNumber = (ids : List ℕ) → AreNew ids unnumbered → IsInTurn ids (numbered_in_turn ids unnumbered)
