-- Lists by rising numbers of their items.
use Rattle.std.specs.Prelude.{ℕ, List, [], ◌∷◌, if◌then◌else◌, nat_lt}

module _ {X : Type 0} (number : X → ℕ) where
  -- in front of those of no smaller number
  abbrev pub placed : X → List X → List X
  placed x [] = x ∷ []
  placed x (y ∷ ys) = if nat_lt (number y) (number x) then y ∷ placed x ys else x ∷ y ∷ ys

  -- those of one number stay in their order
  abbrev pub rising : List X → List X
  rising [] = []
  rising (x ∷ xs) = placed x (rising xs)
