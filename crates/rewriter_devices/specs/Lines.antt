-- The text of a place list: a line for each pair, its two numbers in decimal.
use Rattle.std.specs.Prelude.{ℕ, List, ◌++◌, codes, decimal}
use Rattle.std.specs.List.{flat_map}

-- a line: the old place, a space, the new place, a line feed
abbrev pub line_of : ℕ × ℕ → List ℕ
line_of place = decimal place.0 ++ codes " " ++ decimal place.1 ++ codes "\n"

-- the lines of the places, in their order
abbrev pub lines_of : List (ℕ × ℕ) → List ℕ
lines_of places = flat_map line_of places
