-- Groups, told by the type with which they begin.
use Rattle.std.specs.Prelude.{ℕ, ◌==◌, Bool, false, List, [], ◌∷◌, Option, Some, None}
use Rattle.walrus_items.specs.Items.{Group}

-- whether both lists begin, with one id
abbrev pub begin_alike : List ℕ → List ℕ → Bool
begin_alike [] others = false
begin_alike (id ∷ ids) [] = false
begin_alike (id ∷ ids) (other ∷ others) = id == other

-- whether both are there and are one
abbrev pub are_one : Option Group → Option Group → Bool
are_one None other = false
are_one (Some group) None = false
are_one (Some group) (Some other) = begin_alike group.types other.types
