-- A list whose last item may be kept apart.
use Rattle.std.specs.Prelude.{List, [], ◌∷◌, ◌++◌, Option, Some, None}

-- what is kept apart is the last
abbrev pub with_next : {A : Type 0} → List A → Option A → List A
with_next rest (Some x) = rest ++ x ∷ []
with_next rest None = rest
