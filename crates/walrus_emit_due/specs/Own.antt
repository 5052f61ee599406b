-- A section whose entries stand for those items of a space that the module has itself.
use Rattle.std.specs.Prelude.{ℕ, Bool, List, [], ◌∷◌, filter, Option, Some, None}
use Rattle.walrus_emit_parts.specs.Due.{Due, entries}

-- what lives, by rising number
abbrev pub live : {A : Type 0} → List (Option A) → List A
live [] = []
live (None ∷ slots) = live slots
live (Some x ∷ slots) = x ∷ live slots

-- the entries of those that have one
abbrev pub own_section : {A : Type 0} → ℕ → (A → Bool) → (A → Due) → List (Option A) → Due
own_section id is_own due slots = entries id due (filter is_own (live slots))
