-- Ids that follow each other, and indices of which only some name a local.
use Rattle.std.specs.Prelude.{ℕ, zero, suc, ◌≤◌, ◌==◌, List, [], ◌∷◌, if◌then◌else◌}

-- so many numbers from this one on
abbrev pub run_from : ℕ → ℕ → List ℕ
run_from first zero = []
run_from first (suc n) = first ∷ run_from (suc first) n

-- the id of what names no local: no local has it
abbrev pub nowhere : ℕ
nowhere = 4294967295

-- the id that the index names, where these name one each
abbrev pub named_in : ℕ → List (ℕ × ℕ) → ℕ
named_in index [] = nowhere
named_in index (x ∷ xs) = if x.0 == index then x.1 else named_in index xs

-- what so many indices name, from this one on
abbrev pub spread : ℕ → ℕ → List (ℕ × ℕ) → List ℕ
spread index zero named = []
spread index (suc n) named = named_in index named ∷ spread (suc index) n named

-- the indices rise, from this one on, and are below that one
abbrev pub IsRising : ℕ → ℕ → List (ℕ × ℕ) → Type 0
IsRising least past [] = least ≤ past
IsRising least past (x ∷ xs) = (least ≤ x.0) × IsRising (suc x.0) past xs
