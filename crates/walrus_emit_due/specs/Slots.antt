-- The item of a number.
use Rattle.std.specs.Prelude.{ℕ, List, Option, None, slice_index_or}

-- while it lives
abbrev pub live_at : {A : Type 0} → List (Option A) → ℕ → Option A
live_at slots id = slice_index_or slots id None
