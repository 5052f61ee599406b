-- What a call puts behind the output.
use Rattle.std.specs.Prelude.{ℕ, ◌≡◌, List, ◌++◌, Result, MatchResult}
use Rattle.std.specs.declared.alloc.AllocError.{AllocError}

-- what was there stands at the front
pub record Keeps (old new : List ℕ) : Type 0 where
  pub more : List ℕ
  pub behind : new ≡ old ++ more

-- these bytes were put behind what was there; or memory was refused part of the way
abbrev pub Appends : List ℕ → List ℕ → List ℕ → Result (Unit {0}) AllocError → Type 0
Appends bytes old new result = MatchResult result (λ _. new ≡ old ++ bytes) (λ _. Keeps old new)
