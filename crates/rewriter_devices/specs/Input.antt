-- What is read of a source.
use Rattle.std.specs.Prelude.{ℕ, ◌+◌, ◌≤◌, ◌^◌, List, length, Option}
use Rattle.std.specs.Io.KnownBytes.{Consumes, IsAtEnd}

-- the bytes that were read: all that there were, or one more than an input may have
pub record IsInput (before after : Option (List ℕ)) (input : List ℕ) : Type 0 where
  pub read : Consumes before after input
  pub to_end : length input ≤ 2 ^ 30 → IsAtEnd after
  pub at_most : length input ≤ 2 ^ 30 + 1
