-- What is picked for each item of a collection.
use Rattle.std.specs.Prelude.{ℕ, List, [], Option, Some, None}
use Rattle.std.specs.List.{flat_map}
use Rattle.walrus_arena.specs.Arena.{Arena, entries}

module _ {T X : Type 0} (picks : ℕ → T → List X) where
  -- what is picked for the item of this id, if it lives
  abbrev pub picked_at : ℕ → Option T → List X
  picked_at id None = []
  picked_at id (Some t) = picks id t

  -- what is picked for the live items, by rising id
  abbrev pub picked : Arena T → List X
  picked a = flat_map (λ e. picks e.0 e.1) (entries a)
