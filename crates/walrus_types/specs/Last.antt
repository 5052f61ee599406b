-- The last of the live types.
use Rattle.std.specs.Prelude.{ℕ, ◌≤◌}
use Rattle.walrus_type_arenas.specs.Table.{Table, IsLive}

-- the type lives, and none of a higher id does
pub record IsHighest (t : Table) (id : ℕ) : Type 0 where
  pub live : IsLive t id
  pub above : (other : ℕ) → IsLive t other → other ≤ id
