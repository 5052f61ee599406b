-- What an arena ends as, where a `&mut` to one of its items is returned.
use Rattle.std.specs.Prelude.{ℕ, Option}
use Rattle.std.specs.Borrow.{Lends, LendsIf, Fml, RattleType, MutBor}
use Rattle.walrus_arena.specs.Arena.{Arena, with_item}
use Rattle.walrus_arena.specs.contracts.arena.TombstoneArena.{the_row}

module _ (T S : RattleType) (s : MutBor (Arena T.Denot)) (id : ℕ) where
  -- once the borrow r ends, the id has the last item written through r
  abbrev pub lends_item : MutBor T.Denot → Fml
  lends_item r = Lends (the_row T S) T s r (with_item s.now id)

  -- the same where r is a reference, and at `None` the arena stays as it is
  abbrev pub lends_get : Option (MutBor T.Denot) → Fml
  lends_get r = LendsIf (the_row T S) T s r (with_item s.now id) s.now
