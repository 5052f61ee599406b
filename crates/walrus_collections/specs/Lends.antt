-- What a collection ends as, where a `&mut` to one of its items is returned.
use Rattle.std.specs.Prelude.{ℕ}
use Rattle.std.specs.Borrow.{Lends, Fml, RattleType, MutBor}
use Rattle.walrus_arena.specs.Arena.{Arena, with_item}
use Rattle.walrus_collections.specs.contracts.collection.Collection.{the_row}

-- once the borrow r ends, the id has the last item written through r
abbrev pub lends_item : (T S : RattleType) → MutBor (Arena T.Denot) → ℕ → MutBor T.Denot → Fml
lends_item T S s id r = Lends (the_row T S) T s r (with_item s.now id)
