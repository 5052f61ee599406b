-- What the locals end as, where a `&mut` to one of them is returned.
use Rattle.std.specs.Prelude.{ℕ, List, slice_set}
use Rattle.std.specs.Borrow.{Lends, Fml, MutBor}
use Rattle.walrus_items.specs.declared.local.Local.{Local}
use Rattle.walrus_items.specs.contracts.local.Local.{the_row as local_row}
use Rattle.walrus_items.specs.contracts.local.ModuleLocals.{the_row}

-- once the borrow r ends, the id has the last local written through r
abbrev pub lends_local : MutBor (List Local) → ℕ → MutBor Local → Fml
lends_local s id r = Lends the_row local_row s r (slice_set s.now id)
