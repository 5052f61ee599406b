-- What a table ends as, where a `&mut` to one of its types is returned.
use Rattle.std.specs.Prelude.{ℕ, Some, slice_set}
use Rattle.std.specs.Borrow.{Lends, Fml, MutBor}
use Rattle.walrus_type_arenas.specs.walrus_type_index.walrus_items.declared.subtype.Type.{«Type» as TypeItem}
use Rattle.walrus_type_arenas.specs.walrus_type_index.walrus_items.contracts.subtype.Type.{the_row as type_row}
use Rattle.walrus_types.specs.contracts.table.ModuleTypes.{the_row}
use Rattle.walrus_type_arenas.specs.walrus_type_index.walrus_items.Items.{item_of}
use Rattle.walrus_type_arenas.specs.Table.{Table}

-- once the borrow r ends, the id has the last type written through r
abbrev pub lends_type : MutBor Table → ℕ → MutBor TypeItem → Fml
lends_type s id r = Lends the_row type_row s r (λ ty. record s.now { types = slice_set s.now.types id (Some (item_of ty)) })
