-- What a type ends as, where a `&mut` to its form is returned.
use Rattle.std.specs.Borrow.{Lends, Fml, MutBor}
use Rattle.walrus_forms.specs.declared.composite.CompositeType.{CompositeType}
use Rattle.walrus_forms.specs.contracts.composite.CompositeType.{the_row as composite_row}
use Rattle.walrus_items.specs.declared.subtype.Type.{«Type» as TypeItem}
use Rattle.walrus_items.specs.contracts.subtype.Type.{the_row as type_row}

-- once the borrow r ends, the type has the last form written through r
abbrev pub lends_kind : MutBor TypeItem → MutBor CompositeType → Fml
lends_kind s r = Lends type_row composite_row s r (λ kind. record s.now { kind = kind })
