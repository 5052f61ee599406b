-- What a composite type ends as, where a `&mut` to a part of it is returned.
use Rattle.std.specs.Prelude.{Option}
use Rattle.std.specs.Borrow.{LendsIf, Fml, MutBor}
use Rattle.walrus_forms.specs.declared.composite.FunctionType.{FunctionType}
use Rattle.walrus_forms.specs.declared.composite.CompositeType.{CompositeType}
use Rattle.walrus_forms.specs.declared.composite.CompositeType.TheVariants.{Function}
use Rattle.walrus_forms.specs.contracts.composite.FunctionType.{the_row as function_row}
use Rattle.walrus_forms.specs.contracts.composite.CompositeType.{the_row as composite_row}

-- once the borrow r ends, the composite type is the function type written through r
abbrev pub lends_function : MutBor CompositeType → Option (MutBor FunctionType) → Fml
lends_function s r = LendsIf composite_row function_row s r Function s.now
