-- Functions: their types, what they are, and what they end as where a `&mut` to a part is returned.
use Rattle.std.specs.Prelude.{ℕ, Option, Some, None}
use Rattle.std.specs.Borrow.{Lends, Fml, MutBor}
use Rattle.walrus_local_function.specs.declared.local_function.LocalFunction.{LocalFunction}
use Rattle.walrus_local_function.specs.contracts.local_function.LocalFunction.{the_row as local_row}
use Rattle.walrus_module_items.specs.declared.function.ImportedFunction.{ImportedFunction}
use Rattle.walrus_module_items.specs.declared.function.FunctionKind.{FunctionKind}
use Rattle.walrus_module_items.specs.declared.function.FunctionKind.TheVariants.{Import, Local, Uninitialized}
use Rattle.walrus_module_items.specs.contracts.function.ImportedFunction.{the_row as imported_row}
use Rattle.walrus_module_items.specs.contracts.function.FunctionKind.{the_row as kind_row}

-- the type of a function
abbrev pub type_of : FunctionKind → ℕ
type_of (Import imported) = imported.ty
type_of (Local local) = local.builder.ty
type_of (Uninitialized ty) = ty

-- the imported function, if it is one
abbrev pub imported_of : FunctionKind → Option ImportedFunction
imported_of (Import imported) = Some imported
imported_of _ = None

-- the function with a body, if it is one
abbrev pub local_of : FunctionKind → Option LocalFunction
local_of (Local local) = Some local
local_of _ = None

-- once the borrow r ends, it is the imported function written through r
abbrev pub lends_imported : MutBor FunctionKind → MutBor ImportedFunction → Fml
lends_imported s r = Lends kind_row imported_row s r Import

-- once the borrow r ends, it is the function with a body written through r
abbrev pub lends_local : MutBor FunctionKind → MutBor LocalFunction → Fml
lends_local s r = Lends kind_row local_row s r Local
