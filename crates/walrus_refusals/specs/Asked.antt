-- What is asked of a reached item.
use Rattle.std.specs.Prelude.{◌≡◌, ℕ, Option, Some, MatchOption}
use Rattle.wasm_formats.specs.declared.fault.Space.{Space}
use Rattle.wasm_formats.specs.declared.fault.Space.TheVariants as spaces
use Rattle.walrus_arena.specs.Arena.{Arena, item_at}
use Rattle.walrus_types.specs.Table.{Table as TypeTable}
use Rattle.walrus_used.specs.walrus_module.walrus_module_items.declared.import.Import.{Import}
use Rattle.walrus_used.specs.walrus_module.walrus_module_items.declared.function.Function.{Function}
use Rattle.walrus_used.specs.walrus_module.walrus_module_items.declared.function.FunctionKind.{FunctionKind}
use Rattle.walrus_used.specs.walrus_module.walrus_module_items.declared.function.FunctionKind.TheVariants as functions
use Rattle.walrus_used.specs.walrus_module.Parts.{Module}
use Rattle.walrus_used.specs.walrus_module.Items.{brought}
use Rattle.walrus_used.specs.walrus_module.Linking.{HasArguments, import_in}
use Rattle.walrus_roots.specs.declared.item.Item.{Item}

-- the import that is named, if one is, lives and brings the item
abbrev pub IsBrought : Arena Import → Item → Option ℕ → Type 0
IsBrought imports x named = MatchOption named (Unit {0}) (λ i. MatchOption (item_at imports i) ⊥ (λ import. brought import.kind ≡ x))

-- a function is imported, or has a body and arguments that are distinct, one for each parameter
abbrev pub HasBody : TypeTable → FunctionKind → Type 0
HasBody types (functions.Import _) = Unit {0}
HasBody types (functions.Local local) = HasArguments types local
HasBody types (functions.Uninitialized _) = ⊥

abbrev pub IsWholeIn : Module → Space → ℕ → Type 0
IsWholeIn m spaces.Function id = MatchOption (item_at m.funcs id) (Unit {0}) (λ (f : Function). HasBody m.types f.kind)
IsWholeIn m _ id = Unit {0}

-- what an item says of itself: the import that it names brings it, and a function has a body
abbrev pub IsOwnLinked : Module → Item → Type 0
IsOwnLinked m x = IsBrought m.imports x (import_in m x.space x.id) × IsWholeIn m x.space x.id

-- what imports say of an item: each that brings it is named by it
abbrev pub IsNamedBack : Module → Item → Type 0
IsNamedBack m x = (i : ℕ) (import : Import) → item_at m.imports i ≡ Some import → brought import.kind ≡ x → import_in m x.space x.id ≡ Some i

-- an item and the imports that bring it name each other, and a function is imported or has a body of its arguments
pub record Linked (m : Module) (x : Item) : Type 0 where
  pub own : IsOwnLinked m x
  pub named_back : IsNamedBack m x
