-- When a module is linked: what it is made of agrees, so that it can be written.
use Rattle.std.specs.Prelude.{◌≡◌, ℕ, true, Option, Some, Contains, IsSome}
use Rattle.walrus_arena.specs.Arena.{item_at}
use Rattle.walrus_items.specs.Items.{Group}
use Rattle.walrus_module.specs.walrus_types.Table.{Table as TypeTable, group_at}
use Rattle.walrus_module.specs.walrus_builder.Functions.{seqs_of}
use Rattle.walrus_module.specs.walrus_tree.Trees.{IsTree}
use Rattle.walrus_module.specs.walrus_module_items.declared.import.Import.{Import}
use Rattle.walrus_module.specs.walrus_module_items.declared.export.Export.{Export}
use Rattle.walrus_module.specs.walrus_module_items.declared.function.Function.{Function}
use Rattle.walrus_module.specs.walrus_module_items.declared.function.FunctionKind.{FunctionKind}
use Rattle.walrus_module.specs.walrus_module_items.declared.function.FunctionKind.TheVariants as functions
use Rattle.wasm_formats.specs.declared.fault.Space.TheVariants as spaces
pub use Rattle.walrus_module.specs.walrus_module_items.Imported.{function_import, global_import, tag_import}
pub use Rattle.walrus_module.specs.Linking.{HasArguments, import_in}
use Rattle.walrus_module.specs.Parts.{Module}
use Rattle.walrus_roots.specs.declared.item.Item.{Item}
use Rattle.walrus_roots.specs.Items.{item}
use Rattle.walrus_module.specs.Items.{Lives, brought, given_out, written_type}
use Rattle.walrus_linked.specs.Names.{names}

abbrev pub import_of : Module → Item → Option ℕ
import_of m x = import_in m x.space x.id

-- what a function has to be: imported, or with a body of its arguments whose sequences form a tree, where each label names
-- a sequence around it
abbrev pub IsWhole : TypeTable → FunctionKind → Type 0
IsWhole types (functions.Import _) = Unit {0}
IsWhole types (functions.Local local) = HasArguments types local × IsTree (seqs_of local.builder) 0
IsWhole types (functions.Uninitialized _) = ⊥

-- the members of each explicit group are types that live, and no entry types: a type names its group where that is explicit
abbrev pub GroupsAreWritten : TypeTable → Type 0
GroupsAreWritten t = (place : ℕ) (group : Group) → group_at t place ≡ Some group → group.explicit ≡ true → (id : ℕ) → Contains group.types id → IsSome (written_type t id)

-- a linked module: each import names a live item that names it back, and each imported item a live import that names it;
-- functions are whole; and what is named lives: by an item, by a type with its explicit group, by an export, or as the start function
pub record IsLinked (m : Module) : Type 0 where
  pub imports : (i : ℕ) (import : Import) → item_at m.imports i ≡ Some import → import_of m (brought import.kind) ≡ Some i
  pub imported : (x : Item) (i : ℕ) → import_of m x ≡ Some i → (import : Import) × (item_at m.imports i ≡ Some import) × (brought import.kind ≡ x)
  pub whole : (f : ℕ) (function : Function) → item_at m.funcs f ≡ Some function → IsWhole m.types function.kind
  pub named : (x y : Item) → Lives m x → Contains (names m x) y → Lives m y
  pub grouped : GroupsAreWritten m.types
  pub exported : (e : ℕ) (export : Export) → item_at m.exports e ≡ Some export → Lives m (given_out export.item)
  pub started : (f : ℕ) → m.start ≡ Some f → Lives m (item spaces.Function f)
