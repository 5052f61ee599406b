-- What it takes for a module to be linked, item by item: the import that brings an item, and a body's arguments.
use Rattle.std.specs.Prelude.{◌≡◌, ℕ, Option, None, IfSome, length}
use Rattle.std.specs.Option.{option_and_then}
use Rattle.walrus_arena.specs.Arena.{item_at}
use Rattle.walrus_forms.specs.Forms.{params_of}
use Rattle.wasm_formats.specs.declared.fault.Space.{Space}
use Rattle.wasm_formats.specs.declared.fault.Space.TheVariants as spaces
use Rattle.walrus_types.specs.Table.{Table as TypeTable, type_at}
use Rattle.walrus_collections.specs.walrus_tree.Trees.{AreDistinct}
use Rattle.walrus_collections.specs.walrus_local_function.declared.local_function.LocalFunction.{LocalFunction}
use Rattle.walrus_collections.specs.walrus_module_items.declared.function.Function.{Function}
use Rattle.walrus_collections.specs.walrus_module_items.declared.table.Table.{Table}
use Rattle.walrus_collections.specs.walrus_module_items.declared.memory.Memory.{Memory}
use Rattle.walrus_collections.specs.walrus_module_items.declared.global.Global.{Global}
use Rattle.walrus_collections.specs.walrus_module_items.declared.tag.Tag.{Tag}
use Rattle.walrus_collections.specs.walrus_module_items.Imported.{function_import, global_import, tag_import}
use Rattle.walrus_module.specs.Parts.{Module}

abbrev pub import_in : Module → Space → ℕ → Option ℕ
import_in m spaces.Function id = option_and_then (λ (f : Function). function_import f.kind) (item_at m.funcs id)
import_in m spaces.Table id = option_and_then (λ (t : Table). t.import) (item_at m.tables id)
import_in m spaces.Memory id = option_and_then (λ (x : Memory). x.import) (item_at m.memories id)
import_in m spaces.Global id = option_and_then (λ (g : Global). global_import g.kind) (item_at m.globals id)
import_in m spaces.Tag id = option_and_then (λ (t : Tag). tag_import t.kind) (item_at m.tags id)
import_in m _ id = None

-- the arguments are distinct, and one for each parameter of the type, where that lives; a type that is no function type has none
pub record HasArguments (types : TypeTable) (local : LocalFunction) : Type 0 where
  pub distinct : AreDistinct local.args.items
  pub counted : IfSome (type_at types local.builder.ty) (λ ty. length local.args.items ≡ length (params_of ty.kind.form))
