-- The items of a module that are asked whether they can be written: what imports bring, whether it lives or not, and all that lives but locals
-- and entry types.
use Rattle.std.specs.Prelude.{List, ◌++◌, Bool, not, map, filter}
use Rattle.wasm_formats.specs.declared.fault.Space.{Space}
use Rattle.wasm_formats.specs.declared.fault.Space.TheVariants as spaces
use Rattle.walrus_arena.specs.Arena.{Arena, ids}
use Rattle.walrus_types.specs.Table.{Table, entries}
use Rattle.walrus_types.specs.Items.{Item as TypeItem}
use Rattle.walrus_roots.specs.declared.item.Item.{Item}
use Rattle.walrus_roots.specs.Items.{item}
use Rattle.walrus_module.specs.walrus_collections.LookUps.{items}
use Rattle.walrus_module.specs.walrus_module_items.declared.import.Import.{Import}
use Rattle.walrus_module.specs.Items.{brought}
use Rattle.walrus_module.specs.Parts.{Module}

-- the live items of a space
abbrev pub live_in : {T : Type 0} → Space → Arena T → List Item
live_in space a = map (λ id. item space id) (ids a)

-- the types that are written
abbrev pub is_written : TypeItem → Bool
is_written ty = not ty.kind.entry

abbrev pub types_in : Table → List Item
types_in t = map (λ (ty : TypeItem). item spaces.Type ty.id) (filter is_written (map (λ e. e.1) (entries t)))

-- what imports bring
abbrev pub brought_in : Arena Import → List Item
brought_in imports = map (λ (i : Import). brought i.kind) (items imports)

abbrev pub listed : Module → List Item
listed m =
    brought_in m.imports ++ types_in m.types ++ live_in spaces.Function m.funcs ++ live_in spaces.Table m.tables ++ live_in spaces.Memory m.memories
    ++ live_in spaces.Tag m.tags ++ live_in spaces.Global m.globals ++ live_in spaces.Element m.elements ++ live_in spaces.Data m.data_segments
