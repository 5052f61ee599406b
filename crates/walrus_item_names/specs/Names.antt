-- The names in a module in memory, and the module without them.
use Rattle.std.specs.Prelude.{ℕ, List, Option, Some, None, map, slice_get, string_bytes}
use Rattle.std.specs.Option.{option_map}
use Rattle.wasm_formats.specs.declared.fault.Space.{Space}
use Rattle.wasm_formats.specs.declared.fault.Space.TheVariants as spaces
use Rattle.wasm_name_payloads.specs.Names.{Bearer, TheModule, AnItem, ALocal}
use Rattle.walrus_arena.specs.Arena.{item_at}
use Rattle.walrus_item_names.specs.Holder.{Holder}
use Rattle.walrus_module.specs.walrus_types.walrus_items.declared.local.Local.{Local}
use Rattle.walrus_module.specs.walrus_types.walrus_items.Items.{Item as TypeItem}
use Rattle.walrus_module.specs.walrus_types.Table.{Table as TypeTable, type_at}
use Rattle.walrus_module.specs.walrus_module_items.declared.table.Table.{Table}
use Rattle.walrus_module.specs.walrus_module_items.declared.function.Function.{Function}
use Rattle.walrus_module.specs.walrus_module_items.declared.global.Global.{Global}
use Rattle.walrus_module.specs.walrus_module_items.declared.memory.Memory.{Memory}
use Rattle.walrus_module.specs.walrus_module_items.declared.tag.Tag.{Tag}
use Rattle.walrus_module.specs.walrus_module_items.declared.data.Data.{Data}
use Rattle.walrus_module.specs.walrus_module_items.declared.element.Element.{Element}
use Rattle.walrus_item_names.specs.Called.{bare_items}

-- ---- items

abbrev pub function_called : Function → Option (List ℕ)
function_called x = option_map string_bytes x.name

abbrev pub bare_function : Function → Function
bare_function x = record x { name = None }

abbrev pub table_called : Table → Option (List ℕ)
table_called x = option_map string_bytes x.name

abbrev pub bare_table : Table → Table
bare_table x = record x { name = None }

abbrev pub memory_called : Memory → Option (List ℕ)
memory_called x = option_map string_bytes x.name

abbrev pub bare_memory : Memory → Memory
bare_memory x = record x { name = None }

abbrev pub tag_called : Tag → Option (List ℕ)
tag_called x = option_map string_bytes x.name

abbrev pub bare_tag : Tag → Tag
bare_tag x = record x { name = None }

abbrev pub global_called : Global → Option (List ℕ)
global_called x = option_map string_bytes x.name

abbrev pub bare_global : Global → Global
bare_global x = record x { name = None }

abbrev pub element_called : Element → Option (List ℕ)
element_called x = option_map string_bytes x.name

abbrev pub bare_element : Element → Element
bare_element x = record x { name = None }

abbrev pub data_called : Data → Option (List ℕ)
data_called x = option_map string_bytes x.name

abbrev pub bare_data : Data → Data
bare_data x = record x { name = None }

-- ---- types and locals

abbrev pub bare_type : TypeItem → TypeItem
bare_type ty = record ty { name = None }

abbrev pub bare_types : TypeTable → TypeTable
bare_types t = record t { types = map (option_map bare_type) t.types }

abbrev pub type_called : TypeItem → Option (List ℕ)
type_called ty = ty.name

abbrev pub bare_local : Local → Local
bare_local l = record l { name = None }

abbrev pub local_called : Local → Option (List ℕ)
local_called l = option_map string_bytes l.name

-- ---- the module

-- the name of an item, if there is the item
abbrev pub item_name : Holder → Space → ℕ → Option (Option (List ℕ))
item_name m spaces.«Type» id = option_map type_called (type_at m.types id)
item_name m spaces.Function id = option_map function_called (item_at m.funcs id)
item_name m spaces.Table id = option_map table_called (item_at m.tables id)
item_name m spaces.Memory id = option_map memory_called (item_at m.memories id)
item_name m spaces.Tag id = option_map tag_called (item_at m.tags id)
item_name m spaces.Global id = option_map global_called (item_at m.globals id)
item_name m spaces.Element id = option_map element_called (item_at m.elements id)
item_name m spaces.Data id = option_map data_called (item_at m.data_segments id)
item_name m spaces.Local id = option_map local_called (slice_get m.locals id)
item_name m spaces.Label id = None

-- the name of what bears one, if it is there: items and locals by their ids
abbrev pub name_at : Holder → Bearer → Option (Option (List ℕ))
name_at m TheModule = Some (option_map string_bytes m.name)
name_at m (AnItem x) = item_name m x.space x.number
name_at m (ALocal function local) = None

abbrev pub unnamed : Holder → Holder
unnamed m = record m {
  types = bare_types m.types;
  funcs = bare_items bare_function m.funcs;
  tables = bare_items bare_table m.tables;
  memories = bare_items bare_memory m.memories;
  tags = bare_items bare_tag m.tags;
  globals = bare_items bare_global m.globals;
  elements = bare_items bare_element m.elements;
  data_segments = bare_items bare_data m.data_segments;
  locals = map bare_local m.locals;
  name = None;
}
