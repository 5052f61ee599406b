-- What of a module in memory has names. Its custom sections have none, and calls that take the rest alone hide nothing of what boxes do.
use Rattle.std.specs.Prelude.{List, Option}
use Rattle.std.specs.declared.alloc.Global.{Global as Alloc}
use Rattle.std.specs.declared.string.String.{String}
use Rattle.walrus_arena.specs.Arena.{Arena}
use Rattle.walrus_module.specs.walrus_types.walrus_items.declared.local.Local.{Local}
use Rattle.walrus_module.specs.walrus_types.Table.{Table as TypeTable}
use Rattle.walrus_module.specs.walrus_module_items.declared.function.Function.{Function}
use Rattle.walrus_module.specs.walrus_module_items.declared.table.Table.{Table}
use Rattle.walrus_module.specs.walrus_module_items.declared.memory.Memory.{Memory}
use Rattle.walrus_module.specs.walrus_module_items.declared.tag.Tag.{Tag}
use Rattle.walrus_module.specs.walrus_module_items.declared.global.Global.{Global}
use Rattle.walrus_module.specs.walrus_module_items.declared.element.Element.{Element}
use Rattle.walrus_module.specs.walrus_module_items.declared.data.Data.{Data}

pub record Holder : Type 0 where
  pub types : TypeTable
  pub funcs : Arena Function
  pub tables : Arena Table
  pub memories : Arena Memory
  pub tags : Arena Tag
  pub globals : Arena Global
  pub elements : Arena Element
  pub data_segments : Arena Data
  pub locals : List Local
  pub name : Option (String Alloc)

abbrev pub holder : TypeTable → Arena Function → Arena Table → Arena Memory → Arena Tag → Arena Global → Arena Element → Arena Data → List Local → Option (String Alloc) → Holder
holder types funcs tables memories tags globals elements data_segments locals own = record {
  types = types;
  funcs = funcs;
  tables = tables;
  memories = memories;
  tags = tags;
  globals = globals;
  elements = elements;
  data_segments = data_segments;
  locals = locals;
  name = own;
}
