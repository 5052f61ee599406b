-- The collections of a module that the sections of a file fill.
use Rattle.walrus_arena.specs.Arena.{Arena}
use Rattle.walrus_read_laws.specs.walrus_tables_into.walrus_sections_into.walrus_instr.walrus_types.Table.{Table as TypeTable}
use Rattle.walrus_read_laws.specs.walrus_tables_into.walrus_sections.declared.section.Section.{Section}
use Rattle.walrus_module_bodies.specs.walrus_module_env.walrus_collections.walrus_module_items.declared.import.Import.{Import}
use Rattle.walrus_module_bodies.specs.walrus_module_env.walrus_collections.walrus_module_items.declared.function.Function.{Function}
use Rattle.walrus_module_bodies.specs.walrus_module_env.walrus_collections.walrus_module_items.declared.table.Table.{Table}
use Rattle.walrus_module_bodies.specs.walrus_module_env.walrus_collections.walrus_module_items.declared.memory.Memory.{Memory}
use Rattle.walrus_module_bodies.specs.walrus_module_env.walrus_collections.walrus_module_items.declared.tag.Tag.{Tag}
use Rattle.walrus_module_bodies.specs.walrus_module_env.walrus_collections.walrus_module_items.declared.global.Global.{Global}
use Rattle.walrus_module_bodies.specs.walrus_module_env.walrus_collections.walrus_module_items.declared.export.Export.{Export}
use Rattle.walrus_module_bodies.specs.walrus_module_env.walrus_collections.walrus_module_items.declared.element.Element.{Element}
use Rattle.walrus_module_bodies.specs.walrus_module_env.walrus_collections.walrus_module_items.declared.data.Data.{Data}

pub record Spaces (B : Type 0) : Type 0 where
  pub types : TypeTable
  pub imports : Arena Import
  pub functions : Arena Function
  pub tables : Arena Table
  pub memories : Arena Memory
  pub tags : Arena Tag
  pub globals : Arena Global
  pub exports : Arena Export
  pub elements : Arena Element
  pub segments : Arena Data
  pub customs : Arena (Section B)

abbrev pub spaces : {B : Type 0} → TypeTable → Arena Import → Arena Function → Arena Table → Arena Memory → Arena Tag → Arena Global → Arena Export → Arena Element → Arena Data → Arena (Section B) → Spaces B
spaces types imports functions tables memories tags globals exports elements segments customs = record {
  types = types;
  imports = imports;
  functions = functions;
  tables = tables;
  memories = memories;
  tags = tags;
  globals = globals;
  exports = exports;
  elements = elements;
  segments = segments;
  customs = customs;
}
