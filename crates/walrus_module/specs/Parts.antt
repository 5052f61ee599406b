-- What words see of a module: all that it holds but its custom sections. As boxes hide what they hold, a module that holds such is a type of its
-- own for each kind of boxes, and words would have to be said for each.
use Rattle.std.specs.Prelude.{ℕ, List, Option}
use Rattle.std.specs.declared.alloc.Global.{Global}
use Rattle.std.specs.declared.string.String.{String}
use Rattle.walrus_arena.specs.Arena.{Arena}
use Rattle.walrus_types.specs.Table.{Table as Types}
use Rattle.walrus_items.specs.declared.local.Local.{Local}
use Rattle.walrus_config.specs.declared.config.ModuleConfig.{ModuleConfig}
use Rattle.walrus_customs.specs.declared.producers.ProducerField.{ProducerField}
use Rattle.walrus_collections.specs.walrus_module_items.declared.import.Import.{Import}
use Rattle.walrus_collections.specs.walrus_module_items.declared.table.Table.{Table}
use Rattle.walrus_collections.specs.walrus_module_items.declared.function.Function.{Function}
use Rattle.walrus_collections.specs.walrus_module_items.declared.global.Global.{Global as GlobalItem}
use Rattle.walrus_collections.specs.walrus_module_items.declared.export.Export.{Export}
use Rattle.walrus_collections.specs.walrus_module_items.declared.memory.Memory.{Memory}
use Rattle.walrus_collections.specs.walrus_module_items.declared.tag.Tag.{Tag}
use Rattle.walrus_collections.specs.walrus_module_items.declared.data.Data.{Data}
use Rattle.walrus_collections.specs.walrus_module_items.declared.element.Element.{Element}
use Rattle.walrus_module.specs.declared.module.Module.{Module as Whole}

pub record Module : Type 0 where
  pub alloc : Global
  pub config : ModuleConfig
  pub imports : Arena Import
  pub tables : Arena Table
  pub types : Types
  pub funcs : Arena Function
  pub globals : Arena GlobalItem
  pub locals : List Local
  pub exports : Arena Export
  pub memories : Arena Memory
  pub tags : Arena Tag
  pub data_segments : Arena Data
  pub elements : Arena Element
  pub start : Option ℕ
  pub producers : List ProducerField
  pub name : Option (String Global)

-- what words see of this module
abbrev pub parts : {B : Type 0} → Whole B → Module
parts m = record {
  alloc = m.alloc;
  config = m.config;
  imports = m.imports;
  tables = m.tables;
  types = m.types;
  funcs = m.funcs;
  globals = m.globals;
  locals = m.locals;
  exports = m.exports;
  memories = m.memories;
  tags = m.tags;
  data_segments = m.data_segments;
  elements = m.elements;
  start = m.start;
  producers = m.producers;
  name = m.name;
}
