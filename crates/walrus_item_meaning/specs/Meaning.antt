-- What each item of a module means: an item of the abstract module, whose numbers are ids.
use Rattle.std.specs.Prelude.{ℕ, List, map, Option, Some, None, string_bytes}
use Rattle.std.specs.Option.{option_map}
use Rattle.walrus_arena.specs.Arena.{Arena}
use Rattle.walrus_instr.specs.declared.const_expr.ConstExpr.{ConstExpr}
use Rattle.walrus_module_items.specs.declared.import.Import.{Import}
use Rattle.walrus_module_items.specs.declared.import.ImportKind.{ImportKind}
use Rattle.walrus_module_items.specs.declared.import.ImportKind.TheVariants as kinds
use Rattle.walrus_module_items.specs.declared.export.Export.{Export}
use Rattle.walrus_module_items.specs.declared.export.ExportItem.{ExportItem}
use Rattle.walrus_module_items.specs.declared.export.ExportItem.TheVariants as exported
use Rattle.walrus_module_items.specs.declared.table.Table.{Table}
use Rattle.walrus_module_items.specs.declared.global.Global.{Global}
use Rattle.walrus_module_items.specs.declared.global.GlobalKind.{GlobalKind}
use Rattle.walrus_module_items.specs.declared.global.GlobalKind.TheVariants as globals
use Rattle.walrus_module_items.specs.declared.tag.Tag.{Tag}
use Rattle.walrus_module_items.specs.declared.data.Data.{Data}
use Rattle.walrus_module_items.specs.declared.data.DataKind.{DataKind}
use Rattle.walrus_module_items.specs.declared.data.DataKind.TheVariants as datas
use Rattle.walrus_module_items.specs.declared.element.Element.{Element}
use Rattle.walrus_module_items.specs.declared.element.ElementKind.{ElementKind}
use Rattle.walrus_module_items.specs.declared.element.ElementKind.TheVariants as elements
use Rattle.walrus_module_items.specs.declared.element.ElementItems.{ElementItems}
use Rattle.walrus_module_items.specs.declared.element.ElementItems.TheVariants as holds
use Rattle.walrus_module_items.specs.Imported.{tag_import}
use Rattle.walrus_module_items.specs.Words.{own_expr}
pub use Rattle.walrus_module_items.specs.Words.{own_memory}
use Rattle.wasm_formats.specs.declared.fault.Space.TheVariants as spaces
use Rattle.wasm_grammar.specs.Modules as grammar

-- the slots of a collection, each item as it is seen
abbrev pub slots_of : {A B : Type 0} → (A → B) → Arena A → List (Option B)
slots_of see a = map (option_map see) a.slots

abbrev pub own_brought : ImportKind → grammar.Item
own_brought (kinds.Function id) = record { space = spaces.Function; number = id }
own_brought (kinds.Table id) = record { space = spaces.Table; number = id }
own_brought (kinds.Memory id) = record { space = spaces.Memory; number = id }
own_brought (kinds.Global id) = record { space = spaces.Global; number = id }
own_brought (kinds.Tag id) = record { space = spaces.Tag; number = id }

abbrev pub own_given : ExportItem → grammar.Item
own_given (exported.Function id) = record { space = spaces.Function; number = id }
own_given (exported.Table id) = record { space = spaces.Table; number = id }
own_given (exported.Memory id) = record { space = spaces.Memory; number = id }
own_given (exported.Global id) = record { space = spaces.Global; number = id }
own_given (exported.Tag id) = record { space = spaces.Tag; number = id }

abbrev pub own_import : Import → grammar.Import
own_import i = record { space_name = string_bytes i.«module»; name = string_bytes i.name; item = own_brought i.kind }

abbrev pub own_export : Export → grammar.Export
own_export e = record { name = string_bytes e.name; item = own_given e.item }

-- the initialiser that stands beside this import: none where there is one
abbrev pub init_beside : Option ℕ → Option ConstExpr → Option ConstExpr
init_beside None init = init
init_beside (Some import) init = None

-- what the elements of a table are at first, where that isn't null; an import says just the type of a table (Core
-- Specification, imports), so an imported one has no initialiser, whatever its field holds
abbrev pub table_init : Table → Option ConstExpr
table_init t = init_beside t.import t.init

abbrev pub own_table : Table → grammar.Table
own_table t = record { wide = t.table64; initial = t.initial; maximum = t.maximum; element = t.element_ty; init = option_map own_expr (table_init t); imported = t.import }

abbrev pub own_value_of : GlobalKind → grammar.Origin grammar.Expr
own_value_of (globals.Import import) = grammar.Imported import
own_value_of (globals.Local init) = grammar.Own (own_expr init)

abbrev pub own_global : Global → grammar.Global
own_global g = record { ty = g.ty; mutable = g.mutable; origin = own_value_of g.kind }

abbrev pub own_tag : Tag → grammar.Tag
own_tag t = record { ty = t.ty; imported = tag_import t.kind }

abbrev pub own_element_mode : ElementKind → grammar.Mode
own_element_mode elements.Passive = grammar.Passive
own_element_mode elements.Declared = grammar.Declared
own_element_mode (elements.Active table offset) = grammar.Active table (own_expr offset)

abbrev pub own_elements : ElementItems → grammar.Elements
own_elements (holds.Functions ids) = grammar.Functions ids.items
own_elements (holds.Expressions ty exprs) = grammar.Expressions ty (map own_expr exprs.items)

abbrev pub own_element : Element → grammar.Element
own_element e = record { mode = own_element_mode e.kind; items = own_elements e.items }

abbrev pub own_data_mode : DataKind → grammar.Mode
own_data_mode datas.Passive = grammar.Passive
own_data_mode (datas.Active memory offset) = grammar.Active memory (own_expr offset)

abbrev pub own_segment : Data → grammar.Segment
own_segment d = record { mode = own_data_mode d.kind; bytes = d.value.items }
