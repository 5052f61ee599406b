-- Items of a file as they are read, in words of the grammar.
use Rattle.std.specs.Prelude.{ℕ, map, Option, Some, None}
use Rattle.std.specs.Option.{option_map}
use Rattle.walrus_forms.specs.Records.{ref_of, value_of}
use Rattle.wasm_sections.specs.wasm_grammar.Modules as grammar
use Rattle.wasm_sections.specs.wasm_grammar.Modules.{Origin, Imported, Own, Body}
use Rattle.wasm_sections.specs.wasm_grammar.States as states
use Rattle.wasm_sections.specs.Entities as entities
use Rattle.wasm_sections.specs.Entities.{no_body, table_of as table_as, memory_of as memory_as}
use Rattle.walrus_section_values.specs.Limits.{limits_of, memory_type_of}
use Rattle.walrus_section_values.specs.Globals.{expr_of}
use Rattle.walrus_known_sections.specs.declared.items.TableType.{TableType}
use Rattle.walrus_known_sections.specs.declared.items.GlobalType.{GlobalType}
use Rattle.walrus_known_sections.specs.declared.items.Import.{Import}
use Rattle.walrus_known_sections.specs.declared.items.Function.{Function}
use Rattle.walrus_known_sections.specs.declared.items.Table.{Table}
use Rattle.walrus_known_sections.specs.declared.items.Memory.{Memory}
use Rattle.walrus_known_sections.specs.declared.items.Tag.{Tag}
use Rattle.walrus_known_sections.specs.declared.items.Export.{Export}
use Rattle.walrus_known_sections.specs.declared.items.Mode.{Mode}
use Rattle.walrus_known_sections.specs.declared.items.Mode.TheVariants as modes
use Rattle.walrus_known_sections.specs.declared.items.ElementItems.{ElementItems}
use Rattle.walrus_known_sections.specs.declared.items.ElementItems.TheVariants as listed
use Rattle.walrus_known_sections.specs.declared.items.Element.{Element}
use Rattle.walrus_known_sections.specs.declared.items.Data.{Data}
use Rattle.walrus_known_sections.specs.declared.items.Custom.{Custom}
use Rattle.walrus_known_sections.specs.declared.items.Chunk.{Chunk}

abbrev pub table_type_of : TableType → entities.TableType
table_type_of ty = (ref_of ty.element, limits_of ty.limits)

abbrev pub global_type_of : GlobalType → entities.GlobalType
global_type_of ty = (value_of ty.ty, ty.mutability)

abbrev pub import_of : Import → grammar.Import
import_of x = record { space_name = x.module.now; name = x.name.now; item = record { space = x.space; number = x.index } }

abbrev pub function_origin : Option ℕ → Origin Body
function_origin None = Own no_body
function_origin (Some n) = Imported n

abbrev pub function_of : Function → grammar.Function
function_of f = record { ty = f.ty; origin = function_origin f.import }

abbrev pub table_of : Table → grammar.Table
table_of t = table_as (table_type_of t.ty) (option_map expr_of t.init) t.import

abbrev pub memory_of : Memory → grammar.Memory
memory_of m = memory_as (memory_type_of m.ty) m.import

abbrev pub tag_of : Tag → grammar.Tag
tag_of t = record { ty = t.ty; imported = t.import }

abbrev pub export_of : Export → grammar.Export
export_of e = record { name = e.name.now; item = record { space = e.space; number = e.index } }

abbrev pub mode_of : Mode → grammar.Mode
mode_of modes.Passive = grammar.Passive
mode_of modes.Declared = grammar.Declared
mode_of (modes.Active into offset) = grammar.Active into (expr_of offset)

abbrev pub items_of : ElementItems → grammar.Elements
items_of (listed.Functions functions) = grammar.Functions functions.items
items_of (listed.Expressions ty exprs) = grammar.Expressions (ref_of ty) (map expr_of exprs.items)

abbrev pub element_of : Element → grammar.Element
element_of e = record { mode = mode_of e.mode; items = items_of e.items }

abbrev pub data_of : Data → grammar.Segment
data_of d = record { mode = mode_of d.mode; bytes = d.bytes.now }

abbrev pub custom_of : Custom → grammar.Custom
custom_of c = record { name = c.name.now; bytes = c.bytes.now }

abbrev pub chunk_of : Chunk → states.Chunk
chunk_of c = record { place = c.place; bytes = c.bytes.now }
