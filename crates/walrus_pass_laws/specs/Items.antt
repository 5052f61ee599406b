-- What stands in an item of a module names what it names in the item that it means.
use Rattle.std.specs.Prelude.{◌≡◌, List, map}
use Rattle.wasm_references.specs.wasm_grammar.Modules as grammar
use Rattle.wasm_references.specs.References as abstract
use Rattle.walrus_walks.specs.walrus_forms.declared.value.RefType.{RefType}
use Rattle.walrus_walks.specs.walrus_forms.declared.value.ValType.{ValType}
use Rattle.walrus_walks.specs.walrus_instr.declared.const_expr.ConstExpr.{ConstExpr}
use Rattle.walrus_walks.specs.Events.{ref_names, val_names}
use Rattle.walrus_walks.specs.ConstEvents.{expr_names}
use Rattle.walrus_marks.specs.Named.{items_of}
use Rattle.walrus_references.specs.walrus_module_items.declared.table.Table.{Table}
use Rattle.walrus_references.specs.walrus_module_items.declared.global.Global.{Global}
use Rattle.walrus_references.specs.walrus_module_items.declared.tag.Tag.{Tag}
use Rattle.walrus_references.specs.walrus_module_items.declared.data.Data.{Data}
use Rattle.walrus_references.specs.walrus_module_items.declared.element.Element.{Element}
use Rattle.walrus_roots.specs.declared.item.Item.{Item}
use Rattle.walrus_references.specs.References.{table_items, global_items, tag_items, data_items, element_items}
use Rattle.walrus_meaning.specs.Words.{own_expr}
use Rattle.walrus_meaning.specs.Meaning.{own_table, own_global, own_tag, own_element, own_segment}

-- an item there: its number is its id
abbrev pub own_item : Item → grammar.Item
own_item x = record { space = x.space; number = x.id }

abbrev pub own_items : List Item → List grammar.Item
own_items xs = map own_item xs

-- types, constant expressions, and all that stands in tables, globals, tags and segments
pub record ItemsNameWhatIsMeant : Type 0 where
  pub references : (ty : RefType) → own_items (items_of (ref_names ty)) ≡ abstract.ref_items ty
  pub values : (ty : ValType) → own_items (items_of (val_names ty)) ≡ abstract.value_items ty
  pub expressions : (expr : ConstExpr) → own_items (items_of (expr_names expr)) ≡ abstract.expr_items (own_expr expr)
  pub tables : (t : Table) → own_items (table_items t) ≡ abstract.table_items (own_table t)
  pub globals : (g : Global) → own_items (global_items g) ≡ abstract.global_items (own_global g)
  pub tags : (t : Tag) → own_items (tag_items t) ≡ abstract.tag_items (own_tag t)
  pub elements : (e : Element) → own_items (element_items e) ≡ abstract.element_items (own_element e)
  pub segments : (d : Data) → own_items (data_items d.kind) ≡ abstract.segment_items (own_segment d)
