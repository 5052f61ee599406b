-- Roots: the items that are kept for themselves.
use Rattle.std.specs.Prelude.{◌≡◌, ℕ, true, Some, IsSome, List, Contains}
use Rattle.wasm_formats.specs.declared.fault.Space.TheVariants as spaces
use Rattle.walrus_arena.specs.Arena.{item_at}
use Rattle.walrus_instr.specs.declared.const_expr.ConstExpr.{ConstExpr}
use Rattle.walrus_module.specs.walrus_module_items.declared.table.Table.{Table}
use Rattle.walrus_module.specs.walrus_module_items.declared.data.Data.{Data}
use Rattle.walrus_module.specs.walrus_module_items.declared.data.DataKind.TheVariants as datas
use Rattle.walrus_module.specs.walrus_module_items.declared.element.Element.{Element}
use Rattle.walrus_module.specs.walrus_module_items.declared.element.ElementKind.TheVariants as elements
use Rattle.walrus_module.specs.walrus_module_items.declared.export.Export.{Export}
use Rattle.walrus_module.specs.Parts.{Module}
use Rattle.walrus_module.specs.Items.{given_out}
use Rattle.walrus_roots.specs.declared.item.Item.{Item}
use Rattle.walrus_roots.specs.Items.{item}

-- what exports give out; the start function; active data segments; active element segments of imported tables, or all active ones
-- where the module's flag asks for it; declared element segments; and what custom sections push
pub data Root (m : Module) (pushed : List Item) : Item → Type 0 where
  exports : (e : ℕ) (export : Export) → item_at m.exports e ≡ Some export → Root m pushed (given_out export.item)
  starts : (f : ℕ) → m.start ≡ Some f → Root m pushed (item spaces.Function f)
  is_active : (d memory : ℕ) (offset : ConstExpr) (segment : Data) → item_at m.data_segments d ≡ Some segment → segment.kind ≡ datas.Active memory offset
      → Root m pushed (item spaces.Data d)
  fills_import : (e t : ℕ) (offset : ConstExpr) (segment : Element) (table : Table) → item_at m.elements e ≡ Some segment → segment.kind ≡ elements.Active t offset
      → item_at m.tables t ≡ Some table → IsSome table.import → Root m pushed (item spaces.Element e)
  fills_any : (e t : ℕ) (offset : ConstExpr) (segment : Element) → m.config.keep_segments ≡ true → item_at m.elements e ≡ Some segment → segment.kind ≡ elements.Active t offset
      → Root m pushed (item spaces.Element e)
  declares : (e : ℕ) (segment : Element) → item_at m.elements e ≡ Some segment → segment.kind ≡ elements.Declared → Root m pushed (item spaces.Element e)
  is_pushed : (x : Item) → Contains pushed x → Root m pushed x
