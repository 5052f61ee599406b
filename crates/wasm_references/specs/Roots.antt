-- Roots: the items of an abstract module that are kept for themselves.
use Rattle.std.specs.Prelude.{◌≡◌, ℕ, Bool, true, Some, IsSome, List, Contains}
use Rattle.wasm_formats.specs.declared.fault.Space.TheVariants as spaces
use Rattle.wasm_grammar.specs.Modules.{Item, Expr, Table, Declared, Active, Element, Segment, Export, Module}
use Rattle.wasm_references.specs.References.{item, slot}

-- what exports give out; the start function; active data segments; active element segments of imported tables, or all active ones
-- where these are to be kept; declared element segments; and what custom sections push
pub data Root (m : Module) (keep : Bool) (pushed : List Item) : Item → Type 0 where
  exports : (e : ℕ) (export : Export) → slot m.exports e ≡ Some export → Root m keep pushed export.item
  starts : (f : ℕ) → m.start ≡ Some f → Root m keep pushed (item spaces.Function f)
  is_active : (d memory : ℕ) (offset : Expr) (segment : Segment) → slot m.segments d ≡ Some segment → segment.mode ≡ Active memory offset → Root m keep pushed (item spaces.Data d)
  fills_import : (e t : ℕ) (offset : Expr) (segment : Element) (table : Table) → slot m.elements e ≡ Some segment → segment.mode ≡ Active t offset
      → slot m.tables t ≡ Some table → IsSome table.imported → Root m keep pushed (item spaces.Element e)
  fills_any : (e t : ℕ) (offset : Expr) (segment : Element) → keep ≡ true → slot m.elements e ≡ Some segment → segment.mode ≡ Active t offset → Root m keep pushed (item spaces.Element e)
  declares : (e : ℕ) (segment : Element) → slot m.elements e ≡ Some segment → segment.mode ≡ Declared → Root m keep pushed (item spaces.Element e)
  is_pushed : (x : Item) → Contains pushed x → Root m keep pushed x
