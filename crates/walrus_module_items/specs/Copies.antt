-- When an item is a copy of another: equal, but for the memory that its texts and lists stand in.
use Rattle.std.specs.Prelude.{◌≡◌, ℕ, Option, Some, None, string_bytes}
use Rattle.std.specs.List.{AllZip}
use Rattle.std.specs.Option.{option_map}
use Rattle.std.specs.HashSet.{keys}
use Rattle.std.specs.declared.alloc.Global.{Global as GlobalAlloc}
use Rattle.std.specs.declared.string.String.{String}
use Rattle.std.specs.declared.vec.Vec.{Vec}
use Rattle.walrus_instr.specs.declared.const_expr.ConstExpr.{ConstExpr}
use Rattle.walrus_instr.specs.Copies.{IsExprCopy}
use Rattle.walrus_module_items.specs.declared.table.Table.{Table}
use Rattle.walrus_module_items.specs.declared.memory.Memory.{Memory}
use Rattle.walrus_module_items.specs.declared.global.GlobalKind.{GlobalKind}
use Rattle.walrus_module_items.specs.declared.global.GlobalKind.TheVariants as globals
use Rattle.walrus_module_items.specs.declared.global.Global.{Global}
use Rattle.walrus_module_items.specs.declared.data.DataKind.{DataKind}
use Rattle.walrus_module_items.specs.declared.data.DataKind.TheVariants as datas
use Rattle.walrus_module_items.specs.declared.data.Data.{Data}
use Rattle.walrus_module_items.specs.declared.element.ElementKind.{ElementKind}
use Rattle.walrus_module_items.specs.declared.element.ElementKind.TheVariants as elements
use Rattle.walrus_module_items.specs.declared.element.ElementItems.{ElementItems}
use Rattle.walrus_module_items.specs.declared.element.ElementItems.TheVariants as items
use Rattle.walrus_module_items.specs.declared.element.Element.{Element}

-- the same text
abbrev pub IsTextCopy : String GlobalAlloc → String GlobalAlloc → Type 0
IsTextCopy text copy = string_bytes copy ≡ string_bytes text

-- the same name, or none
abbrev pub IsNameCopy : Option (String GlobalAlloc) → Option (String GlobalAlloc) → Type 0
IsNameCopy name copy = option_map string_bytes copy ≡ option_map string_bytes name

-- the same initialiser, or none
abbrev pub IsInitCopy : Option ConstExpr → Option ConstExpr → Type 0
IsInitCopy None copy = copy ≡ None
IsInitCopy (Some init) copy = (again : ConstExpr) × (copy ≡ Some again) × IsExprCopy init again

pub record IsTableCopy (t copy : Table) : Type 0 where
  pub id : copy.id ≡ t.id
  pub table64 : copy.table64 ≡ t.table64
  pub initial : copy.initial ≡ t.initial
  pub maximum : copy.maximum ≡ t.maximum
  pub element_ty : copy.element_ty ≡ t.element_ty
  pub init : IsInitCopy t.init copy.init
  pub import : copy.import ≡ t.import
  pub elem_segments : keys copy.elem_segments ≡ keys t.elem_segments
  pub name : IsNameCopy t.name copy.name

pub record IsMemoryCopy (m copy : Memory) : Type 0 where
  pub id : copy.id ≡ m.id
  pub shared : copy.shared ≡ m.shared
  pub memory64 : copy.memory64 ≡ m.memory64
  pub initial : copy.initial ≡ m.initial
  pub maximum : copy.maximum ≡ m.maximum
  pub page_size_log2 : copy.page_size_log2 ≡ m.page_size_log2
  pub import : copy.import ≡ m.import
  pub data_segments : keys copy.data_segments ≡ keys m.data_segments
  pub name : IsNameCopy m.name copy.name

abbrev pub IsGlobalKindCopy : GlobalKind → GlobalKind → Type 0
IsGlobalKindCopy (globals.Import import) copy = copy ≡ globals.Import import
IsGlobalKindCopy (globals.Local init) copy = (again : ConstExpr) × (copy ≡ globals.Local again) × IsExprCopy init again

pub record IsGlobalCopy (g copy : Global) : Type 0 where
  pub id : copy.id ≡ g.id
  pub ty : copy.ty ≡ g.ty
  pub mutable : copy.mutable ≡ g.mutable
  pub shared : copy.shared ≡ g.shared
  pub kind : IsGlobalKindCopy g.kind copy.kind
  pub name : IsNameCopy g.name copy.name

abbrev pub IsDataKindCopy : DataKind → DataKind → Type 0
IsDataKindCopy (datas.Active memory offset) copy = (again : ConstExpr) × (copy ≡ datas.Active memory again) × IsExprCopy offset again
IsDataKindCopy datas.Passive copy = copy ≡ datas.Passive

pub record IsDataCopy (d copy : Data) : Type 0 where
  pub id : copy.id ≡ d.id
  pub kind : IsDataKindCopy d.kind copy.kind
  pub value : copy.value.items ≡ d.value.items
  pub name : IsNameCopy d.name copy.name

abbrev pub IsElementKindCopy : ElementKind → ElementKind → Type 0
IsElementKindCopy (elements.Active table offset) copy = (again : ConstExpr) × (copy ≡ elements.Active table again) × IsExprCopy offset again
IsElementKindCopy elements.Passive copy = copy ≡ elements.Passive
IsElementKindCopy elements.Declared copy = copy ≡ elements.Declared

abbrev pub IsItemsCopy : ElementItems → ElementItems → Type 0
IsItemsCopy (items.Functions functions) copy = (again : Vec ℕ GlobalAlloc) × (copy ≡ items.Functions again) × (again.items ≡ functions.items)
IsItemsCopy (items.Expressions ty exprs) copy =
    (again : Vec ConstExpr GlobalAlloc) × (copy ≡ items.Expressions ty again) × AllZip IsExprCopy exprs.items again.items

pub record IsElementCopy (e copy : Element) : Type 0 where
  pub id : copy.id ≡ e.id
  pub kind : IsElementKindCopy e.kind copy.kind
  pub items : IsItemsCopy e.items copy.items
  pub name : IsNameCopy e.name copy.name
