-- Exact heap types, which stand in no file: whether there is one in an item of a module.
use Rattle.std.specs.Prelude.{ℕ, nat_eq, Bool, true, false, not, ◌&&◌, ◌||◌, List, Option, Some, None}
use Rattle.std.specs.List.{list_any}
use Rattle.walrus_forms.specs.declared.value.HeapType.{HeapType}
use Rattle.walrus_forms.specs.declared.value.HeapType.TheVariants.{Abstract, Shared, Concrete, Exact}
use Rattle.walrus_forms.specs.declared.value.RefType.{RefType}
use Rattle.walrus_forms.specs.declared.value.ValType.{ValType}
use Rattle.walrus_forms.specs.declared.value.ValType.TheVariants.{Ref}
use Rattle.walrus_forms.specs.declared.value.FieldType.{FieldType}
use Rattle.walrus_forms.specs.Values.{unpacked}
use Rattle.walrus_forms.specs.Forms.{Form, FunctionForm, StructForm, ArrayForm}
use Rattle.walrus_instr.specs.declared.instr.Instr.{Instr}
use Rattle.walrus_instr.specs.declared.instr.Instr.TheVariants.{Select, RefNull, RefTest, RefCast, BrOnCast, BrOnCastFail}
use Rattle.walrus_instr.specs.declared.seq.InstrLocId.{InstrLocId}
use Rattle.walrus_instr.specs.declared.seq.InstrSeq.{InstrSeq}
use Rattle.walrus_instr.specs.declared.seq.InstrSeqType.{InstrSeqType}
use Rattle.walrus_instr.specs.declared.seq.InstrSeqType.TheVariants.{Simple, MultiValue}
use Rattle.walrus_instr.specs.declared.const_expr.ConstOp.{ConstOp}
use Rattle.walrus_instr.specs.declared.const_expr.ConstOp.TheVariants.{RefNull as RefNullOp}
use Rattle.walrus_instr.specs.declared.const_expr.ConstExpr.{ConstExpr}
use Rattle.walrus_instr.specs.declared.const_expr.ConstExpr.TheVariants.{RefNull as NullExpr, Extended}
use Rattle.walrus_item_meaning.specs.Meaning.{table_init}
use Rattle.walrus_module_items.specs.declared.table.Table.{Table}
use Rattle.walrus_module_items.specs.declared.global.Global.{Global}
use Rattle.walrus_module_items.specs.declared.global.GlobalKind.{GlobalKind}
use Rattle.walrus_module_items.specs.declared.global.GlobalKind.TheVariants as globals
use Rattle.walrus_module_items.specs.declared.data.DataKind.{DataKind}
use Rattle.walrus_module_items.specs.declared.data.DataKind.TheVariants as datas
use Rattle.walrus_module_items.specs.declared.element.Element.{Element}
use Rattle.walrus_module_items.specs.declared.element.ElementKind.{ElementKind}
use Rattle.walrus_module_items.specs.declared.element.ElementKind.TheVariants as elements
use Rattle.walrus_module_items.specs.declared.element.ElementItems.{ElementItems}
use Rattle.walrus_module_items.specs.declared.element.ElementItems.TheVariants as holds

-- ---- types
abbrev pub heap_exact : HeapType → Bool
heap_exact (Abstract _) = false
heap_exact (Shared _) = false
heap_exact (Concrete _) = false
heap_exact (Exact _) = true

abbrev pub ref_exact : RefType → Bool
ref_exact ty = heap_exact ty.heap_type

abbrev pub val_exact : ValType → Bool
val_exact (Ref ty) = ref_exact ty
val_exact _ = false

-- where a type is written
abbrev pub written_exact : Option ValType → Bool
written_exact (Some ty) = val_exact ty
written_exact None = false

abbrev pub field_exact : FieldType → Bool
field_exact field = val_exact (unpacked field.element_type)

-- the types of a form
abbrev pub form_exact : Form → Bool
form_exact (FunctionForm params results) = list_any val_exact params || list_any val_exact results
form_exact (StructForm fields) = list_any field_exact fields
form_exact (ArrayForm field) = field_exact field

-- ---- bodies
-- the types that an instruction writes
abbrev pub instr_exact : Instr → Bool
instr_exact (Select ty) = written_exact ty
instr_exact (RefNull ty) = ref_exact ty
instr_exact (RefTest ty) = ref_exact ty
instr_exact (RefCast ty) = ref_exact ty
instr_exact (BrOnCast _ from to) = ref_exact from || ref_exact to
instr_exact (BrOnCastFail _ from to) = ref_exact from || ref_exact to
instr_exact _ = false

abbrev pub instrs_exact : List (Instr × InstrLocId) → Bool
instrs_exact is = list_any (λ (i : Instr × InstrLocId). instr_exact i.0) is

-- a block type that names a type writes none itself
abbrev pub block_exact : InstrSeqType → Bool
block_exact (Simple ty) = written_exact ty
block_exact (MultiValue _) = false

-- the instructions of a sequence, and its block type, which of the body's own isn't written
abbrev pub seq_exact : ℕ → InstrSeq → Bool
seq_exact k s = (not (nat_eq k 0) && block_exact s.ty) || instrs_exact s.instrs.items

-- ---- constant expressions
abbrev pub op_exact : ConstOp → Bool
op_exact (RefNullOp ty) = ref_exact ty
op_exact _ = false

abbrev pub expr_exact : ConstExpr → Bool
expr_exact (NullExpr ty) = ref_exact ty
expr_exact (Extended ops) = list_any op_exact ops.items
expr_exact _ = false

-- ---- items
abbrev pub init_exact : Option ConstExpr → Bool
init_exact (Some init) = expr_exact init
init_exact None = false

-- the element type of a table, and its initialiser
abbrev pub table_exact : Table → Bool
table_exact t = ref_exact t.element_ty || init_exact (table_init t)

abbrev pub value_exact : GlobalKind → Bool
value_exact (globals.Import _) = false
value_exact (globals.Local init) = expr_exact init

-- the type of a global, and its initialiser
abbrev pub global_exact : Global → Bool
global_exact g = val_exact g.ty || value_exact g.kind

-- the offset of an active segment
abbrev pub data_exact : DataKind → Bool
data_exact (datas.Active _ offset) = expr_exact offset
data_exact datas.Passive = false

abbrev pub place_exact : ElementKind → Bool
place_exact (elements.Active _ offset) = expr_exact offset
place_exact elements.Passive = false
place_exact elements.Declared = false

-- the type of the elements of a segment, and the elements
abbrev pub held_exact : ElementItems → Bool
held_exact (holds.Functions _) = false
held_exact (holds.Expressions ty exprs) = ref_exact ty || list_any expr_exact exprs.items

abbrev pub element_exact : Element → Bool
element_exact e = place_exact e.kind || held_exact e.items
