-- What stands in items, as what they mean has it.
use Rattle.std.proofs.Common.{◌≡◌, ◌∙◌, ℕ, Bool, List, [], ◌∷◌, ◌++◌, map, Option, Some, None, refl, ap}
use Rattle.std.specs.List.{flat_map}
use Rattle.std.specs.Option.{option_map}
use Rattle.wasm_references.specs.wasm_formats.declared.fault.Space.TheVariants as spaces
use Rattle.wasm_references.specs.wasm_grammar.Modules as grammar
use Rattle.wasm_references.specs.wasm_operators.Operators.{Seen}
use Rattle.wasm_references.specs.wasm_operators.Names.{operator_names}
use Rattle.wasm_references.specs.References as abstract
use Rattle.walrus_walks.specs.walrus_forms.declared.value.HeapType.{HeapType}
use Rattle.walrus_walks.specs.walrus_forms.declared.value.HeapType.TheVariants.{Abstract, Shared, Concrete, Exact}
use Rattle.walrus_walks.specs.walrus_forms.declared.value.RefType.{RefType}
use Rattle.walrus_walks.specs.walrus_forms.declared.value.ValType.{ValType}
use Rattle.walrus_walks.specs.walrus_forms.declared.value.ValType.TheVariants.{I32, I64, F32, F64, V128, Ref}
use Rattle.walrus_walks.specs.walrus_instr.declared.const_expr.ConstExpr.{ConstExpr}
use Rattle.walrus_walks.specs.walrus_instr.declared.const_expr.ConstOp.{ConstOp}
use Rattle.walrus_walks.specs.walrus_instr.declared.const_expr.ConstOp.TheVariants as consts
use Rattle.walrus_walks.specs.walrus_instr.Constants.{ops_of}
use Rattle.walrus_walks.specs.Events.{Event, events_of, ref_names, val_names}
use Rattle.walrus_walks.specs.ConstEvents.{ExprsTellOps, expr_names, op_names}
use Rattle.walrus_marks.specs.Named.{event_items, items_of}
use Rattle.walrus_references.specs.walrus_module_items.declared.table.Table.{Table}
use Rattle.walrus_references.specs.walrus_module_items.declared.global.Global.{Global}
use Rattle.walrus_references.specs.walrus_module_items.declared.global.GlobalKind.{GlobalKind}
use Rattle.walrus_references.specs.walrus_module_items.declared.global.GlobalKind.TheVariants as globals
use Rattle.walrus_references.specs.walrus_module_items.declared.data.Data.{Data}
use Rattle.walrus_references.specs.walrus_module_items.declared.data.DataKind.{DataKind}
use Rattle.walrus_references.specs.walrus_module_items.declared.data.DataKind.TheVariants as datas
use Rattle.walrus_references.specs.walrus_module_items.declared.element.Element.{Element}
use Rattle.walrus_references.specs.walrus_module_items.declared.element.ElementKind.{ElementKind}
use Rattle.walrus_references.specs.walrus_module_items.declared.element.ElementKind.TheVariants as elements
use Rattle.walrus_references.specs.walrus_module_items.declared.element.ElementItems.{ElementItems}
use Rattle.walrus_references.specs.walrus_module_items.declared.element.ElementItems.TheVariants as holds
use Rattle.walrus_roots.specs.declared.item.Item.{Item}
use Rattle.walrus_roots.specs.Items.{item}
use Rattle.walrus_references.specs.References.{table_items, init_items, global_items, value_items, data_items, element_items, place_items, held_items}
use Rattle.walrus_meaning.specs.Words.{own_expr, const_seen}
use Rattle.walrus_meaning.specs.Meaning.{table_init, own_table, own_global, own_value_of, own_element, own_element_mode, own_elements, own_segment, own_data_mode}
use Rattle.walrus_pass_laws.specs.Items.{own_item, own_items, ItemsNameWhatIsMeant}
use Rattle.walrus_pass_laws.proofs.Sets.{flat_append, map_append}

pub own_append : (xs ys : List Item) → own_items (xs ++ ys) ≡ own_items xs ++ own_items ys
own_append xs ys = map_append own_item xs ys

-- ---- types

heap_meant : (nullable : Bool) (h : HeapType) → own_items (items_of (ref_names (record { nullable = nullable; heap_type = h }))) ≡ abstract.ref_items (record { nullable = nullable; heap_type = h })
heap_meant nullable (Abstract ty) = refl
heap_meant nullable (Shared ty) = refl
heap_meant nullable (Concrete id) = refl
heap_meant nullable (Exact id) = refl

pub ref_meant : (ty : RefType) → own_items (items_of (ref_names ty)) ≡ abstract.ref_items ty
ref_meant ty = heap_meant ty.nullable ty.heap_type

pub val_meant : (ty : ValType) → own_items (items_of (val_names ty)) ≡ abstract.value_items ty
val_meant I32 = refl
val_meant I64 = refl
val_meant F32 = refl
val_meant F64 = refl
val_meant V128 = refl
val_meant (Ref ty) = ref_meant ty

-- ---- constant expressions

abbrev op_items : Seen → List grammar.Item
op_items op = abstract.names_items abstract.no_locals (operator_names op)

null_meant : (nullable : Bool) (h : HeapType) → own_items (items_of (op_names (consts.RefNull (record { nullable = nullable; heap_type = h })))) ≡ op_items (const_seen (consts.RefNull (record { nullable = nullable; heap_type = h })))
null_meant nullable (Abstract ty) = refl
null_meant nullable (Shared ty) = refl
null_meant nullable (Concrete id) = refl
null_meant nullable (Exact id) = refl

op_meant : (c : ConstOp) → own_items (items_of (op_names c)) ≡ op_items (const_seen c)
op_meant (consts.RefNull ty) = null_meant ty.nullable ty.heap_type
op_meant _ = refl

ops_meant : (cs : List ConstOp) → own_items (items_of (events_of op_names cs)) ≡ abstract.expr_items (map const_seen cs)
ops_meant [] = refl
ops_meant (c ∷ cs) =
    ap own_items (flat_append event_items (op_names c) (events_of op_names cs))
    ∙ own_append (items_of (op_names c)) (items_of (events_of op_names cs))
    ∙ ap (λ (l : List grammar.Item). l ++ own_items (items_of (events_of op_names cs))) (op_meant c)
    ∙ ap (λ (l : List grammar.Item). op_items (const_seen c) ++ l) (ops_meant cs)

module _ (tell : ExprsTellOps) where
  pub expr_meant : (e : ConstExpr) → own_items (items_of (expr_names e)) ≡ abstract.expr_items (own_expr e)
  expr_meant e = ap (λ (es : List Event). own_items (items_of es)) (tell e) ∙ ops_meant (ops_of e)

  -- ---- tables, globals and segments

  init_meant : (o : Option ConstExpr) → own_items (init_items o) ≡ abstract.init_items (option_map own_expr o)
  init_meant (Some e) = expr_meant e
  init_meant None = refl

  two : (xs ys : List Item) (us vs : List grammar.Item) → own_items xs ≡ us → own_items ys ≡ vs → own_items (xs ++ ys) ≡ us ++ vs
  two xs ys us vs e f = own_append xs ys ∙ ap (λ (l : List grammar.Item). l ++ own_items ys) e ∙ ap (λ (l : List grammar.Item). us ++ l) f

  pub table_meant : (t : Table) → own_items (table_items t) ≡ abstract.table_items (own_table t)
  table_meant t = two (items_of (ref_names t.element_ty)) (init_items (table_init t)) (abstract.ref_items t.element_ty) (abstract.init_items (option_map own_expr (table_init t))) (ref_meant t.element_ty) (init_meant (table_init t))

  value_meant : (k : GlobalKind) → own_items (value_items k) ≡ abstract.origin_items abstract.expr_items (own_value_of k)
  value_meant (globals.Import i) = refl
  value_meant (globals.Local e) = expr_meant e

  pub global_meant : (g : Global) → own_items (global_items g) ≡ abstract.global_items (own_global g)
  global_meant g = two (items_of (val_names g.ty)) (value_items g.kind) (abstract.value_items g.ty) (abstract.origin_items abstract.expr_items (own_value_of g.kind)) (val_meant g.ty) (value_meant g.kind)

  data_meant : (k : DataKind) → own_items (data_items k) ≡ abstract.mode_items spaces.Memory (own_data_mode k)
  data_meant (datas.Active memory offset) = ap (λ (l : List grammar.Item). own_item (item spaces.Memory memory) ∷ l) (expr_meant offset)
  data_meant datas.Passive = refl

  pub segment_meant : (d : Data) → own_items (data_items d.kind) ≡ abstract.segment_items (own_segment d)
  segment_meant d = data_meant d.kind

  place_meant : (k : ElementKind) → own_items (place_items k) ≡ abstract.mode_items spaces.Table (own_element_mode k)
  place_meant (elements.Active table offset) = ap (λ (l : List grammar.Item). own_item (item spaces.Table table) ∷ l) (expr_meant offset)
  place_meant elements.Passive = refl
  place_meant elements.Declared = refl

  functions_meant : (ids : List ℕ) → own_items (map (item spaces.Function) ids) ≡ map (abstract.item spaces.Function) ids
  functions_meant [] = refl
  functions_meant (id ∷ ids) = ap (λ (l : List grammar.Item). abstract.item spaces.Function id ∷ l) (functions_meant ids)

  exprs_meant : (es : List ConstExpr) → own_items (flat_map (λ e. items_of (expr_names e)) es) ≡ flat_map abstract.expr_items (map own_expr es)
  exprs_meant [] = refl
  exprs_meant (e ∷ es) = two (items_of (expr_names e)) (flat_map (λ e. items_of (expr_names e)) es) (abstract.expr_items (own_expr e)) (flat_map abstract.expr_items (map own_expr es)) (expr_meant e) (exprs_meant es)

  held_meant : (k : ElementItems) → own_items (held_items k) ≡ abstract.held_items (own_elements k)
  held_meant (holds.Functions ids) = functions_meant ids.items
  held_meant (holds.Expressions ty es) =
      two (items_of (ref_names ty)) (flat_map (λ e. items_of (expr_names e)) es.items) (abstract.ref_items ty) (flat_map abstract.expr_items (map own_expr es.items)) (ref_meant ty) (exprs_meant es.items)

  pub element_meant : (e : Element) → own_items (element_items e) ≡ abstract.element_items (own_element e)
  element_meant e = two (place_items e.kind) (held_items e.items) (abstract.mode_items spaces.Table (own_element_mode e.kind)) (abstract.held_items (own_elements e.items)) (place_meant e.kind) (held_meant e.items)

pub items_meant : ExprsTellOps → ItemsNameWhatIsMeant
items_meant tell = record {
  references = ref_meant;
  values = val_meant;
  expressions = expr_meant tell;
  tables = table_meant tell;
  globals = global_meant tell;
  tags = λ t. refl;
  elements = element_meant tell;
  segments = segment_meant tell;
}
