-- Lemmas: the functions that are marked as referred to and as declared are those that a plan wants and holds.
use Rattle.std.specs.Prelude.{ℕ, zero, suc, ◌≡◌, ◌+◌, ◌<◌, ◌≤◌, ◌⊎◌, ◌&&◌, ◌++◌, Bool, true, false, not, List, [], ◌∷◌, filter, fold, length, map, replicate, Option, Some, None, slice_get, refl, if◌then◌else◌}
use Rattle.std.specs.List.{AllZip, flat_map}
use Rattle.std.specs.Option.{option_map}
use Rattle.std.proofs.Common.{inl, inr, ap, sym, subst, ◌∙◌, arith}
use Rattle.std.proofs.lemmas.Bool.{cases_Bool, cases_lt, false≢true}
use Rattle.std.proofs.lemmas.List.{length-map}
use Rattle.std.proofs.lemmas.Option.{none-some, same_Some}
use Rattle.walrus_arena.specs.Arena.{entries, entries_from}
use Rattle.walrus_body_names.specs.Names.{function_in, piece_names, text_names}
use Rattle.walrus_builder.specs.Functions.{seqs_of}
use Rattle.walrus_collections.specs.LookUps.{items, local_entries}
use Rattle.walrus_emit_numbers.specs.Facts.{AreFacts}
use Rattle.walrus_emit_numbers.specs.Undeclared.{declared, is_alone, is_marked, mark, mark_body, mark_element, mark_export, mark_expr, mark_global, mark_item, mark_op, mark_single, referred, undeclared_of}
use Rattle.walrus_emit_numbers.specs.declared.facts.BodyFacts.{BodyFacts}
use Rattle.walrus_forms.specs.declared.value.HeapType.{HeapType}
use Rattle.walrus_forms.specs.declared.value.HeapType.TheVariants as heaps
use Rattle.walrus_forms.specs.declared.value.ValType.{ValType}
use Rattle.walrus_forms.specs.declared.value.ValType.TheVariants as values
use Rattle.walrus_index_maps.specs.Runs.{run_from}
use Rattle.walrus_instr.specs.declared.const_expr.ConstExpr.{ConstExpr}
use Rattle.walrus_instr.specs.declared.const_expr.ConstExpr.TheVariants as exprs
use Rattle.walrus_instr.specs.declared.const_expr.ConstOp.{ConstOp}
use Rattle.walrus_instr.specs.declared.const_expr.ConstOp.TheVariants as ops
use Rattle.walrus_instr.specs.declared.instr.Instr.{Instr}
use Rattle.walrus_instr.specs.declared.instr.Instr.TheVariants as instrs
use Rattle.walrus_instr.specs.declared.instr.Value.{«Value» as Constant}
use Rattle.walrus_instr.specs.declared.instr.Value.TheVariants as constants
use Rattle.walrus_instr.specs.declared.seq.InstrLocId.{InstrLocId}
use Rattle.walrus_items.specs.declared.local.Local.{Local}
use Rattle.walrus_local_function.specs.declared.local_function.LocalFunction.{LocalFunction}
use Rattle.walrus_meaning.specs.Bodies.{depth_of, local_ids, own_instr, own_piece, own_seen}
use Rattle.walrus_meaning.specs.Meaning.{own_element, own_export, own_global}
use Rattle.walrus_meaning.specs.Words.{const_seen, own_expr}
use Rattle.walrus_module.specs.Parts.{parts}
use Rattle.walrus_module.specs.declared.module.Module.{Module}
use Rattle.walrus_module_items.specs.declared.element.Element.{Element}
use Rattle.walrus_module_items.specs.declared.element.ElementItems.{ElementItems}
use Rattle.walrus_module_items.specs.declared.element.ElementItems.TheVariants as holds
use Rattle.walrus_module_items.specs.declared.export.Export.{Export}
use Rattle.walrus_module_items.specs.declared.export.ExportItem.{ExportItem}
use Rattle.walrus_module_items.specs.declared.export.ExportItem.TheVariants as outs
use Rattle.walrus_module_items.specs.declared.function.Function.{Function}
use Rattle.walrus_module_items.specs.declared.function.FunctionKind.{FunctionKind}
use Rattle.walrus_module_items.specs.declared.function.FunctionKind.TheVariants as kinds
use Rattle.walrus_module_items.specs.declared.global.Global.{Global}
use Rattle.walrus_module_items.specs.declared.global.GlobalKind.{GlobalKind}
use Rattle.walrus_module_items.specs.declared.global.GlobalKind.TheVariants as globals
use Rattle.walrus_codes.specs.Binary.{binary_code, binary_lane}
use Rattle.walrus_codes.specs.Unary.{unary_code, unary_lane}
use Rattle.walrus_pairing.specs.Write.{lane_items, operator_at}
use Rattle.walrus_parse_gc_laws.specs.Numbered.{numbered, numbered_function}
use Rattle.walrus_tree.specs.Text.{Piece, Operator, Else, Catch, CatchAll, Delegate, End, operators}
use Rattle.walrus_builder.specs.walrus_walks.walrus_instr.declared.seq.InstrSeq.{InstrSeq}
use Rattle.wasm_grammar.specs.Modules as grammar
use Rattle.wasm_operators.specs.Items.{Types, Functions, Tables, Memories, Tags, Globals, ElementSegments, DataSegments, Locals, Labels, Item, Names, Number, S32, S64, Bits, Byte, Bytes, Heap, Block, Access, ManyLabels, ManyValues, ManyClauses}
use Rattle.wasm_operators.specs.NameLaws.{same}
use Rattle.wasm_operators.specs.Names.{Renaming, renamed_item, renamed_operator}
use Rattle.wasm_part.specs.Closed.{Rise}
use Rattle.wasm_part.specs.Order.{HasDeclared, Holds, Wants}
use Rattle.wasm_part.specs.Part.{Plan}
use Rattle.wasm_ruled_renamed.specs.Bodies.{with_numbers}
use Rattle.wasm_ruled_renamed.specs.Renamed.{renamed_placed}
use Rattle.walrus_types.proofs.Places.{Has, contains_has, has_contains}
use Rattle.walrus_declared_laws.specs.Declared.{UndeclaredAreDeclared, in_one}
use Rattle.walrus_declared_laws.specs.Wanted.{AreTold, ListsAll, WantsAreTold, element_names, export_names, function_refs, global_refs, held, is_ref, referred_in, refs, single_refs, wanted}

-- ---- what an instruction refers to

select_refs : (b : List InstrSeq) (depth : ℕ → ℕ) (ty : ValType) → refs (own_instr b depth (instrs.Select (Some ty))) ≡ []
unfolding operator_at
select_refs b depth values.I32 = refl
select_refs b depth values.I64 = refl
select_refs b depth values.F32 = refl
select_refs b depth values.F64 = refl
select_refs b depth values.V128 = refl
select_refs b depth (values.Ref ty) = by ty.heap_type
  where
    by : (h : HeapType) → refs (own_instr b depth (instrs.Select (Some (values.Ref (record { nullable = ty.nullable; heap_type = h }))))) ≡ []
    by (heaps.Abstract a) = refl
    by (heaps.Shared a) = refl
    by (heaps.Concrete id) = refl
    by (heaps.Exact id) = refl

refnull_refs : (b : List InstrSeq) (depth : ℕ → ℕ) (nullable : Bool) (h : HeapType) → refs (own_instr b depth (instrs.RefNull (record { nullable = nullable; heap_type = h }))) ≡ []
unfolding operator_at
refnull_refs b depth nullable (heaps.Abstract a) = refl
refnull_refs b depth nullable (heaps.Shared a) = refl
refnull_refs b depth nullable (heaps.Concrete id) = refl
refnull_refs b depth nullable (heaps.Exact id) = refl

reftest_refs : (b : List InstrSeq) (depth : ℕ → ℕ) (nullable : Bool) (h : HeapType) → refs (own_instr b depth (instrs.RefTest (record { nullable = nullable; heap_type = h }))) ≡ []
unfolding operator_at
reftest_refs b depth nullable (heaps.Abstract a) = refl
reftest_refs b depth nullable (heaps.Shared a) = refl
reftest_refs b depth nullable (heaps.Concrete id) = refl
reftest_refs b depth nullable (heaps.Exact id) = refl

refcast_refs : (b : List InstrSeq) (depth : ℕ → ℕ) (nullable : Bool) (h : HeapType) → refs (own_instr b depth (instrs.RefCast (record { nullable = nullable; heap_type = h }))) ≡ []
unfolding operator_at
refcast_refs b depth nullable (heaps.Abstract a) = refl
refcast_refs b depth nullable (heaps.Shared a) = refl
refcast_refs b depth nullable (heaps.Concrete id) = refl
refcast_refs b depth nullable (heaps.Exact id) = refl

lane_refs : (o : Option ℕ) (b : Bool) → referred_in (lane_items o) b ≡ []
lane_refs None b = refl
lane_refs (Some lane) b = refl

instr_refs : (b : List InstrSeq) (depth : ℕ → ℕ) (i : Instr) → refs (own_instr b depth i) ≡ function_in i
unfolding operator_at
instr_refs b depth (instrs.Block seq) = refl
instr_refs b depth (instrs.Loop seq) = refl
instr_refs b depth (instrs.IfElse consequent alternative) = refl
instr_refs b depth (instrs.Try seq catches) = refl
instr_refs b depth (instrs.TryTable seq catches) = refl
instr_refs b depth instrs.Unreachable = refl
instr_refs b depth (instrs.Br block) = refl
instr_refs b depth (instrs.BrIf block) = refl
instr_refs b depth (instrs.BrTable other blocks) = refl
instr_refs b depth (instrs.BrOnNull block) = refl
instr_refs b depth (instrs.BrOnNonNull block) = refl
instr_refs b depth (instrs.BrOnCast block from_ty to_ty) = refl
instr_refs b depth (instrs.BrOnCastFail block from_ty to_ty) = refl
instr_refs b depth instrs.Return = refl
instr_refs b depth (instrs.Throw tag) = refl
instr_refs b depth instrs.ThrowRef = refl
instr_refs b depth (instrs.Rethrow relative_depth) = refl
instr_refs b depth (instrs.Call func) = refl
instr_refs b depth (instrs.CallIndirect ty table) = refl
instr_refs b depth (instrs.CallRef ty) = refl
instr_refs b depth (instrs.ReturnCall func) = refl
instr_refs b depth (instrs.ReturnCallIndirect ty table) = refl
instr_refs b depth (instrs.ReturnCallRef ty) = refl
instr_refs b depth instrs.Drop = refl
instr_refs b depth (instrs.Select None) = refl
instr_refs b depth (instrs.Select (Some ty)) = select_refs b depth ty
instr_refs b depth (instrs.Const (constants.I32 z)) = refl
instr_refs b depth (instrs.Const (constants.I64 z)) = refl
instr_refs b depth (instrs.Const (constants.F32 bits)) = refl
instr_refs b depth (instrs.Const (constants.F64 bits)) = refl
instr_refs b depth (instrs.Const (constants.V128 bits)) = refl
instr_refs b depth (instrs.Unop op) = lane_refs (unary_lane op) (is_ref (unary_code op))
instr_refs b depth (instrs.Binop op) = lane_refs (binary_lane op) (is_ref (binary_code op))
instr_refs b depth (instrs.TernOp op) = refl
instr_refs b depth instrs.I64Add128 = refl
instr_refs b depth instrs.I64Sub128 = refl
instr_refs b depth instrs.V128Bitselect = refl
instr_refs b depth instrs.I8x16Swizzle = refl
instr_refs b depth (instrs.I8x16Shuffle indices) = refl
instr_refs b depth (instrs.LocalGet local) = refl
instr_refs b depth (instrs.LocalSet local) = refl
instr_refs b depth (instrs.LocalTee local) = refl
instr_refs b depth (instrs.GlobalGet global) = refl
instr_refs b depth (instrs.GlobalSet global) = refl
instr_refs b depth (instrs.TableGet table) = refl
instr_refs b depth (instrs.TableSet table) = refl
instr_refs b depth (instrs.TableGrow table) = refl
instr_refs b depth (instrs.TableSize table) = refl
instr_refs b depth (instrs.TableFill table) = refl
instr_refs b depth (instrs.TableInit table elem) = refl
instr_refs b depth (instrs.ElemDrop elem) = refl
instr_refs b depth (instrs.TableCopy src dst) = refl
instr_refs b depth (instrs.Load memory kind arg) = refl
instr_refs b depth (instrs.Store memory kind arg) = refl
instr_refs b depth (instrs.LoadSimd memory kind arg) = refl
instr_refs b depth (instrs.MemorySize memory) = refl
instr_refs b depth (instrs.MemoryGrow memory) = refl
instr_refs b depth (instrs.MemoryInit memory segment) = refl
instr_refs b depth (instrs.DataDrop segment) = refl
instr_refs b depth (instrs.MemoryCopy src dst) = refl
instr_refs b depth (instrs.MemoryFill memory) = refl
instr_refs b depth (instrs.AtomicRmw memory op width arg) = refl
instr_refs b depth (instrs.Cmpxchg memory width arg) = refl
instr_refs b depth (instrs.AtomicNotify memory arg) = refl
instr_refs b depth (instrs.AtomicWait memory arg sixty_four) = refl
instr_refs b depth instrs.AtomicFence = refl
instr_refs b depth (instrs.RefNull ty) = refnull_refs b depth ty.nullable ty.heap_type
instr_refs b depth instrs.RefIsNull = refl
instr_refs b depth (instrs.RefFunc func) = refl
instr_refs b depth instrs.RefEq = refl
instr_refs b depth instrs.RefAsNonNull = refl
instr_refs b depth (instrs.RefTest ty) = reftest_refs b depth ty.nullable ty.heap_type
instr_refs b depth (instrs.RefCast ty) = refcast_refs b depth ty.nullable ty.heap_type
instr_refs b depth instrs.RefI31 = refl
instr_refs b depth instrs.I31GetS = refl
instr_refs b depth instrs.I31GetU = refl
instr_refs b depth instrs.AnyConvertExtern = refl
instr_refs b depth instrs.ExternConvertAny = refl
instr_refs b depth (instrs.StructNew ty) = refl
instr_refs b depth (instrs.StructNewDefault ty) = refl
instr_refs b depth (instrs.StructGet ty field) = refl
instr_refs b depth (instrs.StructGetS ty field) = refl
instr_refs b depth (instrs.StructGetU ty field) = refl
instr_refs b depth (instrs.StructSet ty field) = refl
instr_refs b depth (instrs.ArrayNew ty) = refl
instr_refs b depth (instrs.ArrayNewDefault ty) = refl
instr_refs b depth (instrs.ArrayNewFixed ty size) = refl
instr_refs b depth (instrs.ArrayNewData ty segment) = refl
instr_refs b depth (instrs.ArrayNewElem ty elem) = refl
instr_refs b depth (instrs.ArrayGet ty) = refl
instr_refs b depth (instrs.ArrayGetS ty) = refl
instr_refs b depth (instrs.ArrayGetU ty) = refl
instr_refs b depth (instrs.ArraySet ty) = refl
instr_refs b depth instrs.ArrayLen = refl
instr_refs b depth (instrs.ArrayFill ty) = refl
instr_refs b depth (instrs.ArrayCopy src dst) = refl
instr_refs b depth (instrs.ArrayInitData ty segment) = refl
instr_refs b depth (instrs.ArrayInitElem ty elem) = refl

piece_refs : (b : List InstrSeq) (p : Piece) → refs (own_seen b p) ≡ piece_names function_in p
piece_refs b (Operator around instr) = instr_refs b (depth_of around) instr
piece_refs b Else = refl
piece_refs b (Catch tag) = refl
piece_refs b CatchAll = refl
piece_refs b (Delegate outer) = refl
piece_refs b End = refl

-- ---- functions keep their numbers

module _ (w : Renaming) (functions : (n : ℕ) → w Functions n ≡ n) where
  renamed_in : (xs : List Item) (b : Bool) → referred_in (map (renamed_item w) xs) b ≡ referred_in xs b
  renamed_in [] b = refl
  renamed_in (Names Functions n ∷ []) b = ap (λ (k : ℕ). if b then k ∷ [] else []) (functions n)
  renamed_in (Names Functions n ∷ x ∷ more) b = refl
  renamed_in (Names Types n ∷ more) b = refl
  renamed_in (Names Tables n ∷ more) b = refl
  renamed_in (Names Memories n ∷ more) b = refl
  renamed_in (Names Tags n ∷ more) b = refl
  renamed_in (Names Globals n ∷ more) b = refl
  renamed_in (Names ElementSegments n ∷ more) b = refl
  renamed_in (Names DataSegments n ∷ more) b = refl
  renamed_in (Names Locals n ∷ more) b = refl
  renamed_in (Names Labels n ∷ more) b = refl
  renamed_in (Number n ∷ more) b = refl
  renamed_in (S32 z ∷ more) b = refl
  renamed_in (S64 z ∷ more) b = refl
  renamed_in (Bits size n ∷ more) b = refl
  renamed_in (Byte y ∷ more) b = refl
  renamed_in (Bytes run ∷ more) b = refl
  renamed_in (Heap ty ∷ more) b = refl
  renamed_in (Block ty ∷ more) b = refl
  renamed_in (Access a ∷ more) b = refl
  renamed_in (ManyLabels ns ∷ more) b = refl
  renamed_in (ManyValues tys ∷ more) b = refl
  renamed_in (ManyClauses cs ∷ more) b = refl

  text_refs : (b : List InstrSeq) (ps : List (Piece × InstrLocId)) → text_names function_in ps ≡ flat_map (λ (o : grammar.Placed). refs o.op) (map (renamed_placed w) (map (own_piece b) ps))
  text_refs b [] = refl
  text_refs b (p ∷ ps) =
      let first : piece_names function_in p.0 ≡ refs (renamed_operator w (own_seen b p.0)) = sym (renamed_in (own_seen b p.0).items (is_ref (own_seen b p.0).code) ∙ piece_refs b p.0) in
      ap (λ (l : List ℕ). l ++ text_names function_in ps) first ∙ ap (λ (l : List ℕ). refs (renamed_operator w (own_seen b p.0)) ++ l) (text_refs b ps)

-- ---- constant expressions

op_marks : (marks : List Bool) (c : ConstOp) → mark_op marks c ≡ fold mark marks (refs (const_seen c))
op_marks marks (ops.I32Const z) = refl
op_marks marks (ops.I64Const z) = refl
op_marks marks (ops.F32Const bits) = refl
op_marks marks (ops.F64Const bits) = refl
op_marks marks (ops.V128Const bits) = refl
op_marks marks (ops.GlobalGet global) = refl
op_marks marks (ops.RefNull ty) = refl
op_marks marks (ops.RefFunc function) = refl
op_marks marks ops.I32Add = refl
op_marks marks ops.I32Sub = refl
op_marks marks ops.I32Mul = refl
op_marks marks ops.I64Add = refl
op_marks marks ops.I64Sub = refl
op_marks marks ops.I64Mul = refl
op_marks marks ops.RefI31 = refl
op_marks marks (ops.StructNew ty) = refl
op_marks marks (ops.StructNewDefault ty) = refl
op_marks marks (ops.ArrayNew ty) = refl
op_marks marks (ops.ArrayNewDefault ty) = refl
op_marks marks (ops.ArrayNewFixed ty size) = refl
op_marks marks ops.AnyConvertExtern = refl
op_marks marks ops.ExternConvertAny = refl

fold_both : (marks : List Bool) (xs ys : List ℕ) → fold mark marks (xs ++ ys) ≡ fold mark (fold mark marks xs) ys
fold_both marks [] ys = refl
fold_both marks (x ∷ xs) ys = fold_both (mark marks x) xs ys

ops_marks : (marks : List Bool) (cs : List ConstOp) → fold mark_op marks cs ≡ fold mark marks (flat_map refs (map const_seen cs))
ops_marks marks [] = refl
ops_marks marks (c ∷ cs) =
    ap (λ (s : List Bool). fold mark_op s cs) (op_marks marks c) ∙ ops_marks (fold mark marks (refs (const_seen c))) cs
    ∙ sym (fold_both marks (refs (const_seen c)) (flat_map refs (map const_seen cs)))

value_refs : (v : Constant) → flat_map refs (own_expr (exprs.«Value» v)) ≡ []
value_refs (constants.I32 z) = refl
value_refs (constants.I64 z) = refl
value_refs (constants.F32 bits) = refl
value_refs (constants.F64 bits) = refl
value_refs (constants.V128 bits) = refl

value_single : (v : Constant) → single_refs (own_expr (exprs.«Value» v)) ≡ []
value_single (constants.I32 z) = refl
value_single (constants.I64 z) = refl
value_single (constants.F32 bits) = refl
value_single (constants.F64 bits) = refl
value_single (constants.V128 bits) = refl

expr_marks : (marks : List Bool) (e : ConstExpr) → mark_expr marks e ≡ fold mark marks (flat_map refs (own_expr e))
expr_marks marks (exprs.«Value» v) = sym (ap (λ (l : List ℕ). fold mark marks l) (value_refs v))
expr_marks marks (exprs.Global g) = refl
expr_marks marks (exprs.RefNull ty) = refl
expr_marks marks (exprs.RefFunc function) = refl
expr_marks marks (exprs.Extended list) = ops_marks marks list.items

single_marks : (marks : List Bool) (cs : List ConstOp) → mark_single marks cs ≡ fold mark marks (single_refs (map const_seen cs))
single_marks marks [] = refl
single_marks marks (c ∷ []) = op_marks marks c
single_marks marks (c ∷ other ∷ cs) = refl

item_marks : (marks : List Bool) (e : ConstExpr) → mark_item marks e ≡ fold mark marks (single_refs (own_expr e))
item_marks marks (exprs.«Value» v) = sym (ap (λ (l : List ℕ). fold mark marks l) (value_single v))
item_marks marks (exprs.Global g) = refl
item_marks marks (exprs.RefNull ty) = refl
item_marks marks (exprs.RefFunc function) = refl
item_marks marks (exprs.Extended list) = single_marks marks list.items

items_marks : (marks : List Bool) (es : List ConstExpr) → fold mark_item marks es ≡ fold mark marks (flat_map single_refs (map own_expr es))
items_marks marks [] = refl
items_marks marks (e ∷ es) =
    ap (λ (s : List Bool). fold mark_item s es) (item_marks marks e) ∙ items_marks (fold mark marks (single_refs (own_expr e))) es
    ∙ sym (fold_both marks (single_refs (own_expr e)) (flat_map single_refs (map own_expr es)))

-- ---- items

global_marks : (marks : List Bool) (g : Global) → mark_global marks g ≡ fold mark marks (global_refs (Some (own_global g)))
global_marks marks g = by g.kind refl
  where
    by : (k : GlobalKind) → g.kind ≡ k → mark_global marks g ≡ fold mark marks (global_refs (Some (own_global g)))
    by (globals.Import i) e = rw e refl
    by (globals.Local init) e = rw e (expr_marks marks init)

export_marks : (marks : List Bool) (e : Export) → mark_export marks e ≡ fold mark marks (export_names (Some (own_export e)))
export_marks marks e = by e.item refl
  where
    by : (x : ExportItem) → e.item ≡ x → mark_export marks e ≡ fold mark marks (export_names (Some (own_export e)))
    by (outs.Function function) is = rw is refl
    by (outs.Table id) is = rw is refl
    by (outs.Memory id) is = rw is refl
    by (outs.Global id) is = rw is refl
    by (outs.Tag id) is = rw is refl

element_marks : (marks : List Bool) (e : Element) → mark_element marks e ≡ fold mark marks (element_names (Some (own_element e)))
element_marks marks e = by e.items refl
  where
    by : (x : ElementItems) → e.items ≡ x → mark_element marks e ≡ fold mark marks (element_names (Some (own_element e)))
    by (holds.Functions functions) is = rw is refl
    by (holds.Expressions ty list) is = rw is (items_marks marks list.items)

module _ {X Y : Type 0} (step : List Bool → X → List Bool) (own : X → Y) (names : Option Y → List ℕ) (none : names None ≡ []) (one : (marks : List Bool) (x : X) → step marks x ≡ fold mark marks (names (Some (own x)))) where
  slots_marks : (k : ℕ) (slots : List (Option X)) (marks : List Bool) → fold step marks (map (λ (e : ℕ × X). e.1) (entries_from k slots)) ≡ fold mark marks (flat_map names (map (option_map own) slots))
  slots_marks k [] marks = refl
  slots_marks k (None ∷ slots) marks =
      slots_marks (k + 1) slots marks ∙ sym (ap (λ (l : List ℕ). fold mark marks (l ++ flat_map names (map (option_map own) slots))) none)
  slots_marks k (Some x ∷ slots) marks =
      ap (λ (s : List Bool). fold step s (map (λ (e : ℕ × X). e.1) (entries_from (k + 1) slots))) (one marks x) ∙ slots_marks (k + 1) slots (fold mark marks (names (Some (own x))))
      ∙ sym (fold_both marks (names (Some (own x))) (flat_map names (map (option_map own) slots)))

-- ---- bodies

abbrev body_text : ℕ × LocalFunction → List ℕ
body_text e = text_names function_in (operators (seqs_of e.1.builder) 0)

facts_marks : (es : List (ℕ × LocalFunction)) (facts : List BodyFacts) (marks : List Bool) → AllZip AreFacts es facts → fold mark_body marks facts ≡ fold mark marks (flat_map body_text es)
facts_marks [] [] marks z = refl
facts_marks [] (f ∷ facts) marks z = absurd z
facts_marks (e ∷ es) [] marks z = absurd z
facts_marks (e ∷ es) (f ∷ facts) marks z =
    ap (λ (l : List ℕ). fold mark_body (fold mark marks l) facts) z.0.referred ∙ facts_marks es facts (fold mark marks (body_text e)) z.1
    ∙ sym (fold_both marks (body_text e) (flat_map body_text es))

module _ (locals : List Local) where
  one_body : (k : ℕ) (f : Function) (es : List (ℕ × Function)) → flat_map body_text (local_entries ((k, f) ∷ es)) ≡ function_refs (Some (numbered_function locals f)) ++ flat_map body_text (local_entries es)
  one_body k f es = by f.kind refl
    where
      by : (x : FunctionKind) → f.kind ≡ x → flat_map body_text (local_entries ((k, f) ∷ es)) ≡ function_refs (Some (numbered_function locals f)) ++ flat_map body_text (local_entries es)
      by (kinds.Import i) e = rw e refl
      by (kinds.Local local) e =
          rw e (ap (λ (l : List ℕ). l ++ flat_map body_text (local_entries es)) (text_refs (with_numbers (depth_of (local_ids locals local)) same) (λ n. refl) (seqs_of local.builder) (operators (seqs_of local.builder) 0)))
      by (kinds.Uninitialized ty) e = rw e refl

  all_bodies : (k : ℕ) (slots : List (Option Function)) → flat_map body_text (local_entries (entries_from k slots)) ≡ flat_map function_refs (map (option_map (numbered_function locals)) slots)
  all_bodies k [] = refl
  all_bodies k (None ∷ slots) = all_bodies (k + 1) slots
  all_bodies k (Some f ∷ slots) =
      one_body k f (entries_from (k + 1) slots) ∙ ap (λ (l : List ℕ). function_refs (Some (numbered_function locals f)) ++ l) (all_bodies (k + 1) slots)

-- ---- marks

set_length : (ms : List Bool) (i : ℕ) → length (mark ms i) ≡ length ms
set_length [] i = refl
set_length (m ∷ ms) zero = refl
set_length (m ∷ ms) (suc i) = ap suc (set_length ms i)

set_here : (ms : List Bool) (i : ℕ) → i < length ms → is_marked (mark ms i) i ≡ true
set_here [] i lt = absurd (omega (arith, lt))
set_here (m ∷ ms) zero lt = refl
set_here (m ∷ ms) (suc i) lt = set_here ms i (omega (arith, lt))

set_keeps : (ms : List Bool) (i n : ℕ) → is_marked ms n ≡ true → is_marked (mark ms i) n ≡ true
set_keeps [] i n e = e
set_keeps (m ∷ ms) zero zero e = refl
set_keeps (m ∷ ms) zero (suc n) e = e
set_keeps (m ∷ ms) (suc i) zero e = e
set_keeps (m ∷ ms) (suc i) (suc n) e = set_keeps ms i n e

set_back : (ms : List Bool) (i n : ℕ) → is_marked (mark ms i) n ≡ true → (i ≡ n) ⊎ (is_marked ms n ≡ true)
set_back [] i n e = inr e
set_back (m ∷ ms) zero zero e = inl refl
set_back (m ∷ ms) zero (suc n) e = inr e
set_back (m ∷ ms) (suc i) zero e = inr e
set_back (m ∷ ms) (suc i) (suc n) e = elim (set_back ms i n e) as (λ _. (suc i ≡ suc n) ⊎ (is_marked ms n ≡ true)) [ inl same_is ↦ inl (ap suc same_is) | inr was ↦ inr was ]

fold_keeps : (ns : List ℕ) (ms : List Bool) (n : ℕ) → is_marked ms n ≡ true → is_marked (fold mark ms ns) n ≡ true
fold_keeps [] ms n e = e
fold_keeps (k ∷ ns) ms n e = fold_keeps ns (mark ms k) n (set_keeps ms k n e)

fold_has : (ns : List ℕ) (ms : List Bool) (n p : ℕ) → n < length ms → slice_get ns p ≡ Some n → is_marked (fold mark ms ns) n ≡ true
fold_has [] ms n p lt at = absurd (none-some n at)
fold_has (k ∷ ns) ms n zero lt at =
    let e : k ≡ n = same_Some k n at in
    fold_keeps ns (mark ms k) n (ap (λ (i : ℕ). is_marked (mark ms i) n) e ∙ set_here ms n lt)
fold_has (k ∷ ns) ms n (suc p) lt at = fold_has ns (mark ms k) n p (let l = set_length ms k in omega (arith, l, lt)) at

fold_back : (ns : List ℕ) (ms : List Bool) (n : ℕ) → is_marked (fold mark ms ns) n ≡ true → Has ns n ⊎ (is_marked ms n ≡ true)
fold_back [] ms n e = inr e
fold_back (k ∷ ns) ms n e = elim (fold_back ns (mark ms k) n e) as (λ _. Has (k ∷ ns) n ⊎ (is_marked ms n ≡ true)) [
  | inl there ↦ inl (suc there.0, there.1)
  | inr here ↦ elim (set_back ms k n here) as (λ _. Has (k ∷ ns) n ⊎ (is_marked ms n ≡ true)) [ inl same_is ↦ inl (0, ap (λ (j : ℕ). let o : Option ℕ = Some j in o) same_is) | inr was ↦ inr was ]
]

none_marked : (count n : ℕ) → is_marked (replicate count false) n ≡ false
none_marked zero n = refl
none_marked (suc count) zero = refl
none_marked (suc count) (suc n) = none_marked count n

replicate_length : (count : ℕ) → length (replicate count false) ≡ count
replicate_length zero = refl
replicate_length (suc count) = ap suc (replicate_length count)

-- ---- the numbers that pass

run_at : (first count i n : ℕ) → slice_get (run_from first count) i ≡ Some n → first ≤ n
run_at first zero i n at = absurd (none-some n at)
run_at first (suc count) zero n at = let e = same_Some first n at in omega (arith, e)
run_at first (suc count) (suc i) n at = let le = run_at (suc first) count i n at in omega (arith, le)

at_run : (first count n : ℕ) → first ≤ n → n < first + count → Has (run_from first count) n
at_run first zero n le lt = absurd (omega (arith, le, lt))
at_run first (suc count) n le lt = elim (cases_lt first n) as (λ _. Has (run_from first (suc count)) n) [
  | inl less ↦ (let h = at_run (suc first) count n (omega (arith, less)) (omega (arith, lt)) in (suc h.0, h.1))
  | inr more ↦ (0, ap (λ (j : ℕ). let o : Option ℕ = Some j in o) (let e : first ≡ n = omega (arith, le, more) in e))
]

passed : (test : ℕ → Bool) (x : ℕ) (more : List ℕ) → test x ≡ true → filter test (x ∷ more) ≡ x ∷ filter test more
passed test x more passes = ap (λ (b : Bool). if b then x ∷ filter test more else filter test more) passes

failed : (test : ℕ → Bool) (x : ℕ) (more : List ℕ) → test x ≡ false → filter test (x ∷ more) ≡ filter test more
failed test x more fails = ap (λ (b : Bool). if b then x ∷ filter test more else filter test more) fails

has_at : (xs ys : List ℕ) (n : ℕ) → xs ≡ ys → Has ys n → Has xs n
has_at xs ys n e h = subst (λ (l : List ℕ). Has l n) (sym e) h

filter_in : (test : ℕ → Bool) (xs : List ℕ) (n p : ℕ) → test n ≡ true → slice_get xs p ≡ Some n → Has (filter test xs) n
filter_in test [] n p e at = absurd (none-some n at)
filter_in test (x ∷ xs) n zero e at =
    let is : x ≡ n = same_Some x n at in
    has_at (filter test (x ∷ xs)) (x ∷ filter test xs) n (passed test x xs (ap test is ∙ e)) (0, at)
filter_in test (x ∷ xs) n (suc p) e at =
    let h = filter_in test xs n p e at in
    elim (cases_Bool (test x)) as (λ _. Has (filter test (x ∷ xs)) n) [
      | inl so ↦ has_at (filter test (x ∷ xs)) (x ∷ filter test xs) n (passed test x xs so) (suc h.0, h.1)
      | inr not_so ↦ has_at (filter test (x ∷ xs)) (filter test xs) n (failed test x xs not_so) h
    ]

cons_has : (x n : ℕ) (ys : List ℕ) (P : Type 0) → (x ≡ n → P) → (Has ys n → P) → Has (x ∷ ys) n → P
cons_has x n ys P here there (zero, at) = here (same_Some x n at)
cons_has x n ys P here there (suc p, at) = there (p, at)

in_filter : (test : ℕ → Bool) (xs : List ℕ) (n : ℕ) → Has (filter test xs) n → test n ≡ true
in_filter test [] n h = absurd (none-some n h.1)
in_filter test (x ∷ xs) n h = elim (cases_Bool (test x)) as (λ _. test n ≡ true) [
  | inl so ↦
      cons_has x n (filter test xs) (test n ≡ true) (λ is. ap test (sym is) ∙ so) (λ later. in_filter test xs n later) (has_at (x ∷ filter test xs) (filter test (x ∷ xs)) n (sym (passed test x xs so)) h)
  | inr not_so ↦ in_filter test xs n (has_at (filter test xs) (filter test (x ∷ xs)) n (sym (failed test x xs not_so)) h)
]

-- they rise from a number on
pub record RiseFrom (first : ℕ) (ns : List ℕ) : Type 0 where
  pub rise : Rise ns
  pub least : (i n : ℕ) → slice_get ns i ≡ Some n → first ≤ n

rise_cons : (first : ℕ) (ns : List ℕ) → RiseFrom (suc first) ns → RiseFrom first (first ∷ ns)
rise_cons first ns h = record { rise = rise; least = least }
  where
    least : (i n : ℕ) → slice_get (first ∷ ns) i ≡ Some n → first ≤ n
    least zero n at = let e = same_Some first n at in omega (arith, e)
    least (suc i) n at = let le = h.least i n at in omega (arith, le)

    rise : Rise (first ∷ ns)
    rise zero zero k n before at_i at_j = absurd (omega (arith, before))
    rise zero (suc j) k n before at_i at_j = let le = h.least j n at_j in let e = same_Some first k at_i in omega (arith, le, e)
    rise (suc i) zero k n before at_i at_j = absurd (omega (arith, before))
    rise (suc i) (suc j) k n before at_i at_j = h.rise i j k n (omega (arith, before)) at_i at_j

rise_on : (first : ℕ) (ns : List ℕ) → RiseFrom (suc first) ns → RiseFrom first ns
rise_on first ns h = record { rise = h.rise; least = λ i n at. (let le = h.least i n at in omega (arith, le)) }

run_rises : (test : ℕ → Bool) (first count : ℕ) → RiseFrom first (filter test (run_from first count))
run_rises test first zero = record { rise = λ i j k n before at_i at_j. absurd (none-some k at_i); least = λ i n at. absurd (none-some n at) }
run_rises test first (suc count) =
    let later = run_rises test (suc first) count in
    elim (cases_Bool (test first)) as (λ _. RiseFrom first (filter test (first ∷ run_from (suc first) count))) [
      | inl so ↦ subst (RiseFrom first) (sym (passed test first (run_from (suc first) count) so)) (rise_cons first (filter test (run_from (suc first) count)) later)
      | inr not_so ↦ subst (RiseFrom first) (sym (failed test first (run_from (suc first) count) not_so)) (rise_on first (filter test (run_from (suc first) count)) later)
    ]

both : (a b : Bool) → (a && not b) ≡ true → (a ≡ true) × (b ≡ true → ⊥)
both true true e = absurd (false≢true e)
both true false e = (refl, λ f. false≢true f)
both false b e = absurd (false≢true e)

alone : (a b : Bool) → a ≡ true → (b ≡ true → ⊥) → (a && not b) ≡ true
alone true true e none = absurd (none refl)
alone true false e none = refl
alone false b e none = absurd (false≢true e)

-- ---- of a module

module _ {B : Type 0} (told : WantsAreTold) (input : Module B) (facts : List BodyFacts) (known : AllZip AreFacts (local_entries (entries input.funcs)) facts) (p : Plan)
    (lists : ListsAll p (numbered (parts input))) (there : (n : ℕ) → Wants (numbered (parts input)) p n → n < length (numbered (parts input)).functions) where
  abbrev m : grammar.Module
  m = numbered (parts input)

  abbrev count : ℕ
  count = length input.funcs.slots

  abbrev start : List Bool
  start = replicate count false

  as_many : length m.functions ≡ count
  as_many = length-map input.funcs.slots (option_map (numbered_function input.locals))

  referred_is : referred input facts ≡ fold mark start (wanted m)
  referred_is =
      slots_marks mark_global own_global global_refs refl global_marks 0 input.globals.slots (fold mark_body start facts)
      ∙ ap (λ (s : List Bool). fold mark s (flat_map global_refs m.globals)) (
      facts_marks (local_entries (entries input.funcs)) facts start known ∙ ap (λ (l : List ℕ). fold mark start l) (all_bodies input.locals 0 input.funcs.slots)
      )
      ∙ sym (fold_both start (flat_map function_refs m.functions) (flat_map global_refs m.globals))

  declared_is : declared input ≡ fold mark start (held m)
  declared_is =
      slots_marks mark_element own_element element_names refl element_marks 0 input.elements.slots (fold mark_export start (items input.exports))
      ∙ ap (λ (s : List Bool). fold mark s (flat_map element_names m.elements)) (slots_marks mark_export own_export export_names refl export_marks 0 input.exports.slots start)
      ∙ sym (fold_both start (flat_map export_names m.exports) (flat_map element_names m.elements))

  marked_has : (ns : List ℕ) (n : ℕ) → is_marked (fold mark start ns) n ≡ true → Has ns n
  marked_has ns n e = elim (fold_back ns start n e) as (λ _. Has ns n) [ inl has ↦ has | inr was ↦ absurd (false≢true (sym (none_marked count n) ∙ was)) ]

  has_marked : (ns : List ℕ) (n : ℕ) → n < count → Has ns n → is_marked (fold mark start ns) n ≡ true
  has_marked ns n lt h = fold_has ns start n h.0 (let l = replicate_length count in omega (arith, l, lt)) h.1

  -- ---- marks, and what is wanted and held

  abbrev tells : AreTold p m
  tells = told p m lists

  wants_marked : (n : ℕ) → Wants m p n → (n < count) × (is_marked (referred input facts) n ≡ true)
  wants_marked n w =
      let lt : n < count = (let l = there n w in omega (arith, l, as_many)) in
      (lt, ap (λ (s : List Bool). is_marked s n) referred_is ∙ has_marked (wanted m) n lt (contains_has (wanted m) n ((tells.wants n).0 w)))

  marked_wants : (n : ℕ) → is_marked (referred input facts) n ≡ true → Wants m p n
  marked_wants n e = (tells.wants n).1 (has_contains (wanted m) n (marked_has (wanted m) n (ap (λ (s : List Bool). is_marked s n) (sym referred_is) ∙ e)))

  marked_holds : (n : ℕ) → is_marked (declared input) n ≡ true → Holds m p n
  marked_holds n e = (tells.holds n).1 (has_contains (held m) n (marked_has (held m) n (ap (λ (s : List Bool). is_marked s n) (sym declared_is) ∙ e)))

  holds_marked : (n : ℕ) → n < count → Holds m p n → is_marked (declared input) n ≡ true
  holds_marked n lt h = ap (λ (s : List Bool). is_marked s n) declared_is ∙ has_marked (held m) n lt (contains_has (held m) n ((tells.holds n).0 h))

  abbrev test : ℕ → Bool
  test = is_alone (referred input facts) (declared input)

  abbrev found : List ℕ
  found = undeclared_of input facts

  found_wants : (n : ℕ) → Has found n → Wants m p n × (Holds m p n → ⊥)
  found_wants n h =
      let b = both (is_marked (referred input facts) n) (is_marked (declared input) n) (in_filter test (run_from 0 count) n h) in
      let w = marked_wants n b.0 in
      (w, λ held_so. b.1 (holds_marked n (wants_marked n w).0 held_so))

  wants_found : (n : ℕ) → Wants m p n → (Holds m p n → ⊥) → Has found n
  wants_found n w none =
      let marked = wants_marked n w in
      let run = at_run 0 count n (omega arith) (let lt = marked.0 in omega (arith, lt)) in
      filter_in test (run_from 0 count) n run.0 (alone (is_marked (referred input facts) n) (is_marked (declared input) n) marked.1 (λ e. none (marked_holds n e))) run.1

  by_list : (ns : List ℕ) → ns ≡ found → HasDeclared m p (in_one ns)
  by_list [] e = λ n w. elim (cases_Bool (is_marked (declared input) n)) as (λ _. Holds m p n) [
    | inl marked ↦ marked_holds n marked
    | inr not_so ↦ (
        let h = wants_found n w (λ held_so. false≢true (sym not_so ∙ holds_marked n (wants_marked n w).0 held_so)) in
        absurd (none-some n (ap (λ (l : List ℕ). slice_get l h.0) e ∙ h.1))
        )
  ]
  by_list (k ∷ ns) e = (
    subst (λ (l : List ℕ). Rise l) (sym e) (run_rises test 0 count).rise,
    (k, has_contains (k ∷ ns) k (0, refl)),
    λ n. (
      λ c. found_wants n (subst (λ (l : List ℕ). Has l n) e (contains_has (k ∷ ns) n c)),
      λ w. has_contains (k ∷ ns) n (subst (λ (l : List ℕ). Has l n) (sym e) (wants_found n w.0 w.1)),
    ),
  )

pub undeclared_declared : {B : Type 0} → WantsAreTold → UndeclaredAreDeclared B
undeclared_declared told input facts known p lists there = by_list told input facts known p lists there (undeclared_of input facts) refl
