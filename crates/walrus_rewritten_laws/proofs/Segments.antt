-- Lemmas: whether bodies name data segments is told by what is known of them.
use Rattle.std.specs.Prelude.{ℕ, zero, suc, ◌+◌, ◌≡◌, ◌||◌, ◌++◌, Bool, true, false, List, [], ◌∷◌, map, Option, Some, None, slice_get, slice_index_or, refl}
use Rattle.std.specs.List.{AllZip, flat_map, list_any}
use Rattle.std.specs.Option.{option_map}
use Rattle.std.proofs.Common.{ap, sym, ◌∙◌, true≢false}
use Rattle.std.proofs.lemmas.Option.{none-some, same_Some}
use Rattle.wasm_operators.specs.Items.{Types, Functions, Tables, Memories, Tags, Globals, ElementSegments, DataSegments, Locals, Labels, Item, Names, Number, S32, S64, Bits, Byte, Bytes, Heap, Block, Access, ManyLabels, ManyValues, ManyClauses}
use Rattle.wasm_composite_types.specs.wasm_ref_types.declared.heap.HeapType.{HeapType as WordHeap}
use Rattle.wasm_composite_types.specs.wasm_ref_types.declared.heap.HeapType.TheVariants as words
use Rattle.wasm_composite_types.specs.wasm_ref_types.declared.index.UnpackedIndex.{UnpackedIndex}
use Rattle.wasm_composite_types.specs.wasm_ref_types.declared.index.UnpackedIndex.TheVariants as indices
use Rattle.wasm_composite_types.specs.wasm_ref_types.declared.value.ValType.{ValType as WordType}
use Rattle.wasm_composite_types.specs.wasm_ref_types.declared.value.ValType.TheVariants as vals
use Rattle.wasm_operators.specs.declared.block_type.BlockType.{BlockType}
use Rattle.wasm_operators.specs.declared.block_type.BlockType.TheVariants as blocks
use Rattle.wasm_operators.specs.declared.clause.Clause.{Clause}
use Rattle.wasm_operators.specs.declared.clause.Clause.TheVariants as handlers
use Rattle.wasm_operators.specs.NameLaws.{renamed_name}
use Rattle.wasm_operators.specs.Names.{Name, Renaming, block_names, clause_names, heap_names, index_names, item_names, label_name, operator_names, value_names}
use Rattle.wasm_operators.specs.Renamed.{names_are_renamed}
use Rattle.wasm_body_grammar.specs.Rules.{is_segment}
use Rattle.wasm_grammar.specs.Modules as grammar
use Rattle.wasm_canonical.specs.Due.{body_names_segment, items_in, names_segment}
use Rattle.wasm_part.specs.Part.{part, renumbered_function, renumbered_own, renumbered_body, renumbered_placed}
use Rattle.walrus_arena.specs.Arena.{entries, entries_from}
use Rattle.walrus_body_names.specs.Names.{has_any, piece_names, segment_in, text_names}
use Rattle.walrus_builder.specs.Functions.{seqs_of}
use Rattle.walrus_builder.specs.walrus_walks.walrus_instr.declared.seq.InstrSeq.{InstrSeq}
use Rattle.walrus_codes.specs.Access.{simd_lane}
use Rattle.walrus_codes.specs.Binary.{binary_lane}
use Rattle.walrus_codes.specs.Unary.{unary_lane}
use Rattle.walrus_collections.specs.LookUps.{local_entries}
use Rattle.walrus_forms.specs.declared.value.HeapType.{HeapType}
use Rattle.walrus_forms.specs.declared.value.HeapType.TheVariants as heaps
use Rattle.walrus_forms.specs.declared.value.ValType.{ValType}
use Rattle.walrus_forms.specs.declared.value.ValType.TheVariants as values
use Rattle.walrus_instr.specs.declared.instr.Instr.{Instr}
use Rattle.walrus_instr.specs.declared.instr.Instr.TheVariants as instrs
use Rattle.walrus_instr.specs.declared.instr.Value.TheVariants as constants
use Rattle.walrus_instr.specs.declared.seq.InstrLocId.{InstrLocId}
use Rattle.walrus_items.specs.declared.local.Local.{Local}
use Rattle.walrus_local_function.specs.declared.local_function.LocalFunction.{LocalFunction}
use Rattle.walrus_meaning.specs.Bodies.{depth_of, own_instr, own_piece, own_seen}
use Rattle.walrus_meaning.specs.Meaning.{means, own_function, own_origin}
use Rattle.walrus_module.specs.Parts.{parts}
use Rattle.walrus_module_items.specs.declared.function.Function.{Function}
use Rattle.walrus_module_items.specs.declared.function.FunctionKind.{FunctionKind}
use Rattle.walrus_module_items.specs.declared.function.FunctionKind.TheVariants as kinds
use Rattle.walrus_pairing.specs.Write.{lane_items, operator_at}
use Rattle.walrus_tree.specs.Text.{Piece, Operator, Else, Catch, CatchAll, Delegate, End, operators}
use Rattle.walrus_emit_numbers.specs.Facts.{AreFacts}
use Rattle.walrus_emit_numbers.specs.declared.facts.BodyFacts.{BodyFacts}
use Rattle.walrus_plan_laws.specs.Plans.{plan_of}
use Rattle.walrus_rewritten_laws.specs.Bytes.{PlansTellSegments}

-- ---- which items name data segments

abbrev shows : Item → Bool
shows (Names DataSegments n) = true
shows _ = false

abbrev named : List Name → Bool
named names = list_any (λ (n : Name). is_segment n.0) names

both_named : (xs ys : List Name) → named (xs ++ ys) ≡ (named xs || named ys)
both_named [] ys = refl
both_named (x ∷ xs) ys = go (is_segment x.0) (both_named xs ys)
  where
    go : (b : Bool) → named (xs ++ ys) ≡ (named xs || named ys) → (b || named (xs ++ ys)) ≡ ((b || named xs) || named ys)
    go true e = refl
    go false e = e

none_named : {A : Type 0} (f : A → List Name) → ((x : A) → named (f x) ≡ false) → (xs : List A) → named (flat_map f xs) ≡ false
none_named f h [] = refl
none_named f h (x ∷ xs) = both_named (f x) (flat_map f xs) ∙ ap (λ (b : Bool). b || named (flat_map f xs)) (h x) ∙ none_named f h xs

index_named : (x : UnpackedIndex) → named (index_names x) ≡ false
index_named (indices.Module n) = refl
index_named (indices.RecGroup n) = refl
index_named (indices.Id id) = refl

heap_named : (h : WordHeap) → named (heap_names h) ≡ false
heap_named (words.Abstract shared ty) = refl
heap_named (words.Concrete index) = index_named index
heap_named (words.Exact index) = index_named index

value_named : (ty : WordType) → named (value_names ty) ≡ false
value_named vals.I32 = refl
value_named vals.I64 = refl
value_named vals.F32 = refl
value_named vals.F64 = refl
value_named vals.V128 = refl
value_named (vals.Ref ty) = heap_named ty.heap_type

block_named : (ty : BlockType) → named (block_names ty) ≡ false
block_named blocks.Empty = refl
block_named (blocks.Value ty) = value_named ty
block_named (blocks.Type n) = refl

clause_named : (c : Clause) → named (clause_names c) ≡ false
clause_named (handlers.Catch tag label) = refl
clause_named (handlers.CatchRef tag label) = refl
clause_named (handlers.CatchAll label) = refl
clause_named (handlers.CatchAllRef label) = refl

labels_named : (ns : List ℕ) → named (map label_name ns) ≡ false
labels_named [] = refl
labels_named (n ∷ ns) = labels_named ns

item_shows : (i : Item) → named (item_names i) ≡ shows i
item_shows (Names Types n) = refl
item_shows (Names Functions n) = refl
item_shows (Names Tables n) = refl
item_shows (Names Memories n) = refl
item_shows (Names Tags n) = refl
item_shows (Names Globals n) = refl
item_shows (Names ElementSegments n) = refl
item_shows (Names DataSegments n) = refl
item_shows (Names Locals n) = refl
item_shows (Names Labels n) = refl
item_shows (Number n) = refl
item_shows (S32 z) = refl
item_shows (S64 z) = refl
item_shows (Bits size n) = refl
item_shows (Byte y) = refl
item_shows (Bytes run) = refl
item_shows (Heap ty) = heap_named ty
item_shows (Block ty) = block_named ty
item_shows (Access a) = refl
item_shows (ManyLabels ns) = labels_named ns
item_shows (ManyValues tys) = none_named value_names value_named tys
item_shows (ManyClauses cs) = none_named clause_names clause_named cs

items_show : (xs : List Item) → named (flat_map item_names xs) ≡ list_any shows xs
items_show [] = refl
items_show (x ∷ xs) = both_named (item_names x) (flat_map item_names xs) ∙ ap (λ (b : Bool). b || named (flat_map item_names xs)) (item_shows x) ∙ ap (λ (b : Bool). shows x || b) (items_show xs)

select_shows : (b : List InstrSeq) (depth : ℕ → ℕ) (ty : ValType) → list_any shows (own_instr b depth (instrs.Select (Some ty))).items ≡ false
unfolding operator_at
select_shows b depth values.I32 = refl
select_shows b depth values.I64 = refl
select_shows b depth values.F32 = refl
select_shows b depth values.F64 = refl
select_shows b depth values.V128 = refl
select_shows b depth (values.Ref ty) = by ty.heap_type
  where
    by : (h : HeapType) → list_any shows (own_instr b depth (instrs.Select (Some (values.Ref (record { nullable = ty.nullable; heap_type = h }))))).items ≡ false
    by (heaps.Abstract a) = refl
    by (heaps.Shared a) = refl
    by (heaps.Concrete id) = refl
    by (heaps.Exact id) = refl

refnull_shows : (b : List InstrSeq) (depth : ℕ → ℕ) (nullable : Bool) (h : HeapType) → list_any shows (own_instr b depth (instrs.RefNull (record { nullable = nullable; heap_type = h }))).items ≡ false
unfolding operator_at
refnull_shows b depth nullable (heaps.Abstract a) = refl
refnull_shows b depth nullable (heaps.Shared a) = refl
refnull_shows b depth nullable (heaps.Concrete id) = refl
refnull_shows b depth nullable (heaps.Exact id) = refl

reftest_shows : (b : List InstrSeq) (depth : ℕ → ℕ) (nullable : Bool) (h : HeapType) → list_any shows (own_instr b depth (instrs.RefTest (record { nullable = nullable; heap_type = h }))).items ≡ false
unfolding operator_at
reftest_shows b depth nullable (heaps.Abstract a) = refl
reftest_shows b depth nullable (heaps.Shared a) = refl
reftest_shows b depth nullable (heaps.Concrete id) = refl
reftest_shows b depth nullable (heaps.Exact id) = refl

refcast_shows : (b : List InstrSeq) (depth : ℕ → ℕ) (nullable : Bool) (h : HeapType) → list_any shows (own_instr b depth (instrs.RefCast (record { nullable = nullable; heap_type = h }))).items ≡ false
unfolding operator_at
refcast_shows b depth nullable (heaps.Abstract a) = refl
refcast_shows b depth nullable (heaps.Shared a) = refl
refcast_shows b depth nullable (heaps.Concrete id) = refl
refcast_shows b depth nullable (heaps.Exact id) = refl

lane_shows : (o : Option ℕ) → list_any shows (lane_items o) ≡ false
lane_shows None = refl
lane_shows (Some lane) = refl

instr_shows : (b : List InstrSeq) (depth : ℕ → ℕ) (i : Instr) → list_any shows (own_instr b depth i).items ≡ has_any (segment_in i)
unfolding operator_at
instr_shows b depth (instrs.Block seq) = refl
instr_shows b depth (instrs.Loop seq) = refl
instr_shows b depth (instrs.IfElse consequent alternative) = refl
instr_shows b depth (instrs.Try seq catches) = refl
instr_shows b depth (instrs.TryTable seq catches) = refl
instr_shows b depth instrs.Unreachable = refl
instr_shows b depth (instrs.Br block) = refl
instr_shows b depth (instrs.BrIf block) = refl
instr_shows b depth (instrs.BrTable other blocks) = refl
instr_shows b depth (instrs.BrOnNull block) = refl
instr_shows b depth (instrs.BrOnNonNull block) = refl
instr_shows b depth (instrs.BrOnCast block from_ty to_ty) = refl
instr_shows b depth (instrs.BrOnCastFail block from_ty to_ty) = refl
instr_shows b depth instrs.Return = refl
instr_shows b depth (instrs.Throw tag) = refl
instr_shows b depth instrs.ThrowRef = refl
instr_shows b depth (instrs.Rethrow relative_depth) = refl
instr_shows b depth (instrs.Call func) = refl
instr_shows b depth (instrs.CallIndirect ty table) = refl
instr_shows b depth (instrs.CallRef ty) = refl
instr_shows b depth (instrs.ReturnCall func) = refl
instr_shows b depth (instrs.ReturnCallIndirect ty table) = refl
instr_shows b depth (instrs.ReturnCallRef ty) = refl
instr_shows b depth instrs.Drop = refl
instr_shows b depth (instrs.Select None) = refl
instr_shows b depth (instrs.Select (Some ty)) = select_shows b depth ty
instr_shows b depth (instrs.Const (constants.I32 z)) = refl
instr_shows b depth (instrs.Const (constants.I64 z)) = refl
instr_shows b depth (instrs.Const (constants.F32 bits)) = refl
instr_shows b depth (instrs.Const (constants.F64 bits)) = refl
instr_shows b depth (instrs.Const (constants.V128 bits)) = refl
instr_shows b depth (instrs.Unop op) = lane_shows (unary_lane op)
instr_shows b depth (instrs.Binop op) = lane_shows (binary_lane op)
instr_shows b depth (instrs.TernOp op) = refl
instr_shows b depth instrs.I64Add128 = refl
instr_shows b depth instrs.I64Sub128 = refl
instr_shows b depth instrs.V128Bitselect = refl
instr_shows b depth instrs.I8x16Swizzle = refl
instr_shows b depth (instrs.I8x16Shuffle indices) = refl
instr_shows b depth (instrs.LocalGet local) = refl
instr_shows b depth (instrs.LocalSet local) = refl
instr_shows b depth (instrs.LocalTee local) = refl
instr_shows b depth (instrs.GlobalGet global) = refl
instr_shows b depth (instrs.GlobalSet global) = refl
instr_shows b depth (instrs.TableGet table) = refl
instr_shows b depth (instrs.TableSet table) = refl
instr_shows b depth (instrs.TableGrow table) = refl
instr_shows b depth (instrs.TableSize table) = refl
instr_shows b depth (instrs.TableFill table) = refl
instr_shows b depth (instrs.TableInit table elem) = refl
instr_shows b depth (instrs.ElemDrop elem) = refl
instr_shows b depth (instrs.TableCopy src dst) = refl
instr_shows b depth (instrs.Load memory kind arg) = refl
instr_shows b depth (instrs.Store memory kind arg) = refl
instr_shows b depth (instrs.LoadSimd memory kind arg) = lane_shows (simd_lane kind)
instr_shows b depth (instrs.MemorySize memory) = refl
instr_shows b depth (instrs.MemoryGrow memory) = refl
instr_shows b depth (instrs.MemoryInit memory segment) = refl
instr_shows b depth (instrs.DataDrop segment) = refl
instr_shows b depth (instrs.MemoryCopy src dst) = refl
instr_shows b depth (instrs.MemoryFill memory) = refl
instr_shows b depth (instrs.AtomicRmw memory op width arg) = refl
instr_shows b depth (instrs.Cmpxchg memory width arg) = refl
instr_shows b depth (instrs.AtomicNotify memory arg) = refl
instr_shows b depth (instrs.AtomicWait memory arg sixty_four) = refl
instr_shows b depth instrs.AtomicFence = refl
instr_shows b depth (instrs.RefNull ty) = refnull_shows b depth ty.nullable ty.heap_type
instr_shows b depth instrs.RefIsNull = refl
instr_shows b depth (instrs.RefFunc func) = refl
instr_shows b depth instrs.RefEq = refl
instr_shows b depth instrs.RefAsNonNull = refl
instr_shows b depth (instrs.RefTest ty) = reftest_shows b depth ty.nullable ty.heap_type
instr_shows b depth (instrs.RefCast ty) = refcast_shows b depth ty.nullable ty.heap_type
instr_shows b depth instrs.RefI31 = refl
instr_shows b depth instrs.I31GetS = refl
instr_shows b depth instrs.I31GetU = refl
instr_shows b depth instrs.AnyConvertExtern = refl
instr_shows b depth instrs.ExternConvertAny = refl
instr_shows b depth (instrs.StructNew ty) = refl
instr_shows b depth (instrs.StructNewDefault ty) = refl
instr_shows b depth (instrs.StructGet ty field) = refl
instr_shows b depth (instrs.StructGetS ty field) = refl
instr_shows b depth (instrs.StructGetU ty field) = refl
instr_shows b depth (instrs.StructSet ty field) = refl
instr_shows b depth (instrs.ArrayNew ty) = refl
instr_shows b depth (instrs.ArrayNewDefault ty) = refl
instr_shows b depth (instrs.ArrayNewFixed ty size) = refl
instr_shows b depth (instrs.ArrayNewData ty segment) = refl
instr_shows b depth (instrs.ArrayNewElem ty elem) = refl
instr_shows b depth (instrs.ArrayGet ty) = refl
instr_shows b depth (instrs.ArrayGetS ty) = refl
instr_shows b depth (instrs.ArrayGetU ty) = refl
instr_shows b depth (instrs.ArraySet ty) = refl
instr_shows b depth instrs.ArrayLen = refl
instr_shows b depth (instrs.ArrayFill ty) = refl
instr_shows b depth (instrs.ArrayCopy src dst) = refl
instr_shows b depth (instrs.ArrayInitData ty segment) = refl
instr_shows b depth (instrs.ArrayInitElem ty elem) = refl

piece_shows : (b : List InstrSeq) (p : Piece) → list_any shows (own_seen b p).items ≡ has_any (piece_names segment_in p)
piece_shows b (Operator around instr) = instr_shows b (depth_of around) instr
piece_shows b Else = refl
piece_shows b (Catch tag) = refl
piece_shows b CatchAll = refl
piece_shows b (Delegate outer) = refl
piece_shows b End = refl

any_both : (xs ys : List ℕ) → has_any (xs ++ ys) ≡ (has_any xs || has_any ys)
any_both [] ys = refl
any_both (x ∷ xs) ys = refl

-- ---- texts, renamed

renamed_named : (r : Renaming) (names : List Name) → named (map (renamed_name r) names) ≡ named names
renamed_named r [] = refl
renamed_named r (n ∷ names) = ap (λ (b : Bool). is_segment n.0 || b) (renamed_named r names)

placed_names : (r : Renaming) (o : grammar.Placed) → names_segment (renumbered_placed r o) ≡ list_any shows o.op.items
placed_names r o = ap named (names_are_renamed r o.op) ∙ renamed_named r (operator_names o.op) ∙ items_show o.op.items

text_shows : (r : Renaming) (b : List InstrSeq) (ps : List (Piece × InstrLocId)) → list_any names_segment (map (renumbered_placed r) (map (own_piece b) ps)) ≡ has_any (text_names segment_in ps)
text_shows r b [] = refl
text_shows r b (p ∷ ps) =
    ap (λ (v : Bool). v || list_any names_segment (map (renumbered_placed r) (map (own_piece b) ps))) (placed_names r (own_piece b p) ∙ piece_shows b p.0)
    ∙ ap (λ (v : Bool). has_any (piece_names segment_in p.0) || v) (text_shows r b ps)
    ∙ sym (any_both (piece_names segment_in p.0) (text_names segment_in ps))

-- ---- lists

same_bool : (a b : Bool) → (a ≡ true → b ≡ true) → (b ≡ true → a ≡ true) → a ≡ b
same_bool true b to from = sym (to refl)
same_bool false true to from = from refl
same_bool false false to from = refl

or_right : (a b : Bool) → b ≡ true → (a || b) ≡ true
or_right true b e = refl
or_right false b e = e

any_at : {A : Type 0} (s : A → Bool) (xs : List A) (i : ℕ) (x : A) → slice_get xs i ≡ Some x → s x ≡ true → list_any s xs ≡ true
any_at s [] i x e h = absurd (none-some x e)
any_at s (y ∷ xs) zero x e h = ap (λ (b : Bool). b || list_any s xs) (ap s (same_Some y x e) ∙ h)
any_at s (y ∷ xs) (suc i) x e h = or_right (s y) (list_any s xs) (any_at s xs i x e h)

any_slot : {A : Type 0} (s : Option A → Bool) (xs : List (Option A)) (n : ℕ) → s None ≡ false → s (slice_index_or xs n None) ≡ true → list_any s xs ≡ true
any_slot s [] n none h = absurd (true≢false (sym h ∙ none))
any_slot s (x ∷ xs) zero none h = ap (λ (b : Bool). b || list_any s xs) h
any_slot s (x ∷ xs) (suc n) none h = or_right (s x) (list_any s xs) (any_slot s xs n none h)

found_slot : {A : Type 0} (s : Option A → Bool) (xs : List (Option A)) → list_any s xs ≡ true → (n : ℕ) × (s (slice_index_or xs n None) ≡ true)
found_slot s [] h = absurd (true≢false (sym h))
found_slot s (x ∷ xs) h = go (s x) refl (λ h. found_slot s xs h) h
  where
    go : (b : Bool) → s x ≡ b → (list_any s xs ≡ true → (n : ℕ) × (s (slice_index_or xs n None) ≡ true)) → (b || list_any s xs) ≡ true → (n : ℕ) × (s (slice_index_or (x ∷ xs) n None) ≡ true)
    go true is rest h = (0, is)
    go false is rest h = let found = rest h in (suc found.0, found.1)

found_listed : (s : ℕ → Bool) (ns : List ℕ) → list_any s ns ≡ true → (n : ℕ) × (s n ≡ true)
found_listed s [] h = absurd (true≢false (sym h))
found_listed s (n ∷ ns) h = go (s n) refl (λ h. found_listed s ns h) h
  where
    go : (b : Bool) → s n ≡ b → (list_any s ns ≡ true → (n : ℕ) × (s n ≡ true)) → (b || list_any s ns) ≡ true → (n : ℕ) × (s n ≡ true)
    go true is rest h = (n, is)
    go false is rest h = rest h

-- ---- functions

abbrev slot_names : Option grammar.Function → Bool
slot_names None = false
slot_names (Some f) = body_names_segment f.origin

items_any : (xs : List (Option grammar.Function)) → list_any (λ (f : grammar.Function). body_names_segment f.origin) (items_in xs) ≡ list_any slot_names xs
items_any [] = refl
items_any (None ∷ xs) = items_any xs
items_any (Some f ∷ xs) = ap (λ (b : Bool). body_names_segment f.origin || b) (items_any xs)

picked_any : (g : ℕ → Option grammar.Function) (ns : List ℕ) → list_any slot_names (map g ns) ≡ list_any (λ (n : ℕ). slot_names (g n)) ns
picked_any g [] = refl
picked_any g (n ∷ ns) = ap (λ (b : Bool). slot_names (g n) || b) (picked_any g ns)

module _ (locals : List Local) (r : Renaming) (brings : ℕ → ℕ) where
  abbrev turned : Option grammar.Function → Bool
  turned o = slot_names (option_map (renumbered_function r brings) o)

  abbrev entry_names : ℕ × LocalFunction → Bool
  entry_names e = has_any (text_names segment_in (operators (seqs_of e.1.builder) 0))

  kind_any : (k : ℕ) (f : Function) (kind : FunctionKind) (es : List (ℕ × Function))
      → list_any entry_names (local_entries ((k, record f { kind = kind }) ∷ es)) ≡ (body_names_segment (renumbered_own r brings (renumbered_body r) (own_origin locals kind)) || list_any entry_names (local_entries es))
  kind_any k f (kinds.Import imported) es = refl
  kind_any k f (kinds.Local local) es = ap (λ (b : Bool). b || list_any entry_names (local_entries es)) (sym (text_shows r (seqs_of local.builder) (operators (seqs_of local.builder) 0)))
  kind_any k f (kinds.Uninitialized ty) es = refl

  slots_any : (k : ℕ) (slots : List (Option Function)) → list_any entry_names (local_entries (entries_from k slots)) ≡ list_any turned (map (option_map (own_function locals)) slots)
  slots_any k [] = refl
  slots_any k (None ∷ slots) = slots_any (k + 1) slots
  slots_any k (Some f ∷ slots) =
      kind_any k f f.kind (entries_from (k + 1) slots)
      ∙ ap (λ (b : Bool). body_names_segment (renumbered_own r brings (renumbered_body r) (own_origin locals f.kind)) || b) (slots_any (k + 1) slots)

  facts_any : (es : List (ℕ × LocalFunction)) (facts : List BodyFacts) → AllZip AreFacts es facts → list_any (λ (f : BodyFacts). f.uses_data_segments) facts ≡ list_any entry_names es
  facts_any [] [] h = refl
  facts_any [] (f ∷ facts) h = absurd h
  facts_any (e ∷ es) [] h = absurd h
  facts_any (e ∷ es) (f ∷ facts) h =
      ap (λ (b : Bool). b || list_any (λ (f : BodyFacts). f.uses_data_segments) facts) h.0.segments ∙ ap (λ (b : Bool). entry_names e || b) (facts_any es facts h.1)

filled : (r : Renaming) (brings : ℕ → ℕ) (o : Option grammar.Function) → slot_names (option_map (renumbered_function r brings) o) ≡ true → (f : grammar.Function) × (o ≡ Some f)
filled r brings None h = absurd (true≢false (sym h))
filled r brings (Some f) h = (f, refl)

pub tell_segments : {B : Type 0} → PlansTellSegments B
tell_segments left facts order emitted planned =
    let p = plan_of left facts order emitted in
    let m = means (parts left) in
    let s : Option grammar.Function → Bool = turned left.locals p.renames p.brings in
    let at : ℕ → Bool = λ n. s (slice_index_or m.functions n None) in
    facts_any left.locals p.renames p.brings (local_entries (entries left.funcs)) facts planned.ready.known
    ∙ slots_any left.locals p.renames p.brings 0 left.funcs.slots
    ∙ same_bool (list_any s m.functions) (list_any at (p.listed Functions))
    (λ any.
    let found = found_slot s m.functions any in
    let f = filled p.renames p.brings (slice_index_or m.functions found.0 None) found.1 in
    any_at at (p.listed Functions) (p.renames Functions found.0) found.0 (planned.plan.serves.lives.functions found.0 f.0 f.1) found.1)
    (λ any. let found = found_listed at (p.listed Functions) any in any_slot s m.functions found.0 refl found.1)
    ∙ sym (picked_any (λ (n : ℕ). option_map (renumbered_function p.renames p.brings) (slice_index_or m.functions n None)) (p.listed Functions))
    ∙ sym (items_any (part p m).functions)
