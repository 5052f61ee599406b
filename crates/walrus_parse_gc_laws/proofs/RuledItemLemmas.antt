-- Lemmas: items of a file whose types are named by their ids, in the words of the laws that are joined here. What an item may name is there, so that it doesn't
-- matter what becomes of other indices.
use Rattle.std.specs.Prelude.{ℕ, ◌≡◌, ◌<◌, nat_lt, Bool, true, List, [], ◌∷◌, ◌++◌, map, Option, Some, None, refl}
use Rattle.std.specs.List.{AllByRecursion, flat_map}
use Rattle.std.specs.Option.{option_map}
use Rattle.std.proofs.Common.{ap, ◌∙◌, subst}
use Rattle.std.proofs.lemmas.Bool.{ltb-true}
use Rattle.walrus_types.specs.walrus_forms.Renaming.{HeapBelow, RefBelow, ValueBelow, renamed_heap, renamed_ref, renamed_value}
use Rattle.walrus_types.specs.walrus_forms.declared.value.HeapType.{HeapType as Heap}
use Rattle.walrus_types.specs.walrus_forms.declared.value.HeapType.TheVariants as heaps
use Rattle.walrus_types.specs.walrus_forms.declared.value.RefType.{RefType}
use Rattle.walrus_types.specs.walrus_forms.declared.value.ValType.{ValType}
use Rattle.walrus_types.specs.walrus_forms.declared.value.ValType.TheVariants as values
use Rattle.wasm_merged_modules.specs.wasm_normal_modules.wasm_ruled_renamed.wasm_ruled_normal.wasm_normal_form.wasm_operators.wasm_ref_types.declared.heap.HeapType.{HeapType as ReadHeap}
use Rattle.wasm_merged_modules.specs.wasm_normal_modules.wasm_ruled_renamed.wasm_ruled_normal.wasm_normal_form.wasm_operators.wasm_ref_types.declared.heap.HeapType.TheVariants.{Abstract, Concrete, Exact}
use Rattle.wasm_merged_modules.specs.wasm_normal_modules.wasm_ruled_renamed.wasm_ruled_normal.wasm_normal_form.wasm_operators.wasm_ref_types.declared.index.UnpackedIndex.TheVariants.{Module, RecGroup, Id}
use Rattle.wasm_merged_modules.specs.wasm_normal_modules.wasm_ruled_renamed.wasm_ruled_normal.wasm_normal_form.wasm_operators.Items.{Space, Types, Functions, Tables, Memories, Tags, Globals, ElementSegments, DataSegments, Locals, Labels, Item, Names, Number, S32, S64, Bits, Byte, Bytes, Heap as HeapItem, Block, Access, ManyLabels, ManyValues, ManyClauses}
use Rattle.wasm_merged_modules.specs.wasm_normal_modules.wasm_ruled_renamed.wasm_ruled_normal.wasm_normal_form.wasm_operators.declared.clause.Clause.{Clause}
use Rattle.wasm_merged_modules.specs.wasm_normal_modules.wasm_ruled_renamed.wasm_ruled_normal.wasm_normal_form.wasm_operators.declared.clause.Clause.TheVariants as handlers
use Rattle.wasm_merged_modules.specs.wasm_normal_modules.wasm_ruled_renamed.wasm_ruled_normal.wasm_ruled_modules.wasm_module_rules.wasm_modules.wasm_body_grammar.wasm_operators.Operators.{Seen}
use Rattle.wasm_merged_modules.specs.wasm_normal_modules.wasm_ruled_renamed.wasm_ruled_normal.wasm_ruled_modules.wasm_module_rules.wasm_modules.wasm_body_grammar.wasm_operators.Names.{Name, Renaming, clause_names, heap_names, item_names, label_name, renamed_item, renamed_operator}
use Rattle.wasm_merged_modules.specs.wasm_normal_modules.wasm_ruled_renamed.wasm_ruled_normal.wasm_ruled_modules.wasm_module_rules.wasm_modules.wasm_body_grammar.wasm_formats.Stops.{Index}
use Rattle.wasm_merged_modules.specs.wasm_normal_modules.wasm_ruled_renamed.wasm_ruled_normal.wasm_ruled_modules.wasm_module_rules.wasm_modules.wasm_body_grammar.wasm_formats.declared.fault.Space.TheVariants as spaces
use Rattle.wasm_merged_modules.specs.wasm_normal_modules.wasm_ruled_renamed.wasm_ruled_normal.wasm_ruled_modules.wasm_module_rules.wasm_modules.wasm_body_grammar.wasm_grammar.Exprs.{Known, heap_test, item_test, items_test}
use Rattle.wasm_merged_modules.specs.wasm_normal_modules.wasm_ruled_renamed.wasm_ruled_normal.wasm_ruled_modules.wasm_module_rules.wasm_modules.wasm_body_grammar.wasm_grammar.Modules as grammar
use Rattle.wasm_merged_modules.specs.wasm_normal_modules.wasm_ruled_renamed.wasm_ruled_normal.wasm_ruled_modules.wasm_module_rules.wasm_modules.wasm_body_grammar.wasm_grammar.TypeWords.{heap_of}
use Rattle.wasm_merged_modules.specs.wasm_normal_modules.wasm_ruled_renamed.wasm_ruled_normal.wasm_ruled_modules.wasm_module_rules.Keeps.{first_none, must_holds}
use Rattle.wasm_merged_modules.specs.wasm_normal_modules.wasm_ruled_renamed.wasm_ruled_normal.wasm_ruled_modules.wasm_module_rules.Linked.{Each}
use Rattle.wasm_merged_modules.specs.wasm_normal_modules.wasm_ruled_renamed.wasm_ruled_normal.wasm_ruled_modules.Rules.{AreExprs, AreKnown, GlobalsSee, IsInit, IsPlaced, ItemsBelow, ItemsKnown, own_init}
use Rattle.wasm_merged_modules.proofs.wasm_ruled_normal.Tests.{all_join}
use Rattle.wasm_merged_modules.specs.wasm_normal_modules.Modules as normal
use Rattle.wasm_merged_modules.specs.wasm_normal_modules.Numbered.{NamesDecide}
use Rattle.walrus_parse_laws.specs.walrus_meaning.walrus_body_writer.walrus_body_env.walrus_instr.declared.const_expr.ConstExpr.{ConstExpr}
use Rattle.walrus_parse_laws.specs.walrus_meaning.walrus_body_writer.walrus_body_env.walrus_instr.declared.const_expr.ConstOp.{ConstOp}
use Rattle.walrus_parse_laws.specs.walrus_meaning.walrus_body_writer.walrus_body_env.walrus_instr.declared.const_expr.ConstOp.TheVariants as consts
use Rattle.walrus_parse_laws.specs.Renamed as into
use Rattle.walrus_parse_laws.proofs.ListLemmas.{some_is}
use Rattle.walrus_parse_laws.specs.walrus_meaning.Meaning.{own_data_mode, own_element_mode, own_elements, own_value_of}
use Rattle.walrus_parse_laws.specs.walrus_meaning.Words.{const_seen, own_expr}
use Rattle.walrus_parse_laws.specs.walrus_named_bodies.walrus_item_names.walrus_module.walrus_module_items.declared.data.DataKind.{DataKind}
use Rattle.walrus_parse_laws.specs.walrus_named_bodies.walrus_item_names.walrus_module.walrus_module_items.declared.data.DataKind.TheVariants as datas
use Rattle.walrus_parse_laws.specs.walrus_named_bodies.walrus_item_names.walrus_module.walrus_module_items.declared.element.ElementItems.{ElementItems}
use Rattle.walrus_parse_laws.specs.walrus_named_bodies.walrus_item_names.walrus_module.walrus_module_items.declared.element.ElementItems.TheVariants as holds
use Rattle.walrus_parse_laws.specs.walrus_named_bodies.walrus_item_names.walrus_module.walrus_module_items.declared.element.ElementKind.{ElementKind}
use Rattle.walrus_parse_laws.specs.walrus_named_bodies.walrus_item_names.walrus_module.walrus_module_items.declared.element.ElementKind.TheVariants as elements
use Rattle.walrus_parse_laws.specs.walrus_named_bodies.walrus_item_names.walrus_module.walrus_module_items.declared.global.GlobalKind.{GlobalKind}
use Rattle.walrus_parse_laws.specs.walrus_named_bodies.walrus_item_names.walrus_module.walrus_module_items.declared.global.GlobalKind.TheVariants as globals

-- ---- slots

pub split : {A : Type 0} (x y : A) (xs ys : List A) → x ∷ xs ≡ y ∷ ys → (x ≡ y) × (xs ≡ ys)
split x y xs ys e = (cc, cc)

-- where each slot is seen as the image of a file's item, what holds of all that is seen holds of these images
module _ {A B : Type 0} (own : A → B) (f g : B → B) (P Plain : B → Type 0) (plain : (x : A) → Plain (own x)) (same : (y : B) → Plain (f y) → P y → f y ≡ g y) where
  pub slots_alike : (xs : List (Option A)) (ys : List (Option B)) → map (option_map own) xs ≡ map (option_map f) ys → Each P ys → map (option_map f) ys ≡ map (option_map g) ys
  slots_alike xs [] e h = refl
  slots_alike [] (y ∷ ys) e h = absurd cc
  slots_alike (x ∷ xs) (None ∷ ys) e h =
      ap (λ (l : List (Option B)). None ∷ l) (slots_alike xs ys (split (option_map own x) None (map (option_map own) xs) (map (option_map f) ys) e).1 h)
  slots_alike (None ∷ xs) (Some y ∷ ys) e h = absurd cc
  slots_alike (Some x ∷ xs) (Some y ∷ ys) e h =
      let both = split (Some (own x)) (Some (f y)) (map (option_map own) xs) (map (option_map f) ys) e in
      ap (λ (z : B). Some z ∷ map (option_map f) ys) (same y (subst Plain (some_is (own x) (f y) both.0) (plain x)) h.0)
      ∙ ap (λ (l : List (Option B)). Some (g y) ∷ l) (slots_alike xs ys both.1 h.1)

-- ---- operators of constant expressions have no types in them but heap types

abbrev pub IsPlain : Item → Type 0
IsPlain (Block ty) = ⊥
IsPlain (ManyValues tys) = ⊥
IsPlain item = Unit {0}

abbrev pub ArePlain : grammar.Expr → Type 0
ArePlain ops = AllByRecursion (λ (op : Seen). AllByRecursion IsPlain op.items) ops

const_plain : (c : ConstOp) → AllByRecursion IsPlain (const_seen c).items
const_plain (consts.I32Const z) = (tt, tt)
const_plain (consts.I64Const z) = (tt, tt)
const_plain (consts.F32Const bits) = (tt, tt)
const_plain (consts.F64Const bits) = (tt, tt)
const_plain (consts.V128Const bits) = (tt, tt)
const_plain (consts.GlobalGet global) = (tt, tt)
const_plain (consts.RefNull ty) = (tt, tt)
const_plain (consts.RefFunc function) = (tt, tt)
const_plain consts.I32Add = tt
const_plain consts.I32Sub = tt
const_plain consts.I32Mul = tt
const_plain consts.I64Add = tt
const_plain consts.I64Sub = tt
const_plain consts.I64Mul = tt
const_plain consts.RefI31 = tt
const_plain (consts.StructNew ty) = (tt, tt)
const_plain (consts.StructNewDefault ty) = (tt, tt)
const_plain (consts.ArrayNew ty) = (tt, tt)
const_plain (consts.ArrayNewDefault ty) = (tt, tt)
const_plain (consts.ArrayNewFixed ty size) = (tt, (tt, tt))
const_plain consts.AnyConvertExtern = tt
const_plain consts.ExternConvertAny = tt

consts_plain : (cs : List ConstOp) → ArePlain (map const_seen cs)
consts_plain [] = tt
consts_plain (c ∷ cs) = (const_plain c, consts_plain cs)

module _ (r : Renaming) where
  item_was : (x : Item) → IsPlain (renamed_item r x) → IsPlain x
  item_was (Names space n) h = tt
  item_was (Number n) h = tt
  item_was (S32 z) h = tt
  item_was (S64 z) h = tt
  item_was (Bits size n) h = tt
  item_was (Byte b) h = tt
  item_was (Bytes run) h = tt
  item_was (HeapItem ty) h = tt
  item_was (Block ty) h = h
  item_was (Access a) h = tt
  item_was (ManyLabels ns) h = tt
  item_was (ManyValues tys) h = h
  item_was (ManyClauses cs) h = tt

  items_were : (xs : List Item) → AllByRecursion IsPlain (map (renamed_item r) xs) → AllByRecursion IsPlain xs
  items_were [] h = tt
  items_were (x ∷ xs) h = (item_was x h.0, items_were xs h.1)

  expr_was : (ops : grammar.Expr) → ArePlain (map (renamed_operator r) ops) → ArePlain ops
  expr_was [] h = tt
  expr_was (op ∷ ops) h = (items_were op.items h.0, expr_was ops h.1)

-- ---- what is plain of an item

abbrev pub InitPlain : Option grammar.Expr → Type 0
InitPlain None = Unit {0}
InitPlain (Some e) = ArePlain e

abbrev pub OriginPlain : grammar.Origin grammar.Expr → Type 0
OriginPlain (grammar.Imported n) = Unit {0}
OriginPlain (grammar.Own e) = ArePlain e

abbrev pub ModePlain : grammar.Mode → Type 0
ModePlain (grammar.Active into offset) = ArePlain offset
ModePlain grammar.Passive = Unit {0}
ModePlain grammar.Declared = Unit {0}

abbrev pub ElementsPlain : grammar.Elements → Type 0
ElementsPlain (grammar.Functions ns) = Unit {0}
ElementsPlain (grammar.Expressions ty es) = AllByRecursion ArePlain es

expr_plain : (e : ConstExpr) → ArePlain (own_expr e)
expr_plain e = consts_plain _

pub init_plain : (o : Option ConstExpr) → InitPlain (option_map own_expr o)
init_plain None = tt
init_plain (Some e) = expr_plain e

pub value_plain : (k : GlobalKind) → OriginPlain (own_value_of k)
value_plain (globals.Import import) = tt
value_plain (globals.Local init) = expr_plain init

pub element_mode_plain : (k : ElementKind) → ModePlain (own_element_mode k)
element_mode_plain elements.Passive = tt
element_mode_plain elements.Declared = tt
element_mode_plain (elements.Active table offset) = expr_plain offset

pub data_mode_plain : (k : DataKind) → ModePlain (own_data_mode k)
data_mode_plain datas.Passive = tt
data_mode_plain (datas.Active memory offset) = expr_plain offset

exprs_plain : (es : List ConstExpr) → AllByRecursion ArePlain (map own_expr es)
exprs_plain [] = tt
exprs_plain (e ∷ es) = (expr_plain e, exprs_plain es)

pub elements_plain : (x : ElementItems) → ElementsPlain (own_elements x)
elements_plain (holds.Functions ids) = tt
elements_plain (holds.Expressions ty exprs) = exprs_plain exprs.items

-- ---- two renamings of types that agree on those that are there

module _ (decide : NamesDecide) (r s : ℕ → ℕ) (types : ℕ) (same : (n : ℕ) → n < types → r n ≡ s n) where
  heap_alike : (ty : Heap) → HeapBelow types ty → renamed_heap r ty ≡ renamed_heap s ty
  heap_alike (heaps.Abstract ty) h = refl
  heap_alike (heaps.Shared ty) h = refl
  heap_alike (heaps.Concrete n) h = ap heaps.Concrete (same n h)
  heap_alike (heaps.Exact n) h = ap heaps.Exact (same n h)

  ref_alike : (ty : RefType) → RefBelow types ty → renamed_ref r ty ≡ renamed_ref s ty
  ref_alike ty h = ap (λ (heap : Heap). (let x : RefType = record { nullable = ty.nullable; heap_type = heap } in x)) (heap_alike ty.heap_type h)

  value_alike : (ty : ValType) → ValueBelow types ty → renamed_value r ty ≡ renamed_value s ty
  value_alike values.I32 h = refl
  value_alike values.I64 h = refl
  value_alike values.F32 h = refl
  value_alike values.F64 h = refl
  value_alike values.V128 h = refl
  value_alike (values.Ref ty) h = ap values.Ref (ref_alike ty h)

  -- ---- expressions

  abbrev Same : Name → Type 0
  Same n = into.by_types r n.0 n.1 ≡ normal.by_types s n.0 n.1

  module _ (k : Known) (counts : k.types ≡ types) where
    type_same : (n : ℕ) → nat_lt n k.types ≡ true → r n ≡ s n
    type_same n e = same n (subst (λ (m : ℕ). n < m) counts (ltb-true n k.types e))

    space_same : (space : Space) (n : ℕ) → item_test k (Names space n) ≡ None → Same (space, n)
    space_same Types n e = type_same n (must_holds (nat_lt n k.types) (Index spaces.«Type») e)
    space_same Functions n e = refl
    space_same Tables n e = refl
    space_same Memories n e = refl
    space_same Tags n e = refl
    space_same Globals n e = refl
    space_same ElementSegments n e = refl
    space_same DataSegments n e = refl
    space_same Locals n e = refl
    space_same Labels n e = refl

    heap_same : (ty : ReadHeap) → heap_test k (heap_of ty) ≡ None → AllByRecursion Same (heap_names ty)
    heap_same (Abstract shared ty) e = tt
    heap_same (Concrete (Module n)) e = (type_same n (must_holds (nat_lt n k.types) (Index spaces.«Type») e), tt)
    heap_same (Concrete (RecGroup n)) e = tt
    heap_same (Concrete (Id id)) e = tt
    heap_same (Exact (Module n)) e = (type_same n (must_holds (nat_lt n k.types) (Index spaces.«Type») e), tt)
    heap_same (Exact (RecGroup n)) e = tt
    heap_same (Exact (Id id)) e = tt

    labels_same : (ns : List ℕ) → AllByRecursion Same (map label_name ns)
    labels_same [] = tt
    labels_same (n ∷ ns) = (refl, labels_same ns)

    clause_same : (c : Clause) → AllByRecursion Same (clause_names c)
    clause_same (handlers.Catch tag label) = (refl, (refl, tt))
    clause_same (handlers.CatchRef tag label) = (refl, (refl, tt))
    clause_same (handlers.CatchAll label) = (refl, tt)
    clause_same (handlers.CatchAllRef label) = (refl, tt)

    clauses_same : (cs : List Clause) → AllByRecursion Same (flat_map clause_names cs)
    clauses_same [] = tt
    clauses_same (c ∷ cs) = all_join Same (clause_names c) (flat_map clause_names cs) (clause_same c) (clauses_same cs)

    item_same : (x : Item) → IsPlain x → item_test k x ≡ None → AllByRecursion Same (item_names x)
    item_same (Names space n) h e = (space_same space n e, tt)
    item_same (Number n) h e = tt
    item_same (S32 z) h e = tt
    item_same (S64 z) h e = tt
    item_same (Bits size n) h e = tt
    item_same (Byte b) h e = tt
    item_same (Bytes run) h e = tt
    item_same (HeapItem ty) h e = heap_same ty e
    item_same (Block ty) h e = absurd h
    item_same (Access a) h e = (refl, tt)
    item_same (ManyLabels ns) h e = labels_same ns
    item_same (ManyValues tys) h e = absurd h
    item_same (ManyClauses cs) h e = clauses_same cs

    items_same : (xs : List Item) → AllByRecursion IsPlain xs → items_test k xs ≡ None → AllByRecursion Same (flat_map item_names xs)
    items_same [] h e = tt
    items_same (x ∷ xs) h e =
        let both = first_none (item_test k x) (items_test k xs) e in all_join Same (item_names x) (flat_map item_names xs) (item_same x h.0 both.0) (items_same xs h.1 both.1)

    known_alike : (ops : grammar.Expr) → ArePlain ops → AreKnown k ops → into.retyped_expr r ops ≡ normal.retyped_expr s ops
    known_alike [] h e = refl
    known_alike (op ∷ ops) h e =
        ap (λ (x : Seen). x ∷ into.retyped_expr r ops) (decide (into.by_types r) (normal.by_types s) op (items_same op.items h.0 e.1))
        ∙ ap (λ (l : grammar.Expr). renamed_operator (normal.by_types s) op ∷ l) (known_alike ops h.1 e.2)

    expr_alike : (ops : grammar.Expr) → ArePlain (into.retyped_expr r ops) → AreKnown k ops → into.retyped_expr r ops ≡ normal.retyped_expr s ops
    expr_alike ops h e = known_alike ops (expr_was (into.by_types r) ops h) e

    init_alike : (o : Option grammar.Expr) → InitPlain (option_map (into.retyped_expr r) o) → IsInit k o → option_map (into.retyped_expr r) o ≡ option_map (normal.retyped_expr s) o
    init_alike None h e = refl
    init_alike (Some ops) h e = ap (λ (x : grammar.Expr). Some x) (expr_alike ops h e.0)

    origin_alike : (o : grammar.Origin grammar.Expr) → OriginPlain (into.retyped_origin r o) → IsInit k (own_init o) → into.retyped_origin r o ≡ normal.retyped_origin s o
    origin_alike (grammar.Imported n) h e = refl
    origin_alike (grammar.Own ops) h e = ap (λ (x : grammar.Expr). (let o : grammar.Origin grammar.Expr = grammar.Own x in o)) (expr_alike ops h e.0)

    mode_alike : (wide : ℕ → Bool) (m : grammar.Mode) → ModePlain (into.retyped_mode r m) → IsPlaced wide k m → into.retyped_mode r m ≡ normal.retyped_mode s m
    mode_alike wide (grammar.Active n offset) h e = ap (grammar.Active n) (expr_alike offset h e.0.0)
    mode_alike wide grammar.Passive h e = refl
    mode_alike wide grammar.Declared h e = refl

    exprs_alike : (es : List grammar.Expr) → AllByRecursion ArePlain (map (into.retyped_expr r) es) → AreExprs k es → map (into.retyped_expr r) es ≡ map (normal.retyped_expr s) es
    exprs_alike [] h e = refl
    exprs_alike (ops ∷ es) h e =
        ap (λ (x : grammar.Expr). x ∷ map (into.retyped_expr r) es) (expr_alike ops h.0 e.0.0) ∙ ap (λ (l : List grammar.Expr). normal.retyped_expr s ops ∷ l) (exprs_alike es h.1 e.1)

    elements_alike : (x : grammar.Elements) → ElementsPlain (into.retyped_items r x) → ItemsBelow types x → ItemsKnown k x → into.retyped_items r x ≡ normal.retyped_items s x
    elements_alike (grammar.Functions ns) h b e = refl
    elements_alike (grammar.Expressions ty es) h b e =
        ap (λ (t : RefType). grammar.Expressions t (map (into.retyped_expr r) es)) (ref_alike ty b) ∙ ap (grammar.Expressions (renamed_ref s ty)) (exprs_alike es h e)

  -- ---- items

  pub table_alike : (k : Known) → k.types ≡ types → (t : grammar.Table) → InitPlain (into.retyped_table r t).init → RefBelow types t.element × IsInit k t.init → into.retyped_table r t ≡ normal.retyped_table s t
  table_alike k counts t h e = λ i. record t { element = ref_alike t.element e.0 i; init = init_alike k counts t.init h e.1 i }

  pub global_alike : (g : grammar.Global) → OriginPlain (into.retyped_global r g).origin → ValueBelow types g.ty × ((k : Known) × (k.types ≡ types) × IsInit k (own_init g.origin))
      → into.retyped_global r g ≡ normal.retyped_global s g
  global_alike g h e = λ i. record g { ty = value_alike g.ty e.0 i; origin = origin_alike e.1.0 e.1.1 g.origin h e.1.2 i }

  pub element_alike : (wide : ℕ → Bool) (k : Known) → k.types ≡ types → (x : grammar.Element) → ModePlain (into.retyped_element r x).mode × ElementsPlain (into.retyped_element r x).items
      → ItemsBelow types x.items × (IsPlaced wide k x.mode × ItemsKnown k x.items) → into.retyped_element r x ≡ normal.retyped_element s x
  element_alike wide k counts x h e = λ i. record { mode = mode_alike k counts wide x.mode h.0 e.1.0 i; items = elements_alike k counts x.items h.1 e.0 e.1.1 i }

  pub segment_alike : (wide : ℕ → Bool) (k : Known) → k.types ≡ types → (x : grammar.Segment) → ModePlain (into.retyped_segment r x).mode → IsPlaced wide k x.mode → into.retyped_segment r x ≡ normal.retyped_segment s x
  segment_alike wide k counts x h e = λ i. record x { mode = mode_alike k counts wide x.mode h e i }

-- what a global's expression may name of types
pub globals_known : (types functions : ℕ) (earlier gs : List (Option grammar.Global)) → GlobalsSee types functions earlier gs
    → Each (λ (g : grammar.Global). (k : Known) × (k.types ≡ types) × IsInit k (own_init g.origin)) gs
globals_known types functions earlier [] h = tt
globals_known types functions earlier (None ∷ gs) h = globals_known types functions (earlier ++ None ∷ []) gs h.1
globals_known types functions earlier (Some g ∷ gs) h =
    ((record { types = types; functions = functions; globals = earlier }, refl, h.0), globals_known types functions (earlier ++ Some g ∷ []) gs h.1)
