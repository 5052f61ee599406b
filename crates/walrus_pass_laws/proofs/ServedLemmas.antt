-- A linked module isn't refused.
use Rattle.std.proofs.Common.{◌≡◌, ◌⊎◌, ◌<◌, ℕ, suc, Bool, true, false, List, [], ◌∷◌, ◌++◌, Option, Some, None, Contains, map, refl, sym, ap, subst, inl, inr, arith}
use Rattle.std.specs.Prelude.{IsSome, MatchOption, slice_get}
use Rattle.std.specs.List.{flat_map}
use Rattle.std.proofs.lemmas.List.Elements.{Contains-append_cases}
use Rattle.wasm_formats.specs.declared.fault.Space.{Space}
use Rattle.wasm_formats.specs.declared.fault.Space.TheVariants as spaces
use Rattle.wasm_formats.specs.declared.fault.Form.{Form}
use Rattle.wasm_formats.specs.declared.fault.Form.TheVariants as forms
use Rattle.walrus_arena.specs.Arena.{item_at}
use Rattle.walrus_forms.specs.declared.value.HeapType.{HeapType}
use Rattle.walrus_forms.specs.declared.value.HeapType.TheVariants as heaps
use Rattle.walrus_forms.specs.declared.value.RefType.{RefType}
use Rattle.walrus_forms.specs.declared.value.ValType.{ValType}
use Rattle.walrus_forms.specs.declared.value.ValType.TheVariants as values
use Rattle.walrus_forms.specs.Kinds.{kind_names}
use Rattle.walrus_items.specs.Items.{Item as TypeItem}
use Rattle.walrus_items.specs.declared.local.Local.{Local}
use Rattle.walrus_types.specs.Table.{type_at}
use Rattle.walrus_instr.specs.declared.const_expr.ConstExpr.{ConstExpr}
use Rattle.walrus_instr.specs.declared.const_expr.ConstExpr.TheVariants as exprs
use Rattle.walrus_instr.specs.declared.const_expr.ConstOp.{ConstOp}
use Rattle.walrus_instr.specs.declared.const_expr.ConstOp.TheVariants as ops
use Rattle.walrus_walks.specs.Events.{Event, NamesLocal, NamesType, NamesFunction, NamesTable, NamesMemory, NamesTag, NamesGlobal, NamesElement, NamesData, events_of, ref_names, val_names}
use Rattle.walrus_walks.specs.ConstEvents.{expr_names, op_names}
use Rattle.walrus_walks.specs.Plain.{HeldAreNested, WalkIsPlain}
use Rattle.walrus_tree.specs.TextLaws.{TreesAreNested}
use Rattle.walrus_builder.specs.Functions.{seqs_of}
use Rattle.walrus_errors.specs.declared.error.ModuleError.{ModuleError}
use Rattle.walrus_errors.specs.declared.error.ModuleError.TheVariants as refusals
use Rattle.walrus_passes.specs.walrus_refusals.walrus_used.walrus_module_items.declared.function.Function.{Function}
use Rattle.walrus_passes.specs.walrus_refusals.walrus_used.walrus_module_items.declared.function.FunctionKind.{FunctionKind}
use Rattle.walrus_passes.specs.walrus_refusals.walrus_used.walrus_module_items.declared.function.FunctionKind.TheVariants as functions
use Rattle.walrus_passes.specs.walrus_refusals.walrus_used.walrus_module_items.declared.table.Table.{Table}
use Rattle.walrus_passes.specs.walrus_refusals.walrus_used.walrus_module_items.declared.memory.Memory.{Memory}
use Rattle.walrus_passes.specs.walrus_refusals.walrus_used.walrus_module_items.declared.global.Global.{Global}
use Rattle.walrus_passes.specs.walrus_refusals.walrus_used.walrus_module_items.declared.global.GlobalKind.{GlobalKind}
use Rattle.walrus_passes.specs.walrus_refusals.walrus_used.walrus_module_items.declared.global.GlobalKind.TheVariants as globals
use Rattle.walrus_passes.specs.walrus_refusals.walrus_used.walrus_module_items.declared.tag.Tag.{Tag}
use Rattle.walrus_passes.specs.walrus_refusals.walrus_used.walrus_module_items.declared.data.Data.{Data}
use Rattle.walrus_passes.specs.walrus_refusals.walrus_used.walrus_module_items.declared.data.DataKind.{DataKind}
use Rattle.walrus_passes.specs.walrus_refusals.walrus_used.walrus_module_items.declared.data.DataKind.TheVariants as datas
use Rattle.walrus_passes.specs.walrus_refusals.walrus_used.walrus_module_items.declared.element.Element.{Element}
use Rattle.walrus_passes.specs.walrus_refusals.walrus_used.walrus_module_items.declared.element.ElementKind.{ElementKind}
use Rattle.walrus_passes.specs.walrus_refusals.walrus_used.walrus_module_items.declared.element.ElementKind.TheVariants as elements
use Rattle.walrus_passes.specs.walrus_refusals.walrus_used.walrus_module_items.declared.element.ElementItems.{ElementItems}
use Rattle.walrus_passes.specs.walrus_refusals.walrus_used.walrus_module_items.declared.element.ElementItems.TheVariants as holds
use Rattle.walrus_passes.specs.walrus_refusals.walrus_used.walrus_module_items.declared.import.Import.{Import}
use Rattle.walrus_passes.specs.walrus_refusals.walrus_used.walrus_module_items.declared.export.ExportItem.{ExportItem}
use Rattle.walrus_passes.specs.walrus_refusals.walrus_used.walrus_module_items.declared.export.ExportItem.TheVariants as exported
use Rattle.walrus_passes.specs.walrus_refusals.walrus_used.walrus_module_items.Functions.{type_of}
use Rattle.walrus_passes.specs.walrus_refusals.walrus_used.walrus_module.Parts.{Module}
use Rattle.walrus_passes.specs.walrus_refusals.walrus_used.walrus_module.Items.{Lives, LivesIn, written, brought, given_out}
use Rattle.walrus_linked.specs.Linked.{IsLinked, IsWhole, import_in}
use Rattle.walrus_linked.specs.walrus_item_meaning.Meaning.{table_init}
use Rattle.walrus_linked.specs.Names.{names, names_in, named_by, type_names, function_names, body_names, body_events, used_types, local_names, table_names, init_names, global_names, value_names, tag_names, element_names, element_kind_names, held_names, data_kind_names}
use Rattle.walrus_roots.specs.declared.item.Item.{Item}
use Rattle.walrus_roots.specs.Items.{item, space_number}
use Rattle.walrus_marks.specs.Chains.{root, refers}
use Rattle.walrus_marks.specs.Named.{event_items, items_of}
use Rattle.walrus_passes.specs.walrus_refusals.walrus_used.walrus_references.References.{RefersIn, Named, KindNames, HasElement, HasData, IsActiveIn, IsCopiedInto, type_items, function_items, table_items, init_items, global_items, value_items, tag_items, element_items, place_items, held_items, data_items, local_items, named_by as referred_by}
use Rattle.walrus_passes.specs.walrus_refusals.walrus_used.walrus_references.Roots.{Root, exports, starts, is_active, fills_import, fills_any, declares, is_pushed}
use Rattle.walrus_passes.specs.walrus_refusals.walrus_used.walrus_references.Kept.{IsReached}
use Rattle.walrus_passes.specs.walrus_refusals.walrus_used.walrus_references.Refused.{IsTreeIn, HasTree, FormsTree}
use Rattle.walrus_passes.proofs.walrus_used.LooksLemmas.{none_in, first_in, only_in, cases_in}
use Rattle.walrus_passes.specs.walrus_refusals.Asked.{IsBrought, IsWholeIn, HasBody, Linked}
use Rattle.walrus_passes.specs.walrus_refusals.Sound.{AllReached, IsRefused, HasForm}
use Rattle.walrus_passes.specs.walrus_refusals.Written.{StaysInGroup, IsUnshared, HasNoExact}
use Rattle.walrus_pass_laws.specs.Served.{PushesLive, LiveIsServed, LinkedAreServed}
use Rattle.walrus_pass_laws.proofs.BodyLemmas.{split}
use Rattle.walrus_pass_laws.proofs.WalkLemmas.{join_left, join_right, body_told}
use Rattle.walrus_pass_laws.proofs.LinkedLemmas.{types_told, functions_told}

-- ---- what an item refers to is named
by_written : (o : Option TypeItem) (y : Item) → Contains (referred_by type_items (written o)) y → IsSome (written o) × Contains (items_of (named_by type_names o)) y
by_written None y c = absurd (none_in y c)
by_written (Some ty) y c = go ty.kind.entry refl
  where
    go : (e : Bool) → ty.kind.entry ≡ e → IsSome (written (Some ty)) × Contains (items_of (type_names ty)) y
    go true e = absurd (none_in y (let d = (rw e at c) in d))
    go false e = (rw e refl, subst (λ (xs : List Item). Contains xs y) (sym (types_told (kind_names ty.kind))) (let d = (rw e at c) in d))

init_back : (o : Option ConstExpr) (y : Item) → Contains (init_items o) y → Contains (items_of (init_names o)) y
init_back None y c = c
init_back (Some e) y c = c

table_back : (o : Option Table) (y : Item) → Contains (referred_by table_items o) y → Contains (items_of (named_by table_names o)) y
table_back None y c = c
table_back (Some t) y c = elim (Contains-append_cases (items_of (ref_names t.element_ty)) (init_items (table_init t)) y c) as (λ _. Contains (items_of (table_names t)) y) [
  | inl l ↦ join_left (ref_names t.element_ty) (init_names (table_init t)) y l
  | inr r ↦ join_right (ref_names t.element_ty) (init_names (table_init t)) y (init_back (table_init t) y r)
]

value_back : (k : GlobalKind) (y : Item) → Contains (value_items k) y → Contains (items_of (value_names k)) y
value_back (globals.Import i) y c = c
value_back (globals.Local e) y c = c

global_back : (o : Option Global) (y : Item) → Contains (referred_by global_items o) y → Contains (items_of (named_by global_names o)) y
global_back None y c = c
global_back (Some g) y c = elim (Contains-append_cases (items_of (val_names g.ty)) (value_items g.kind) y c) as (λ _. Contains (items_of (global_names g)) y) [
  | inl l ↦ join_left (val_names g.ty) (value_names g.kind) y l
  | inr r ↦ join_right (val_names g.ty) (value_names g.kind) y (value_back g.kind y r)
]

tag_back : (o : Option Tag) (y : Item) → Contains (referred_by tag_items o) y → Contains (items_of (named_by tag_names o)) y
tag_back None y c = c
tag_back (Some t) y c = c

place_back : (k : ElementKind) (y : Item) → Contains (place_items k) y → Contains (items_of (element_kind_names k)) y
place_back (elements.Active t e) y c = c
place_back elements.Passive y c = c
place_back elements.Declared y c = c

exprs_back : (es : List ConstExpr) (y : Item) → Contains (flat_map (λ e. items_of (expr_names e)) es) y → Contains (items_of (events_of expr_names es)) y
exprs_back [] y c = c
exprs_back (e ∷ es) y c = elim (Contains-append_cases (items_of (expr_names e)) (flat_map (λ e. items_of (expr_names e)) es) y c) as (λ _. Contains (items_of (events_of expr_names (e ∷ es))) y) [
  | inl l ↦ join_left (expr_names e) (events_of expr_names es) y l
  | inr r ↦ join_right (expr_names e) (events_of expr_names es) y (exprs_back es y r)
]

held_back : (k : ElementItems) (y : Item) → Contains (held_items k) y → Contains (items_of (held_names k)) y
held_back (holds.Functions fs) y c = subst (λ (xs : List Item). Contains xs y) (sym (functions_told fs.items)) c
held_back (holds.Expressions ty es) y c = elim (Contains-append_cases (items_of (ref_names ty)) (flat_map (λ e. items_of (expr_names e)) es.items) y c) as (λ _. Contains (items_of (held_names (holds.Expressions ty es))) y) [
  | inl l ↦ join_left (ref_names ty) (events_of expr_names es.items) y l
  | inr r ↦ join_right (ref_names ty) (events_of expr_names es.items) y (exprs_back es.items y r)
]

element_back : (o : Option Element) (y : Item) → Contains (referred_by element_items o) y → Contains (items_of (named_by element_names o)) y
element_back None y c = c
element_back (Some e) y c = elim (Contains-append_cases (place_items e.kind) (held_items e.items) y c) as (λ _. Contains (items_of (element_names e)) y) [
  | inl l ↦ join_left (element_kind_names e.kind) (held_names e.items) y (place_back e.kind y l)
  | inr r ↦ join_right (element_kind_names e.kind) (held_names e.items) y (held_back e.items y r)
]

data_kind_back : (k : DataKind) (y : Item) → Contains (data_items k) y → Contains (items_of (data_kind_names k)) y
data_kind_back (datas.Active x e) y c = c
data_kind_back datas.Passive y c = c

data_back : (o : Option Data) (y : Item) → Contains (referred_by (λ d. data_items d.kind) o) y → Contains (items_of (named_by (λ d. data_kind_names d.kind) o)) y
data_back None y c = c
data_back (Some d) y c = data_kind_back d.kind y c

-- ---- locals are named in bodies alone
abbrev NoLocal : List Event → Type 0
NoLocal es = (id : ℕ) → Contains (items_of es) (item spaces.Local id) → ⊥

one_other : (s : Space) (k : ℕ) → space_number s < 8 → (id : ℕ) → Contains (item s k ∷ []) (item spaces.Local id) → ⊥
one_other s k low id c = (let same = ap (λ (x : Item). space_number x.space) (only_in (item s k) (item spaces.Local id) c) in omega (arith, low, same))

no_local_both : (a c : List Event) → NoLocal a → NoLocal c → NoLocal (a ++ c)
no_local_both a c p q id h = elim (split a c (item spaces.Local id) h) as (λ _. ⊥) [ inl l ↦ p id l | inr r ↦ q id r ]

no_local_heap : (nullable : Bool) (h : HeapType) → NoLocal (ref_names (record { nullable = nullable; heap_type = h }))
no_local_heap n (heaps.Abstract a) id c = none_in (item spaces.Local id) c
no_local_heap n (heaps.Shared a) id c = none_in (item spaces.Local id) c
no_local_heap n (heaps.Concrete t) id c = one_other spaces.Type t (omega arith) id c
no_local_heap n (heaps.Exact t) id c = one_other spaces.Type t (omega arith) id c

no_local_ref : (ty : RefType) → NoLocal (ref_names ty)
no_local_ref ty = no_local_heap ty.nullable ty.heap_type

no_local_val : (ty : ValType) → NoLocal (val_names ty)
no_local_val (values.Ref ty) = no_local_ref ty
no_local_val values.I32 = λ id c. none_in (item spaces.Local id) c
no_local_val values.I64 = λ id c. none_in (item spaces.Local id) c
no_local_val values.F32 = λ id c. none_in (item spaces.Local id) c
no_local_val values.F64 = λ id c. none_in (item spaces.Local id) c
no_local_val values.V128 = λ id c. none_in (item spaces.Local id) c

no_local_op : (op : ConstOp) → NoLocal (op_names op)
no_local_op (ops.GlobalGet g) = λ id c. one_other spaces.Global g (omega arith) id c
no_local_op (ops.RefNull ty) = no_local_ref ty
no_local_op (ops.RefFunc f) = λ id c. one_other spaces.Function f (omega arith) id c
no_local_op (ops.StructNew t) = λ id c. one_other spaces.Type t (omega arith) id c
no_local_op (ops.StructNewDefault t) = λ id c. one_other spaces.Type t (omega arith) id c
no_local_op (ops.ArrayNew t) = λ id c. one_other spaces.Type t (omega arith) id c
no_local_op (ops.ArrayNewDefault t) = λ id c. one_other spaces.Type t (omega arith) id c
no_local_op (ops.ArrayNewFixed t n) = λ id c. one_other spaces.Type t (omega arith) id c
no_local_op _ = λ id c. none_in (item spaces.Local id) c

no_local_ops : (os : List ConstOp) → NoLocal (events_of op_names os)
no_local_ops [] = λ id c. none_in (item spaces.Local id) c
no_local_ops (o ∷ os) = no_local_both (op_names o) (events_of op_names os) (no_local_op o) (no_local_ops os)

no_local_expr : (e : ConstExpr) → NoLocal (expr_names e)
no_local_expr (exprs.«Value» v) = λ id c. none_in (item spaces.Local id) c
no_local_expr (exprs.Global g) = λ id c. one_other spaces.Global g (omega arith) id c
no_local_expr (exprs.RefNull ty) = no_local_ref ty
no_local_expr (exprs.RefFunc f) = λ id c. one_other spaces.Function f (omega arith) id c
no_local_expr (exprs.Extended os) = no_local_ops os.items

no_local_exprs : (es : List ConstExpr) → NoLocal (events_of expr_names es)
no_local_exprs [] = λ id c. none_in (item spaces.Local id) c
no_local_exprs (e ∷ es) = no_local_both (expr_names e) (events_of expr_names es) (no_local_expr e) (no_local_exprs es)

no_local_types : (ids : List ℕ) → NoLocal (map (λ n. NamesType n) ids)
no_local_types [] = λ id c. none_in (item spaces.Local id) c
no_local_types (t ∷ ids) = no_local_both (NamesType t ∷ []) (map (λ n. NamesType n) ids) (λ id c. one_other spaces.Type t (omega arith) id c) (no_local_types ids)

no_local_functions : (ids : List ℕ) → NoLocal (map (λ n. NamesFunction n) ids)
no_local_functions [] = λ id c. none_in (item spaces.Local id) c
no_local_functions (f ∷ ids) = no_local_both (NamesFunction f ∷ []) (map (λ n. NamesFunction n) ids) (λ id c. one_other spaces.Function f (omega arith) id c) (no_local_functions ids)

no_local_init : (o : Option ConstExpr) → NoLocal (init_names o)
no_local_init None = λ id c. none_in (item spaces.Local id) c
no_local_init (Some e) = no_local_expr e

no_local_value : (k : GlobalKind) → NoLocal (value_names k)
no_local_value (globals.Import i) = λ id c. none_in (item spaces.Local id) c
no_local_value (globals.Local e) = no_local_expr e

no_local_place : (k : ElementKind) → NoLocal (element_kind_names k)
no_local_place (elements.Active t e) = no_local_both (NamesTable t ∷ []) (expr_names e) (λ id c. one_other spaces.Table t (omega arith) id c) (no_local_expr e)
no_local_place elements.Passive = λ id c. none_in (item spaces.Local id) c
no_local_place elements.Declared = λ id c. none_in (item spaces.Local id) c

no_local_held : (k : ElementItems) → NoLocal (held_names k)
no_local_held (holds.Functions fs) = no_local_functions fs.items
no_local_held (holds.Expressions ty es) = no_local_both (ref_names ty) (events_of expr_names es.items) (no_local_ref ty) (no_local_exprs es.items)

no_local_data : (k : DataKind) → NoLocal (data_kind_names k)
no_local_data (datas.Active x e) = no_local_both (NamesMemory x ∷ []) (expr_names e) (λ id c. one_other spaces.Memory x (omega arith) id c) (no_local_expr e)
no_local_data datas.Passive = λ id c. none_in (item spaces.Local id) c

no_local_by : {A : Type 0} (f : A → List Event) → ((x : A) → NoLocal (f x)) → (o : Option A) → NoLocal (named_by f o)
no_local_by f all None = λ id c. none_in (item spaces.Local id) c
no_local_by f all (Some x) = all x

-- ---- the types of the locals that a body names
one_type : (locals : List Local) (e : Event) (id : ℕ) → Contains (event_items e) (item spaces.Local id) → (z : Item) → Contains (items_of (local_names (slice_get locals id))) z → Contains (items_of (used_types locals e)) z
one_type locals (NamesLocal k) id c z d = (let same : k ≡ id = ap (λ (x : Item). x.id) (only_in (item spaces.Local k) (item spaces.Local id) c) in subst (λ j. Contains (items_of (local_names (slice_get locals j))) z) (sym same) d)
one_type locals (NamesType k) id c z d = absurd (one_other spaces.Type k (omega arith) id c)
one_type locals (NamesFunction k) id c z d = absurd (one_other spaces.Function k (omega arith) id c)
one_type locals (NamesTable k) id c z d = absurd (one_other spaces.Table k (omega arith) id c)
one_type locals (NamesMemory k) id c z d = absurd (one_other spaces.Memory k (omega arith) id c)
one_type locals (NamesTag k) id c z d = absurd (one_other spaces.Tag k (omega arith) id c)
one_type locals (NamesGlobal k) id c z d = absurd (one_other spaces.Global k (omega arith) id c)
one_type locals (NamesElement k) id c z d = absurd (one_other spaces.Element k (omega arith) id c)
one_type locals (NamesData k) id c z d = absurd (one_other spaces.Data k (omega arith) id c)
one_type locals _ id c z d = absurd (none_in (item spaces.Local id) c)

its_types : (locals : List Local) (es : List Event) (id : ℕ) → Contains (items_of es) (item spaces.Local id) → (z : Item) → Contains (items_of (local_names (slice_get locals id))) z → Contains (items_of (events_of (used_types locals) es)) z
its_types locals [] id c z d = absurd (none_in (item spaces.Local id) c)
its_types locals (e ∷ es) id c z d = elim (Contains-append_cases (event_items e) (items_of es) (item spaces.Local id) c) as (λ _. Contains (items_of (events_of (used_types locals) (e ∷ es))) z) [
  | inl l ↦ join_left (used_types locals e) (events_of (used_types locals) es) z (one_type locals e id l z d)
  | inr r ↦ join_right (used_types locals e) (events_of (used_types locals) es) z (its_types locals es id r z d)
]

local_back : (o : Option Local) (z : Item) → Contains (referred_by local_items o) z → Contains (items_of (local_names o)) z
local_back None z c = c
local_back (Some l) z c = c

given_low : (i : ExportItem) → (given_out i).space ≡ spaces.Local → ⊥
given_low (exported.Function id) e = (let same = ap space_number e in omega (arith, same))
given_low (exported.Table id) e = (let same = ap space_number e in omega (arith, same))
given_low (exported.Memory id) e = (let same = ap space_number e in omega (arith, same))
given_low (exported.Global id) e = (let same = ap space_number e in omega (arith, same))
given_low (exported.Tag id) e = (let same = ap space_number e in omega (arith, same))

there : {A : Type 0} (o : Option A) (x : A) → o ≡ Some x → IsSome o
there o x e = subst IsSome (sym e) refl

is_there : {A : Type 0} (P : A → Type 0) (o : Option A) → MatchOption o ⊥ P → IsSome o
is_there P None h = absurd h
is_there P (Some x) h = refl

-- ---- linked items, and trees
module _ (m : Module) (linked : IsLinked m) where
  brought_by : (x : Item) (named : Option ℕ) → import_in m x.space x.id ≡ named → IsBrought m.imports x named
  brought_by x None is = tt
  brought_by x (Some i) is = (let h = linked.imported x i is in subst (λ (o : Option Import). MatchOption o ⊥ (λ import. brought import.kind ≡ x)) (sym h.1) h.2)

  has_body : (kind : FunctionKind) → IsWhole m.types kind → HasBody m.types kind
  has_body (functions.Import i) h = h
  has_body (functions.Local local) h = h.0
  has_body (functions.Uninitialized t) h = h

  has_tree : (kind : FunctionKind) → IsWhole m.types kind → HasTree kind
  has_tree (functions.Import i) h = tt
  has_tree (functions.Local local) h = h.1
  has_tree (functions.Uninitialized t) h = tt

  body_if : (id : ℕ) (o : Option Function) → item_at m.funcs id ≡ o → MatchOption o (Unit {0}) (λ f. HasBody m.types f.kind) × MatchOption o (Unit {0}) (λ f. HasTree f.kind)
  body_if id None at = (tt, tt)
  body_if id (Some f) at = (let whole = linked.whole id f at in (has_body f.kind whole, has_tree f.kind whole))

  whole_in : (space : Space) (id : ℕ) → IsWholeIn m space id × IsTreeIn m space id
  whole_in spaces.Type id = (tt, tt)
  whole_in spaces.Function id = body_if id (item_at m.funcs id) refl
  whole_in spaces.Table id = (tt, tt)
  whole_in spaces.Memory id = (tt, tt)
  whole_in spaces.Tag id = (tt, tt)
  whole_in spaces.Global id = (tt, tt)
  whole_in spaces.Element id = (tt, tt)
  whole_in spaces.Data id = (tt, tt)
  whole_in spaces.Local id = (tt, tt)
  whole_in spaces.Label id = (tt, tt)

  is_linked : (x : Item) → Linked m x
  is_linked x = record {
    own = (brought_by x (import_in m x.space x.id) refl, (whole_in x.space x.id).0);
    named_back = λ i import at is. subst (λ (y : Item). import_in m y.space y.id ≡ Some i) is (linked.imports i import at);
  }

  is_tree : (x : Item) → FormsTree m x
  is_tree x = (whole_in x.space x.id).1

-- ---- what is reached lives
module _ (plain : WalkIsPlain) (held : HeldAreNested) (nested : TreesAreNested) (m : Module) (pushed : List Item) (linked : IsLinked m) (push : PushesLive m pushed) where
  -- it lives, and if it is a local what its type names lives
  abbrev Fine : Item → Type 0
  Fine x = Lives m x × (x.space ≡ spaces.Local → (z : Item) → Contains (referred_by local_items (slice_get m.locals x.id)) z → Lives m z)

  plainly : (x : Item) → (x.space ≡ spaces.Local → ⊥) → Lives m x → Fine x
  plainly x other live = (live, λ e z c. absurd (other e))

  low : (s : Space) (id : ℕ) → space_number s < 8 → LivesIn m s id → Fine (item s id)
  low s id below live = plainly (item s id) (λ e. (let same = ap space_number e in omega (arith, below, same))) live

  -- what is named, but by functions
  named_fine : (x y : Item) → Lives m x → NoLocal (names_in m x.space x.id) → Contains (names m x) y → Fine y
  named_fine x y live none c = plainly y (λ e. none y.id (subst (λ (s : Space). Contains (names m x) (item s y.id)) e c)) (linked.named x y live c)

  root_fine : (x : Item) → Root m pushed x → Fine x
  root_fine x (exports e export at) = plainly (given_out export.item) (given_low export.item) (linked.exported e export at)
  root_fine x (starts f is) = low spaces.Function f (omega arith) (linked.started f is)
  root_fine x (is_active d memory offset segment at is) = low spaces.Data d (omega arith) (there (item_at m.data_segments d) segment at)
  root_fine x (fills_import e t offset segment table at is of brings) = low spaces.Element e (omega arith) (there (item_at m.elements e) segment at)
  root_fine x (fills_any e t offset segment all at is) = low spaces.Element e (omega arith) (there (item_at m.elements e) segment at)
  root_fine x (declares e segment at is) = low spaces.Element e (omega arith) (there (item_at m.elements e) segment at)
  root_fine x (is_pushed y c) = plainly x (push x c).1 (push x c).0

  body_fine : (id : ℕ) (f : Function) (kind : FunctionKind) → item_at m.funcs id ≡ Some f → f.kind ≡ kind → IsWhole m.types kind → (y : Item) → KindNames kind y → Fine y
  body_fine id f (functions.Import i) at is whole y h = absurd h
  body_fine id f (functions.Uninitialized t) at is whole y h = absurd h
  body_fine id f (functions.Local local) at is whole y h =
      let tree = whole.1 in
      let told : Contains (items_of (body_events local)) y = body_told plain held (seqs_of local.builder) tree.stands.1 tree.stands.2 (nested (seqs_of local.builder) 0 tree) y h in
      let named : (z : Item) → Contains (items_of (body_names m.locals (functions.Local local))) z → Lives m z = λ z c.
      linked.named (item spaces.Function id) z (there (item_at m.funcs id) f at)
      (subst (λ (o : Option Function). Contains (items_of (named_by (function_names m.locals) o)) z) (sym at)
      (join_right (NamesType (type_of f.kind) ∷ []) (body_names m.locals f.kind) z (subst (λ (k : FunctionKind). Contains (items_of (body_names m.locals k)) z) (sym is) c))) in (
        named y (join_left (body_events local) (events_of (used_types m.locals) (body_events local)) y told),
        λ e z c. named z (join_right (body_events local) (events_of (used_types m.locals) (body_events local)) z
            (its_types m.locals (body_events local) y.id (subst (λ (s : Space). Contains (items_of (body_events local)) (item s y.id)) e told) z (local_back (slice_get m.locals y.id) z c))),
      )

  function_fine : (id : ℕ) (o : Option Function) → item_at m.funcs id ≡ o → (y : Item) → Contains (referred_by function_items o) y ⊎ Named o (λ f. KindNames f.kind y) → Fine y
  function_fine id None at y (inl c) = absurd (none_in y c)
  function_fine id None at y (inr h) = absurd h
  function_fine id (Some f) at y (inl c) =
      let is : item spaces.Type (type_of f.kind) ≡ y = only_in (item spaces.Type (type_of f.kind)) y c in
      subst Fine is (low spaces.Type (type_of f.kind) (omega arith)
      (linked.named (item spaces.Function id) (item spaces.Type (type_of f.kind)) (there (item_at m.funcs id) f at)
      (subst (λ (o : Option Function). Contains (items_of (named_by (function_names m.locals) o)) (item spaces.Type (type_of f.kind))) (sym at) (first_in (item spaces.Type (type_of f.kind)) (items_of (body_names m.locals f.kind))))))
  function_fine id (Some f) at y (inr h) = body_fine id f f.kind at refl (linked.whole id f at) y h

  has_element : (id : ℕ) (o : Option Table) (y : Item) → Named o (λ t. HasElement m id t y) → Fine y
  has_element id None y h = absurd h
  has_element id (Some t) y (e, is, inl act) = subst Fine (sym is) (low spaces.Element e (omega arith) (is_there (λ (x : Element). IsActiveIn id x.kind) (item_at m.elements e) act))
  has_element id (Some t) y (e, is, inr (listed, live)) = subst Fine (sym is) (low spaces.Element e (omega arith) live)

  has_data : (id : ℕ) (o : Option Memory) (y : Item) → Named o (λ x. HasData m id x y) → Fine y
  has_data id None y h = absurd h
  has_data id (Some x) y (d, is, inl act) = subst Fine (sym is) (low spaces.Data d (omega arith) (is_there (λ (s : Data). IsCopiedInto id s.kind) (item_at m.data_segments d) act))
  has_data id (Some x) y (d, is, inr (listed, live)) = subst Fine (sym is) (low spaces.Data d (omega arith) live)

  in_types : (ids : List ℕ) (y : Item) → Contains (map (item spaces.Type) ids) y → (k : ℕ) × Contains ids k × (item spaces.Type k ≡ y)
  in_types [] y c = absurd (none_in y c)
  in_types (t ∷ ids) y c = elim (cases_in (item spaces.Type t) (map (item spaces.Type) ids) y c) as (λ _. (k : ℕ) × Contains (t ∷ ids) k × (item spaces.Type k ≡ y)) [
    | inl e ↦ (t, first_in t ids, e)
    | inr d ↦ (let h = in_types ids y d in (h.0, (let c = h.1 in (suc c.0, omega (arith, c.1), c.2)), h.2))
  ]

  refers_fine : (space : Space) (id : ℕ) (y : Item) → Fine (item space id) → RefersIn m space id y → Fine y
  refers_fine spaces.Type id y x (inl c) = (let b = by_written (type_at m.types id) y c in named_fine (item spaces.Type id) y x.0 (no_local_by type_names (λ ty. no_local_types (kind_names ty.kind)) (type_at m.types id)) b.1)
  refers_fine spaces.Type id y x (inr (group, has, ex, c)) = (let t = in_types group.types y c in subst Fine t.2 (low spaces.Type t.0 (omega arith) (linked.grouped has.place group has.live ex t.0 t.1)))
  refers_fine spaces.Function id y x h = function_fine id (item_at m.funcs id) refl y h
  refers_fine spaces.Table id y x (inl c) =
      named_fine (item spaces.Table id) y x.0 (no_local_by table_names (λ t. no_local_both (ref_names t.element_ty) (init_names (table_init t)) (no_local_ref t.element_ty) (no_local_init (table_init t))) (item_at m.tables id)) (table_back (item_at m.tables id) y c)
  refers_fine spaces.Table id y x (inr h) = has_element id (item_at m.tables id) y h
  refers_fine spaces.Memory id y x h = has_data id (item_at m.memories id) y h
  refers_fine spaces.Tag id y x c =
      named_fine (item spaces.Tag id) y x.0 (no_local_by tag_names (λ t i c. one_other spaces.Type t.ty (omega arith) i c) (item_at m.tags id)) (tag_back (item_at m.tags id) y c)
  refers_fine spaces.Global id y x c =
      named_fine (item spaces.Global id) y x.0 (no_local_by global_names (λ g. no_local_both (val_names g.ty) (value_names g.kind) (no_local_val g.ty) (no_local_value g.kind)) (item_at m.globals id)) (global_back (item_at m.globals id) y c)
  refers_fine spaces.Element id y x c =
      named_fine (item spaces.Element id) y x.0 (no_local_by element_names (λ e. no_local_both (element_kind_names e.kind) (held_names e.items) (no_local_place e.kind) (no_local_held e.items)) (item_at m.elements id)) (element_back (item_at m.elements id) y c)
  refers_fine spaces.Data id y x c = named_fine (item spaces.Data id) y x.0 (no_local_by (λ d. data_kind_names d.kind) (λ d. no_local_data d.kind) (item_at m.data_segments id)) (data_back (item_at m.data_segments id) y c)
  refers_fine spaces.Local id y x c =
      plainly y (λ e. no_local_by (λ (l : Local). val_names l.ty) (λ l. no_local_val l.ty) (slice_get m.locals id) y.id (subst (λ (s : Space). Contains (items_of (named_by (λ (l : Local). val_names l.ty) (slice_get m.locals id))) (item s y.id)) e (of_local (slice_get m.locals id) y c))) (x.1 refl y c)
    where
      of_local : (o : Option Local) (z : Item) → Contains (referred_by local_items o) z → Contains (items_of (named_by (λ (l : Local). val_names l.ty) o)) z
      of_local None z c = c
      of_local (Some l) z c = c
  refers_fine spaces.Label id y x h = absurd h

  all_fine : (x : Item) → IsReached m pushed x → Fine x
  all_fine x (root r) = root_fine x r
  all_fine y (refers {x} k r) = refers_fine x.space x.id y (all_fine x k) r

  no_form : (form : Form) → AllReached m pushed (IsUnshared m) → AllReached m pushed (HasNoExact m) → HasForm m pushed form → ⊥
  no_form forms.SharedGlobal unshared inexact h = h unshared
  no_form forms.ExactType unshared inexact h = h inexact
  no_form forms.SharedTable unshared inexact h = h
  no_form forms.SharedType unshared inexact h = h
  no_form forms.ContinuationType unshared inexact h = h
  no_form forms.Select unshared inexact h = h

  none_dead : AllReached m pushed (StaysInGroup m) → (space : Space) → IsRefused m pushed (refusals.DeadReference space) → ⊥
  none_dead grouped space h = h.2 (λ x r e. ((all_fine x r).0, grouped x r))

  module _ (grouped : AllReached m pushed (StaysInGroup m)) (unshared : AllReached m pushed (IsUnshared m)) (inexact : AllReached m pushed (HasNoExact m)) where
    memory_alone : (fault : ModuleError) → IsRefused m pushed fault → fault ≡ refusals.Memory
    memory_alone refusals.Memory h = refl
    memory_alone refusals.NotLinked h = absurd (h (λ x r. is_linked m linked x))
    memory_alone refusals.NoTree h = absurd (h.1 (λ x r. is_tree m linked x))
    memory_alone (refusals.DeadReference space) h = absurd (none_dead grouped space h)
    memory_alone (refusals.Unsupported form place) h = absurd (no_form form unshared inexact h.3)
    memory_alone _ h = absurd h

  pub live_served : LiveIsServed m pushed
  live_served = record { live = λ x r. (all_fine x r).0; none_dead = none_dead; memory_alone = memory_alone }

pub are_served : WalkIsPlain → HeldAreNested → TreesAreNested → LinkedAreServed
are_served plain held nested m pushed linked = record {
  linked = λ x r. is_linked m linked x;
  trees = λ x r. is_tree m linked x;
  not_unlinked = λ h. h (λ x r. is_linked m linked x);
  not_treeless = λ h. h.1 (λ x r. is_tree m linked x);
  pushing_live = λ push. live_served plain held nested m pushed linked push;
}
