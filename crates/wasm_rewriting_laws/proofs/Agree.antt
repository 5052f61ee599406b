-- Lemmas: plans that agree on what is listed renumber the items of the part alike.
use Rattle.std.specs.Prelude.{ℕ, zero, suc, ◌≡◌, List, [], ◌∷◌, map, Option, Some, None, slice_get, slice_index_or, refl}
use Rattle.std.specs.List.{AllByRecursion}
use Rattle.std.specs.Option.{option_map}
use Rattle.std.proofs.Common.{ap}
use Rattle.walrus_forms.specs.declared.value.HeapType.{HeapType}
use Rattle.walrus_forms.specs.declared.value.HeapType.TheVariants.{Abstract, Shared, Concrete, Exact}
use Rattle.walrus_forms.specs.declared.value.RefType.{RefType}
use Rattle.walrus_forms.specs.declared.value.ValType.{ValType}
use Rattle.walrus_forms.specs.declared.value.ValType.TheVariants.{I32, I64, F32, F64, V128, Ref}
use Rattle.walrus_forms.specs.Values.{heap_name, ref_name, value_name}
use Rattle.walrus_forms.specs.Renaming.{renamed_heap, renamed_ref, renamed_value}
use Rattle.wasm_formats.specs.declared.fault.Space.{Space as FileSpace}
use Rattle.wasm_formats.specs.declared.fault.Space.TheVariants as spaces
use Rattle.wasm_operators.specs.Items.{Space, Types, Functions, Tables, Memories, Tags, Globals, ElementSegments, DataSegments, Locals, Labels}
use Rattle.wasm_operators.specs.Names.{Name, operator_names, renamed_operator}
use Rattle.wasm_operators.specs.Operators.{Seen}
use Rattle.wasm_grammar.specs.Modules.{Expr, Origin, Imported, Own, Placed, Body, Function, Table, Memory, Global, Tag, Mode, Passive, Declared, Active, Elements, Functions as Listed, Expressions, Element, Segment, Import, Export}
use Rattle.wasm_body_grammar.specs.Rules.{Around}
use Rattle.wasm_import_links.specs.Links.{origin_import}
use Rattle.wasm_normal_modules.specs.Numbered.{NamesDecide}
use Rattle.wasm_part.specs.Part.{IsIn, Plan, declaring, number_in, picked, renumbered_body, renumbered_element, renumbered_export, renumbered_expr, renumbered_function, renumbered_global, renumbered_import, renumbered_items, renumbered_memory, renumbered_mode, renumbered_own, renumbered_placed, renumbered_segment, renumbered_table, renumbered_tag}
use Rattle.wasm_part.specs.Closed.{BodyIn, ExprIn, InitIn, ItemIn, ItemsIn, ModeIn, NameIn, NumberIn, OperatorIn, OwnIn, PlacedIn, StartIn, TypeIn}
use Rattle.wasm_part.specs.Kept.{IsShared}

at_slot : {A : Type 0} (f g : A → A) (o : Option A) → ((x : A) → o ≡ Some x → f x ≡ g x) → option_map f o ≡ option_map g o
at_slot f g None h = refl
at_slot {A} f g (Some x) h = ap (λ (y : A). Some y) (h x refl)

pub picked_same : {A : Type 0} (f g : A → A) (ns : List ℕ) (xs : List (Option A)) → ((i n : ℕ) → slice_get ns i ≡ Some n → (x : A) → slice_index_or xs n None ≡ Some x → f x ≡ g x)
    → picked f ns xs ≡ picked g ns xs
picked_same f g [] xs h = refl
picked_same {A} f g (n ∷ ns) xs h =
    let first : option_map f (slice_index_or xs n None) ≡ option_map g (slice_index_or xs n None) = at_slot f g (slice_index_or xs n None) (h zero n refl) in
    let rest : picked f ns xs ≡ picked g ns xs = picked_same f g ns xs (λ i k e. h (suc i) k e) in
    λ i. first i ∷ rest i

each_same : {A B : Type 0} (P : A → Type 0) (f g : A → B) → ((x : A) → P x → f x ≡ g x) → (xs : List A) → AllByRecursion P xs → map f xs ≡ map g xs
each_same P f g same [] h = refl
each_same {A} {B} P f g same (x ∷ xs) h =
    let first : f x ≡ g x = same x h.0 in
    let rest : map f xs ≡ map g xs = each_same P f g same xs h.1 in
    λ i. first i ∷ rest i

module _ (decide : NamesDecide) (p q : Plan) (numbers : (space : Space) (n : ℕ) → IsShared space → IsIn p space n → p.renames space n ≡ q.renames space n)
    (labels : (n : ℕ) → p.renames Labels n ≡ q.renames Labels n) (locals : (n : ℕ) → p.renames Locals n ≡ q.renames Locals n) where
  number_same : (space : Space) (n : ℕ) → NumberIn p space n → p.renames space n ≡ q.renames space n
  number_same Types n h = numbers Types n tt h
  number_same Functions n h = numbers Functions n tt h
  number_same Tables n h = numbers Tables n tt h
  number_same Memories n h = numbers Memories n tt h
  number_same Tags n h = numbers Tags n tt h
  number_same Globals n h = numbers Globals n tt h
  number_same ElementSegments n h = numbers ElementSegments n tt h
  number_same DataSegments n h = numbers DataSegments n tt h
  number_same Locals n h = locals n
  number_same Labels n h = labels n

  names_same : (names : List Name) → AllByRecursion (NameIn p) names → AllByRecursion (λ (n : Name). p.renames n.0 n.1 ≡ q.renames n.0 n.1) names
  names_same [] h = tt
  names_same (n ∷ names) h = (number_same n.0 n.1 h.0, names_same names h.1)

  operator_same : (op : Seen) → OperatorIn p op → renamed_operator p.renames op ≡ renamed_operator q.renames op
  operator_same op h = decide p.renames q.renames op (names_same (operator_names op) h)

  expr_same : (e : Expr) → ExprIn p e → renumbered_expr p.renames e ≡ renumbered_expr q.renames e
  expr_same e h = each_same (OperatorIn p) (renamed_operator p.renames) (renamed_operator q.renames) operator_same e h

  exprs_same : (es : List Expr) → AllByRecursion (ExprIn p) es → map (renumbered_expr p.renames) es ≡ map (renumbered_expr q.renames) es
  exprs_same es h = each_same (ExprIn p) (renumbered_expr p.renames) (renumbered_expr q.renames) expr_same es h

  init_same : (o : Option Expr) → InitIn p o → option_map (renumbered_expr p.renames) o ≡ option_map (renumbered_expr q.renames) o
  init_same None h = refl
  init_same (Some e) h = ap (λ (x : Expr). Some x) (expr_same e h)

  -- ---- types

  heap_same : (ty : HeapType) → TypeIn p (heap_name ty) → renamed_heap (p.renames Types) ty ≡ renamed_heap (q.renames Types) ty
  heap_same (Abstract ty) h = refl
  heap_same (Shared ty) h = refl
  heap_same (Concrete n) h = ap (λ (k : ℕ). Concrete k) (numbers Types n tt h)
  heap_same (Exact n) h = ap (λ (k : ℕ). Exact k) (numbers Types n tt h)

  ref_same : (ty : RefType) → TypeIn p (ref_name ty) → renamed_ref (p.renames Types) ty ≡ renamed_ref (q.renames Types) ty
  ref_same ty h = let heap = heap_same ty.heap_type h in λ i. record { nullable = ty.nullable; heap_type = heap i }

  value_same : (ty : ValType) → TypeIn p (value_name ty) → renamed_value (p.renames Types) ty ≡ renamed_value (q.renames Types) ty
  value_same I32 h = refl
  value_same I64 h = refl
  value_same F32 h = refl
  value_same F64 h = refl
  value_same V128 h = refl
  value_same (Ref ty) h = ap (λ (r : RefType). Ref r) (ref_same ty h)

  -- ---- bodies, and items of the spaces

  module _ (a b : Around) where
    placed_same : (o : Placed) → PlacedIn p a b o → renumbered_placed p.renames o ≡ renumbered_placed q.renames o
    placed_same o h = let op = operator_same o.op h.0 in λ i. record { place = o.place; op = op i }

    body_same : (o : Origin Body) → BodyIn p a b o → ((i : ℕ) → origin_import o ≡ Some i → p.brings i ≡ q.brings i)
        → renumbered_own p.renames p.brings (renumbered_body p.renames) o ≡ renumbered_own q.renames q.brings (renumbered_body q.renames) o
    body_same (Imported n) h brings = ap (λ (k : ℕ). let o : Origin Body = Imported k in o) (brings n refl)
    body_same (Own x) h brings =
        let tys : map (renamed_value (p.renames Types)) x.locals ≡ map (renamed_value (q.renames Types)) x.locals =
        each_same (λ (ty : ValType). TypeIn p (value_name ty)) (renamed_value (p.renames Types)) (renamed_value (q.renames Types)) value_same x.locals h.0 in
        let ops : map (renumbered_placed p.renames) x.operators ≡ map (renumbered_placed q.renames) x.operators =
        each_same (PlacedIn p a b) (renumbered_placed p.renames) (renumbered_placed q.renames) placed_same x.operators h.1 in
        λ i. Own (record { locals = tys i; operators = ops i })

    pub function_same : (f : Function) → IsIn p Types f.ty → BodyIn p a b f.origin → ((i : ℕ) → origin_import f.origin ≡ Some i → p.brings i ≡ q.brings i)
        → renumbered_function p.renames p.brings f ≡ renumbered_function q.renames q.brings f
    function_same f h k brings = let ty = numbers Types f.ty tt h in let origin = body_same f.origin k brings in λ i. record { ty = ty i; origin = origin i }

  imported_same : (o : Option ℕ) → ((i : ℕ) → o ≡ Some i → p.brings i ≡ q.brings i) → option_map p.brings o ≡ option_map q.brings o
  imported_same None h = refl
  imported_same (Some n) h = ap (λ (k : ℕ). Some k) (h n refl)

  pub table_same : (t : Table) → TypeIn p (ref_name t.element) → InitIn p t.init → ((i : ℕ) → t.imported ≡ Some i → p.brings i ≡ q.brings i)
      → renumbered_table p.renames p.brings t ≡ renumbered_table q.renames q.brings t
  table_same t h k brings =
      let element = ref_same t.element h in
      let init = init_same t.init k in
      let imported = imported_same t.imported brings in
      λ i. record t { element = element i; init = init i; imported = imported i }

  pub memory_same : (x : Memory) → ((i : ℕ) → x.imported ≡ Some i → p.brings i ≡ q.brings i) → renumbered_memory p.renames p.brings x ≡ renumbered_memory q.renames q.brings x
  memory_same x brings = let imported = imported_same x.imported brings in λ i. record x { imported = imported i }

  pub tag_same : (t : Tag) → IsIn p Types t.ty → ((i : ℕ) → t.imported ≡ Some i → p.brings i ≡ q.brings i) → renumbered_tag p.renames p.brings t ≡ renumbered_tag q.renames q.brings t
  tag_same t h brings = let ty = numbers Types t.ty tt h in let imported = imported_same t.imported brings in λ i. record { ty = ty i; imported = imported i }

  own_same : (o : Origin Expr) → OwnIn p o → ((i : ℕ) → origin_import o ≡ Some i → p.brings i ≡ q.brings i)
      → renumbered_own p.renames p.brings (renumbered_expr p.renames) o ≡ renumbered_own q.renames q.brings (renumbered_expr q.renames) o
  own_same (Imported n) h brings = ap (λ (k : ℕ). let o : Origin Expr = Imported k in o) (brings n refl)
  own_same (Own e) h brings = ap (λ (x : Expr). let o : Origin Expr = Own x in o) (expr_same e h)

  pub global_same : (g : Global) → TypeIn p (value_name g.ty) → OwnIn p g.origin → ((i : ℕ) → origin_import g.origin ≡ Some i → p.brings i ≡ q.brings i)
      → renumbered_global p.renames p.brings g ≡ renumbered_global q.renames q.brings g
  global_same g h k brings = let ty = value_same g.ty h in let origin = own_same g.origin k brings in λ i. record { ty = ty i; mutable = g.mutable; origin = origin i }

  mode_same : (space : Space) → IsShared space → (mode : Mode) → ModeIn p space mode → renumbered_mode p.renames space mode ≡ renumbered_mode q.renames space mode
  mode_same space shared (Active into offset) h = let n = numbers space into shared h.0 in let e = expr_same offset h.1 in λ i. Active (n i) (e i)
  mode_same space shared Passive h = refl
  mode_same space shared Declared h = refl

  items_same : (items : Elements) → ItemsIn p items → renumbered_items p.renames items ≡ renumbered_items q.renames items
  items_same (Listed ns) h = ap (λ (l : List ℕ). Listed l) (each_same (λ (n : ℕ). IsIn p Functions n) (p.renames Functions) (q.renames Functions) (λ n h. numbers Functions n tt h) ns h)
  items_same (Expressions ty es) h = let r = ref_same ty h.0 in let l = exprs_same es h.1 in λ i. Expressions (r i) (l i)

  pub element_same : (e : Element) → ModeIn p Tables e.mode → ItemsIn p e.items → renumbered_element p.renames e ≡ renumbered_element q.renames e
  element_same e h k = let mode = mode_same Tables tt e.mode h in let items = items_same e.items k in λ i. record { mode = mode i; items = items i }

  pub segment_same : (x : Segment) → ModeIn p Memories x.mode → renumbered_segment p.renames x ≡ renumbered_segment q.renames x
  segment_same x h = let mode = mode_same Memories tt x.mode h in λ i. record { mode = mode i; bytes = x.bytes }

  -- ---- imports, exports, the start function, declared functions

  item_same : (space : FileSpace) (n : ℕ) → ItemIn p space n → number_in p.renames space n ≡ number_in q.renames space n
  item_same spaces.«Type» n h = numbers Types n tt h
  item_same spaces.Function n h = numbers Functions n tt h
  item_same spaces.Table n h = numbers Tables n tt h
  item_same spaces.Memory n h = numbers Memories n tt h
  item_same spaces.Tag n h = numbers Tags n tt h
  item_same spaces.Global n h = numbers Globals n tt h
  item_same spaces.Element n h = numbers ElementSegments n tt h
  item_same spaces.Data n h = numbers DataSegments n tt h
  item_same spaces.Local n h = refl
  item_same spaces.Label n h = refl

  pub import_same : (x : Import) → ItemIn p x.item.space x.item.number → renumbered_import p.renames x ≡ renumbered_import q.renames x
  import_same x h = let n = item_same x.item.space x.item.number h in λ i. record { space_name = x.space_name; name = x.name; item = record { space = x.item.space; number = n i } }

  pub export_same : (x : Export) → ItemIn p x.item.space x.item.number → renumbered_export p.renames x ≡ renumbered_export q.renames x
  export_same x h = let n = item_same x.item.space x.item.number h in λ i. record { name = x.name; item = record { space = x.item.space; number = n i } }

  pub start_same : (o : Option ℕ) → StartIn p o → option_map (p.renames Functions) o ≡ option_map (q.renames Functions) o
  start_same None h = refl
  start_same (Some n) h = ap (λ (k : ℕ). Some k) (numbers Functions n tt h)

  one_declared : (ns : List ℕ) → AllByRecursion (λ (n : ℕ). IsIn p Functions n) ns → (let slot : Option Element = Some (declaring p.renames ns) in slot ≡ Some (declaring q.renames ns))
  one_declared ns h =
      let l = each_same (λ (n : ℕ). IsIn p Functions n) (p.renames Functions) (q.renames Functions) (λ n h. numbers Functions n tt h) ns h in
      λ i. Some (record { mode = Declared; items = Listed (l i) })

  pub declared_same : (nss : List (List ℕ)) → AllByRecursion (AllByRecursion (λ (n : ℕ). IsIn p Functions n)) nss
      → map (λ (ns : List ℕ). let slot : Option Element = Some (declaring p.renames ns) in slot) nss ≡ map (λ (ns : List ℕ). Some (declaring q.renames ns)) nss
  declared_same nss h = each_same (AllByRecursion (λ (n : ℕ). IsIn p Functions n)) (λ (ns : List ℕ). Some (declaring p.renames ns)) (λ (ns : List ℕ). Some (declaring q.renames ns)) one_declared nss h
