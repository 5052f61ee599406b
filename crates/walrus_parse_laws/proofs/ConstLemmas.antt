-- Lemmas: what constant expressions name, which are those of the file with other numbers of types.
use Rattle.std.specs.Prelude.{ℕ, ◌≡◌, ◌<◌, Bool, List, [], ◌∷◌, length, map, None, nat_lt, refl}
use Rattle.std.proofs.Common.{ap, sym, ◌∙◌, subst}
use Rattle.std.proofs.lemmas.Bool.{ltb-true}
use Rattle.walrus_named_bodies.specs.walrus_file_bodies.walrus_items_into.walrus_module_bodies.walrus_body_trees.walrus_meaning.walrus_local_function.walrus_body_locals.walrus_body_nesting.wasm_formats.Stops.{Trouble, Index}
use Rattle.walrus_named_bodies.specs.walrus_file_bodies.walrus_items_into.walrus_module_bodies.walrus_body_trees.walrus_meaning.walrus_local_function.walrus_body_locals.walrus_body_nesting.wasm_formats.declared.fault.Space.TheVariants as spaces
use Rattle.walrus_named_bodies.specs.walrus_file_bodies.walrus_items_into.walrus_module_bodies.walrus_body_trees.walrus_meaning.walrus_local_function.walrus_body_locals.wasm_grammar.Exprs.{Known, items_test}
use Rattle.walrus_named_bodies.specs.walrus_file_bodies.walrus_items_into.walrus_module_bodies.walrus_body_trees.walrus_meaning.walrus_local_function.walrus_body_locals.wasm_grammar.Modules.{Expr}
use Rattle.walrus_named_bodies.specs.walrus_file_bodies.walrus_items_into.walrus_module_bodies.walrus_body_trees.walrus_meaning.walrus_local_function.walrus_body_locals.wasm_grammar.Values.{must}
use Rattle.wasm_module_rules.specs.Keeps.{first_none, must_holds}
use Rattle.wasm_import_links.specs.wasm_ruled_modules.Rules.{AreKnown, IsExpr}
use Rattle.walrus_named_bodies.specs.walrus_file_bodies.walrus_items_into.walrus_module_bodies.walrus_body_trees.walrus_meaning.walrus_body_writer.walrus_pairing.walrus_codes.wasm_operators.Operators.{Seen}
use Rattle.walrus_named_bodies.specs.walrus_file_bodies.walrus_items_into.walrus_module_bodies.walrus_body_trees.walrus_meaning.walrus_local_function.walrus_body_locals.wasm_body_grammar.wasm_operators.Names.{renamed_heap, renamed_item, renamed_operator}
use Rattle.walrus_named_bodies.specs.walrus_file_bodies.walrus_items_into.walrus_module_bodies.walrus_body_trees.walrus_meaning.walrus_local_function.walrus_body_locals.wasm_ref_types.declared.heap.HeapType.{HeapType as Read}
use Rattle.walrus_named_bodies.specs.walrus_file_bodies.walrus_items_into.walrus_module_bodies.walrus_body_trees.walrus_meaning.walrus_local_function.walrus_body_locals.wasm_ref_types.declared.heap.HeapType.TheVariants as read
use Rattle.walrus_named_bodies.specs.walrus_file_bodies.walrus_items_into.walrus_module_bodies.walrus_body_trees.walrus_meaning.walrus_local_function.walrus_body_locals.wasm_ref_types.declared.index.UnpackedIndex.TheVariants.{Module, RecGroup, Id}
use Rattle.walrus_named_bodies.specs.walrus_file_bodies.walrus_items_into.walrus_module_bodies.walrus_body_trees.walrus_meaning.walrus_body_writer.walrus_pairing.wasm_operators.Items.{Space, Types, Functions, Globals, Item as Word, Names, Number, S32, S64, Bits, Byte, Bytes, Heap, Block, Access, ManyLabels, ManyValues, ManyClauses}
use Rattle.walrus_walks.specs.walrus_forms.declared.value.HeapType.{HeapType}
use Rattle.walrus_walks.specs.walrus_forms.declared.value.HeapType.TheVariants.{Abstract, Shared, Concrete, Exact}
use Rattle.walrus_marks.specs.walrus_instr.Constants.{ops_of}
use Rattle.walrus_marks.specs.walrus_instr.declared.const_expr.ConstExpr.{ConstExpr}
use Rattle.walrus_marks.specs.walrus_instr.declared.const_expr.ConstOp.{ConstOp}
use Rattle.walrus_marks.specs.walrus_instr.declared.const_expr.ConstOp.TheVariants as consts
use Rattle.walrus_parse_laws.specs.Renamed.{by_types, retyped_expr}
use Rattle.walrus_marks.specs.Named.{items_of}
use Rattle.walrus_marks.specs.walrus_walks.ConstEvents.{ExprsTellOps, expr_names, op_names}
use Rattle.walrus_marks.specs.walrus_walks.Events.{Event, events_of, ref_names}
use Rattle.walrus_named_bodies.specs.walrus_file_bodies.walrus_items_into.walrus_module_bodies.walrus_body_trees.walrus_meaning.Words.{const_seen, own_expr, own_heap}
use Rattle.walrus_named_bodies.specs.walrus_file_bodies.walrus_items_into.walrus_tables_into.walrus_sections.walrus_roots.Items.{item}
use Rattle.walrus_named_bodies.specs.walrus_file_bodies.walrus_items_into.walrus_tables_into.walrus_sections.walrus_roots.declared.item.Item.{Item}
use Rattle.walrus_parse_laws.proofs.ListLemmas.{AllOf, cons_head, cons_tail, items_join}

-- of what is known, it holds of each item
pub record Serves (k : Known) (r : ℕ → ℕ) (P : Item → Type 0) : Type 0 where
  pub types : (n : ℕ) → n < k.types → P (item spaces.«Type» (r n))
  pub functions : (n : ℕ) → n < k.functions → P (item spaces.Function n)
  pub globals : (n : ℕ) → n < length k.globals → P (item spaces.Global n)

-- ---- words that are renamed

named_by : (r : ℕ → ℕ) (space : Space) (g : ℕ) (more : List Word) (words : List Word) → Names space g ∷ more ≡ map (renamed_item (by_types r)) words
    → (n : ℕ) × (rest : List Word) × (words ≡ Names space n ∷ rest) × (g ≡ by_types r space n)
named_by r space g more [] e = absurd cc
named_by r space g more (Names s n ∷ rest) e = at_space s (ap_space e) (ap_number e)
  where
    ap_space : Names space g ∷ more ≡ Names s (by_types r s n) ∷ map (renamed_item (by_types r)) rest → space ≡ s
    ap_space e = cc

    ap_number : Names space g ∷ more ≡ Names s (by_types r s n) ∷ map (renamed_item (by_types r)) rest → g ≡ by_types r s n
    ap_number e = cc

    at_space : (t : Space) → space ≡ t → g ≡ by_types r t n → (m : ℕ) × (later : List Word) × (Names t n ∷ rest ≡ Names space m ∷ later) × (g ≡ by_types r space m)
    at_space t same number = (n, rest, ap (λ (u : Space). Names u n ∷ rest) (sym same), number ∙ ap (λ (u : Space). by_types r u n) (sym same))
named_by r space g more (Number n ∷ rest) e = absurd cc
named_by r space g more (S32 z ∷ rest) e = absurd cc
named_by r space g more (S64 z ∷ rest) e = absurd cc
named_by r space g more (Bits size n ∷ rest) e = absurd cc
named_by r space g more (Byte b ∷ rest) e = absurd cc
named_by r space g more (Bytes run ∷ rest) e = absurd cc
named_by r space g more (Heap ty ∷ rest) e = absurd cc
named_by r space g more (Block ty ∷ rest) e = absurd cc
named_by r space g more (Access a ∷ rest) e = absurd cc
named_by r space g more (ManyLabels ns ∷ rest) e = absurd cc
named_by r space g more (ManyValues tys ∷ rest) e = absurd cc
named_by r space g more (ManyClauses cs ∷ rest) e = absurd cc

heap_by : (r : ℕ → ℕ) (h : Read) (more : List Word) (words : List Word) → Heap h ∷ more ≡ map (renamed_item (by_types r)) words
    → (ty : Read) × (rest : List Word) × (words ≡ Heap ty ∷ rest) × (h ≡ renamed_heap (by_types r) ty)
heap_by r h more [] e = absurd cc
heap_by r h more (Names s n ∷ rest) e = absurd cc
heap_by r h more (Number n ∷ rest) e = absurd cc
heap_by r h more (S32 z ∷ rest) e = absurd cc
heap_by r h more (S64 z ∷ rest) e = absurd cc
heap_by r h more (Bits size n ∷ rest) e = absurd cc
heap_by r h more (Byte b ∷ rest) e = absurd cc
heap_by r h more (Bytes run ∷ rest) e = absurd cc
heap_by r h more (Heap ty ∷ rest) e = (ty, rest, refl, same e)
  where
    same : Heap h ∷ more ≡ Heap (renamed_heap (by_types r) ty) ∷ map (renamed_item (by_types r)) rest → h ≡ renamed_heap (by_types r) ty
    same e = cc
heap_by r h more (Block ty ∷ rest) e = absurd cc
heap_by r h more (Access a ∷ rest) e = absurd cc
heap_by r h more (ManyLabels ns ∷ rest) e = absurd cc
heap_by r h more (ManyValues tys ∷ rest) e = absurd cc
heap_by r h more (ManyClauses cs ∷ rest) e = absurd cc

below : (n count : ℕ) (t : Trouble) → must (nat_lt n count) t ≡ None → n < count
below n count t e = ltb-true n count (must_holds (nat_lt n count) t e)

-- ---- operators

module _ (k : Known) (r : ℕ → ℕ) (P : Item → Type 0) (serves : Serves k r P) where
  typed : (ty : ℕ) (more words : List Word) → Names Types ty ∷ more ≡ map (renamed_item (by_types r)) words → items_test k words ≡ None → P (item spaces.«Type» ty)
  typed ty more words e test =
      let by = named_by r Types ty more words e in
      let passed = first_none _ _ (subst (λ (l : List Word). items_test k l ≡ None) by.2 test) in
      subst (λ (n : ℕ). P (item spaces.«Type» n)) (sym by.3) (serves.types by.0 (below by.0 k.types (Index spaces.«Type») passed.0))

  of_global : (g : ℕ) (more words : List Word) → Names Globals g ∷ more ≡ map (renamed_item (by_types r)) words → items_test k words ≡ None → P (item spaces.Global g)
  of_global g more words e test =
      let by = named_by r Globals g more words e in
      let passed = first_none _ _ (subst (λ (l : List Word). items_test k l ≡ None) by.2 test) in
      subst (λ (n : ℕ). P (item spaces.Global n)) (sym by.3) (serves.globals by.0 (below by.0 (length k.globals) (Index spaces.Global) passed.0))

  of_function : (f : ℕ) (more words : List Word) → Names Functions f ∷ more ≡ map (renamed_item (by_types r)) words → items_test k words ≡ None → P (item spaces.Function f)
  of_function f more words e test =
      let by = named_by r Functions f more words e in
      let passed = first_none _ _ (subst (λ (l : List Word). items_test k l ≡ None) by.2 test) in
      subst (λ (n : ℕ). P (item spaces.Function n)) (sym by.3) (serves.functions by.0 (below by.0 k.functions (Index spaces.Function) passed.0))

  -- a heap type that names a type of the module
  concrete : (id : ℕ) (ty : Read) (rest : List Word) → read.Concrete (Module id) ≡ renamed_heap (by_types r) ty → items_test k (Heap ty ∷ rest) ≡ None → P (item spaces.«Type» id)
  concrete id (read.Abstract shared ty) rest e test = absurd cc
  concrete id (read.Concrete (Module n)) rest e test =
      let same : id ≡ r n = cc in
      subst (λ (n : ℕ). P (item spaces.«Type» n)) (sym same) (serves.types n (below n k.types (Index spaces.«Type») (first_none _ _ test).0))
  concrete id (read.Concrete (RecGroup n)) rest e test = absurd cc
  concrete id (read.Concrete (Id n)) rest e test = absurd cc
  concrete id (read.Exact index) rest e test = absurd cc

  exact : (id : ℕ) (ty : Read) (rest : List Word) → read.Exact (Module id) ≡ renamed_heap (by_types r) ty → items_test k (Heap ty ∷ rest) ≡ None → P (item spaces.«Type» id)
  exact id (read.Abstract shared ty) rest e test = absurd cc
  exact id (read.Exact (Module n)) rest e test =
      let same : id ≡ r n = cc in
      subst (λ (n : ℕ). P (item spaces.«Type» n)) (sym same) (serves.types n (below n k.types (Index spaces.«Type») (first_none _ _ test).0))
  exact id (read.Exact (RecGroup n)) rest e test = absurd cc
  exact id (read.Exact (Id n)) rest e test = absurd cc
  exact id (read.Concrete index) rest e test = absurd cc

  heap_served : (nullable : Bool) (heap : HeapType) (words : List Word) → Heap (own_heap heap) ∷ [] ≡ map (renamed_item (by_types r)) words → items_test k words ≡ None
      → AllOf P (items_of (ref_names (record { nullable = nullable; heap_type = heap })))
  heap_served nullable (Abstract ty) words e test = tt
  heap_served nullable (Shared ty) words e test = tt
  heap_served nullable (Concrete id) words e test =
      let by = heap_by r (own_heap (Concrete id)) [] words e in (concrete id by.0 by.1 by.3 (subst (λ (l : List Word). items_test k l ≡ None) by.2 test), tt)
  heap_served nullable (Exact id) words e test =
      let by = heap_by r (own_heap (Exact id)) [] words e in (exact id by.0 by.1 by.3 (subst (λ (l : List Word). items_test k l ≡ None) by.2 test), tt)

  op_served : (c : ConstOp) (op : Seen) → const_seen c ≡ renamed_operator (by_types r) op → items_test k op.items ≡ None → AllOf P (items_of (op_names c))
  op_served (consts.I32Const z) op e test = tt
  op_served (consts.I64Const z) op e test = tt
  op_served (consts.F32Const bits) op e test = tt
  op_served (consts.F64Const bits) op e test = tt
  op_served (consts.V128Const bits) op e test = tt
  op_served (consts.GlobalGet g) op e test = (of_global g [] op.items (ap (λ (s : Seen). s.items) e) test, tt)
  op_served (consts.RefNull ty) op e test = heap_served ty.nullable ty.heap_type op.items (ap (λ (s : Seen). s.items) e) test
  op_served (consts.RefFunc f) op e test = (of_function f [] op.items (ap (λ (s : Seen). s.items) e) test, tt)
  op_served consts.I32Add op e test = tt
  op_served consts.I32Sub op e test = tt
  op_served consts.I32Mul op e test = tt
  op_served consts.I64Add op e test = tt
  op_served consts.I64Sub op e test = tt
  op_served consts.I64Mul op e test = tt
  op_served consts.RefI31 op e test = tt
  op_served (consts.StructNew ty) op e test = (typed ty [] op.items (ap (λ (s : Seen). s.items) e) test, tt)
  op_served (consts.StructNewDefault ty) op e test = (typed ty [] op.items (ap (λ (s : Seen). s.items) e) test, tt)
  op_served (consts.ArrayNew ty) op e test = (typed ty [] op.items (ap (λ (s : Seen). s.items) e) test, tt)
  op_served (consts.ArrayNewDefault ty) op e test = (typed ty [] op.items (ap (λ (s : Seen). s.items) e) test, tt)
  op_served (consts.ArrayNewFixed ty size) op e test = (typed ty (Number size ∷ []) op.items (ap (λ (s : Seen). s.items) e) test, tt)
  op_served consts.AnyConvertExtern op e test = tt
  op_served consts.ExternConvertAny op e test = tt

  ops_served : (cs : List ConstOp) (expr : Expr) → map const_seen cs ≡ map (renamed_operator (by_types r)) expr → AreKnown k expr → AllOf P (items_of (events_of op_names cs))
  ops_served [] expr e h = tt
  ops_served (c ∷ cs) [] e h = absurd cc
  ops_served (c ∷ cs) (op ∷ expr) e h =
      items_join P (op_names c) (events_of op_names cs)
      (op_served c op (cons_head (const_seen c) (renamed_operator (by_types r) op) (map const_seen cs) (map (renamed_operator (by_types r)) expr) e) h.1)
      (ops_served cs expr (cons_tail (const_seen c) (renamed_operator (by_types r) op) (map const_seen cs) (map (renamed_operator (by_types r)) expr) e) h.2)

  pub expr_served : ExprsTellOps → (expr : ConstExpr) (from : Expr) → own_expr expr ≡ retyped_expr r from → IsExpr k from → AllOf P (items_of (expr_names expr))
  expr_served tell expr from e h = subst (λ (es : List Event). AllOf P (items_of es)) (sym (tell expr)) (ops_served (ops_of expr) from e h.0)
