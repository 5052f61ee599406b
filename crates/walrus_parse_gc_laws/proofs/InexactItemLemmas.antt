-- Lemmas: tables, globals and segments that mean those of a file hold no exact heap type, where the file's don't.
use Rattle.std.proofs.Common.{ap, subst, sym}
use Rattle.std.specs.List.{AllByRecursion, list_any}
use Rattle.std.specs.Option.{option_map}
use Rattle.std.specs.Prelude.{Bool, List, None, Option, Some, [], false, map, refl, slice_index_or, suc, zero, ℕ, ◌∷◌, ◌≡◌}
use Rattle.walrus_pass_laws.specs.walrus_exact.Exact.{data_exact, element_exact, expr_exact, global_exact, heap_exact, held_exact, init_exact, op_exact, place_exact, ref_exact, table_exact, val_exact, value_exact}
use Rattle.walrus_parse_laws.specs.walrus_pairing.walrus_forms.Renaming.{renamed_ref}
use Rattle.walrus_parse_laws.specs.walrus_pairing.walrus_forms.declared.value.HeapType.TheVariants as heaps
use Rattle.walrus_parse_laws.specs.walrus_pairing.walrus_forms.declared.value.HeapType.{HeapType}
use Rattle.walrus_marks.specs.walrus_instr.Constants.{ops_of}
use Rattle.walrus_marks.specs.walrus_instr.declared.const_expr.ConstExpr.TheVariants as exprs
use Rattle.walrus_marks.specs.walrus_instr.declared.const_expr.ConstExpr.{ConstExpr}
use Rattle.walrus_marks.specs.walrus_instr.declared.const_expr.ConstOp.TheVariants as consts
use Rattle.walrus_marks.specs.walrus_instr.declared.const_expr.ConstOp.{ConstOp}
use Rattle.walrus_parse_laws.specs.Renamed.{by_types, retyped_element, retyped_expr, retyped_global, retyped_items, retyped_mode, retyped_origin, retyped_segment, retyped_table}
use Rattle.walrus_parse_laws.specs.walrus_named_bodies.walrus_file_bodies.walrus_items_into.walrus_module_bodies.walrus_body_trees.walrus_meaning.Meaning.{own_data_mode, own_element, own_element_mode, own_elements, own_global, own_segment, own_table, own_value_of, table_init}
use Rattle.walrus_parse_laws.specs.walrus_named_bodies.walrus_file_bodies.walrus_items_into.walrus_module_bodies.walrus_body_trees.walrus_meaning.Words.{const_seen, own_expr, own_heap}
use Rattle.walrus_parse_laws.specs.walrus_named_bodies.walrus_file_bodies.walrus_items_into.walrus_module_env.walrus_collections.walrus_module_items.declared.data.Data.{Data}
use Rattle.walrus_parse_laws.specs.walrus_named_bodies.walrus_file_bodies.walrus_items_into.walrus_module_env.walrus_collections.walrus_module_items.declared.data.DataKind.TheVariants as datas
use Rattle.walrus_parse_laws.specs.walrus_named_bodies.walrus_file_bodies.walrus_items_into.walrus_module_env.walrus_collections.walrus_module_items.declared.data.DataKind.{DataKind}
use Rattle.walrus_parse_laws.specs.walrus_named_bodies.walrus_file_bodies.walrus_items_into.walrus_module_env.walrus_collections.walrus_module_items.declared.element.Element.{Element}
use Rattle.walrus_parse_laws.specs.walrus_named_bodies.walrus_file_bodies.walrus_items_into.walrus_module_env.walrus_collections.walrus_module_items.declared.element.ElementItems.TheVariants as holds
use Rattle.walrus_parse_laws.specs.walrus_named_bodies.walrus_file_bodies.walrus_items_into.walrus_module_env.walrus_collections.walrus_module_items.declared.element.ElementItems.{ElementItems}
use Rattle.walrus_parse_laws.specs.walrus_named_bodies.walrus_file_bodies.walrus_items_into.walrus_module_env.walrus_collections.walrus_module_items.declared.element.ElementKind.TheVariants as elements
use Rattle.walrus_parse_laws.specs.walrus_named_bodies.walrus_file_bodies.walrus_items_into.walrus_module_env.walrus_collections.walrus_module_items.declared.element.ElementKind.{ElementKind}
use Rattle.walrus_parse_laws.specs.walrus_named_bodies.walrus_file_bodies.walrus_items_into.walrus_module_env.walrus_collections.walrus_module_items.declared.global.Global.{Global}
use Rattle.walrus_parse_laws.specs.walrus_named_bodies.walrus_file_bodies.walrus_items_into.walrus_module_env.walrus_collections.walrus_module_items.declared.global.GlobalKind.TheVariants as globals
use Rattle.walrus_parse_laws.specs.walrus_named_bodies.walrus_file_bodies.walrus_items_into.walrus_module_env.walrus_collections.walrus_module_items.declared.global.GlobalKind.{GlobalKind}
use Rattle.walrus_parse_laws.specs.walrus_named_bodies.walrus_file_bodies.walrus_items_into.walrus_module_env.walrus_collections.walrus_module_items.declared.table.Table.{Table}
use Rattle.walrus_parse_gc_laws.proofs.ValueLemmas.{any_false, heap_false, operator_renamed, or_false, ref_renamed, value_false, value_renamed}
use Rattle.walrus_pass_laws.specs.walrus_refusals.Written.{HasNone}
use Rattle.walrus_parse_laws.specs.walrus_named_bodies.walrus_file_bodies.walrus_items_into.wasm_sections.wasm_grammar.Modules as grammar
use Rattle.wasm_inexact_modules.specs.Inexact.{InexactElements, InexactExpr, InexactInit, InexactMode, InexactOperator, InexactOrigin, InexactRef, InexactValue, InexactWritten}
use Rattle.walrus_parse_laws.specs.walrus_named_bodies.walrus_file_bodies.walrus_items_into.wasm_module_rules.Linked.{Each}
use Rattle.walrus_parse_laws.specs.walrus_pairing.wasm_operators.Names.{renamed_operator}

-- ---- slots

module _ {A B : Type 0} (see : A → B) (f : B → B) (P : B → Type 0) (exact : A → Bool) (one : (x : A) (y : B) → see x ≡ f y → P y → exact x ≡ false) where
  heads : (x y : B) (xs ys : List (Option B)) → Some x ∷ xs ≡ Some y ∷ ys → x ≡ y
  heads x y xs ys e = cc

  tails : (x y : Option B) (xs ys : List (Option B)) → x ∷ xs ≡ y ∷ ys → xs ≡ ys
  tails x y xs ys e = cc

  -- what is seen in slots is what the file has, each item changed
  pub none_in : (xs : List (Option A)) (ys : List (Option B)) → map (option_map see) xs ≡ map (option_map f) ys → Each P ys → (id : ℕ) → HasNone exact (slice_index_or xs id None)
  none_in [] ys e h id = tt
  none_in (x ∷ xs) [] e h id = absurd cc
  none_in (None ∷ xs) (y ∷ ys) e h zero = tt
  none_in (Some x ∷ xs) (None ∷ ys) e h zero = absurd cc
  none_in (Some x ∷ xs) (Some y ∷ ys) e h zero = one x y (heads (see x) (f y) (map (option_map see) xs) (map (option_map f) ys) e) h.0
  none_in (x ∷ xs) (None ∷ ys) e h (suc id) = none_in xs ys (tails (option_map see x) None (map (option_map see) xs) (map (option_map f) ys) e) h id
  none_in (x ∷ xs) (Some y ∷ ys) e h (suc id) = none_in xs ys (tails (option_map see x) (Some (f y)) (map (option_map see) xs) (map (option_map f) ys) e) h.1 id

-- ---- expressions

own_false : (ty : HeapType) → InexactWritten (own_heap ty) → heap_exact ty ≡ false
own_false (heaps.Abstract kind) h = refl
own_false (heaps.Shared kind) h = refl
own_false (heaps.Concrete id) h = refl
own_false (heaps.Exact id) h = absurd h

op_false : (c : ConstOp) → InexactOperator (const_seen c) → op_exact c ≡ false
op_false (consts.RefNull ty) h = own_false ty.heap_type h.0
op_false _ h = refl

module _ (r : ℕ → ℕ) where
  ops_false : (cs : List ConstOp) (ops : grammar.Expr) → map const_seen cs ≡ retyped_expr r ops → InexactExpr ops → AllByRecursion (λ (c : ConstOp). op_exact c ≡ false) cs
  ops_false [] ops e h = tt
  ops_false (c ∷ cs) [] e h = absurd cc
  ops_false (c ∷ cs) (op ∷ ops) e h =
      let head : const_seen c ≡ renamed_operator (by_types r) op = cc in
      let tail : map const_seen cs ≡ retyped_expr r ops = cc in
      (op_false c (subst InexactOperator (sym head) (operator_renamed (by_types r) op h.0)), ops_false cs ops tail h.1)

  of_ops : (expr : ConstExpr) → AllByRecursion (λ (c : ConstOp). op_exact c ≡ false) (ops_of expr) → expr_exact expr ≡ false
  of_ops (exprs.RefNull ty) h = h.0
  of_ops (exprs.Extended ops) h = any_false op_exact (λ (c : ConstOp). op_exact c ≡ false) (λ c h. h) ops.items h
  of_ops _ h = refl

  expr_false : (expr : ConstExpr) (ops : grammar.Expr) → own_expr expr ≡ retyped_expr r ops → InexactExpr ops → expr_exact expr ≡ false
  expr_false expr ops e h = of_ops expr (ops_false (ops_of expr) ops e h)

  exprs_false : (xs : List ConstExpr) (ys : List grammar.Expr) → map own_expr xs ≡ map (retyped_expr r) ys → AllByRecursion InexactExpr ys → list_any expr_exact xs ≡ false
  exprs_false [] ys e h = refl
  exprs_false (x ∷ xs) [] e h = absurd cc
  exprs_false (x ∷ xs) (y ∷ ys) e h =
      let head : own_expr x ≡ retyped_expr r y = cc in
      let tail : map own_expr xs ≡ map (retyped_expr r) ys = cc in
      or_false (expr_exact x) (list_any expr_exact xs) (expr_false x y head h.0) (exprs_false xs ys tail h.1)

  -- ---- items

  init_false : (x : Option ConstExpr) (y : Option grammar.Expr) → option_map own_expr x ≡ option_map (retyped_expr r) y → InexactInit y → init_exact x ≡ false
  init_false None y e h = refl
  init_false (Some x) None e h = absurd cc
  init_false (Some x) (Some y) e h = let same : own_expr x ≡ retyped_expr r y = cc in expr_false x y same h

  pub table_false : (t : Table) (u : grammar.Table) → own_table t ≡ retyped_table r u → InexactRef u.element × InexactInit u.init → table_exact t ≡ false
  table_false t u e h =
      or_false (ref_exact t.element_ty) (init_exact (table_init t))
      (heap_false t.element_ty.heap_type (subst InexactRef (sym (ap (λ (x : grammar.Table). x.element) e)) (ref_renamed r u.element h.0)))
      (init_false (table_init t) u.init (ap (λ (x : grammar.Table). x.init) e) h.1)

  origin_false : (x : GlobalKind) (y : grammar.Origin grammar.Expr) → own_value_of x ≡ retyped_origin r y → InexactOrigin y → value_exact x ≡ false
  origin_false (globals.Import id) y e h = refl
  origin_false (globals.Local init) (grammar.Imported n) e h = absurd cc
  origin_false (globals.Local init) (grammar.Own ops) e h = let same : own_expr init ≡ retyped_expr r ops = cc in expr_false init ops same h

  pub global_false : (g : Global) (u : grammar.Global) → own_global g ≡ retyped_global r u → InexactValue u.ty × InexactOrigin u.origin → global_exact g ≡ false
  global_false g u e h =
      or_false (val_exact g.ty) (value_exact g.kind)
      (value_false g.ty (subst InexactValue (sym (ap (λ (x : grammar.Global). x.ty) e)) (value_renamed r u.ty h.0)))
      (origin_false g.kind u.origin (ap (λ (x : grammar.Global). x.origin) e) h.1)

  place_false : (x : ElementKind) (y : grammar.Mode) → own_element_mode x ≡ retyped_mode r y → InexactMode y → place_exact x ≡ false
  place_false elements.Passive y e h = refl
  place_false elements.Declared y e h = refl
  place_false (elements.Active table offset) grammar.Passive e h = absurd cc
  place_false (elements.Active table offset) grammar.Declared e h = absurd cc
  place_false (elements.Active table offset) (grammar.Active into ops) e h = let same : own_expr offset ≡ retyped_expr r ops = cc in expr_false offset ops same h

  held_false : (x : ElementItems) (y : grammar.Elements) → own_elements x ≡ retyped_items r y → InexactElements y → held_exact x ≡ false
  held_false (holds.Functions ids) y e h = refl
  held_false (holds.Expressions ty es) (grammar.Functions ns) e h = absurd cc
  held_false (holds.Expressions ty es) (grammar.Expressions other os) e h =
      let same : ty ≡ renamed_ref r other = cc in
      let alike : map own_expr es.items ≡ map (retyped_expr r) os = cc in
      or_false (ref_exact ty) (list_any expr_exact es.items) (heap_false ty.heap_type (subst InexactRef (sym same) (ref_renamed r other h.0))) (exprs_false es.items os alike h.1)

  pub element_false : (x : Element) (u : grammar.Element) → own_element x ≡ retyped_element r u → InexactMode u.mode × InexactElements u.items → element_exact x ≡ false
  element_false x u e h =
      or_false (place_exact x.kind) (held_exact x.items) (place_false x.kind u.mode (ap (λ (y : grammar.Element). y.mode) e) h.0) (held_false x.items u.items (ap (λ (y : grammar.Element). y.items) e) h.1)

  data_so : (x : DataKind) (y : grammar.Mode) → own_data_mode x ≡ retyped_mode r y → InexactMode y → data_exact x ≡ false
  data_so datas.Passive y e h = refl
  data_so (datas.Active memory offset) grammar.Passive e h = absurd cc
  data_so (datas.Active memory offset) grammar.Declared e h = absurd cc
  data_so (datas.Active memory offset) (grammar.Active into ops) e h = let same : own_expr offset ≡ retyped_expr r ops = cc in expr_false offset ops same h

  pub data_false : (x : Data) (u : grammar.Segment) → own_segment x ≡ retyped_segment r u → InexactMode u.mode → data_exact x.kind ≡ false
  data_false x u e h = data_so x.kind u.mode (ap (λ (y : grammar.Segment). y.mode) e) h
