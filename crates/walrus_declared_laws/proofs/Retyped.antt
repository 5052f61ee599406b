-- Lemmas: plans that number the types alike that a file's items name have one part of the file's merged module.
use Rattle.std.specs.Prelude.{ℕ, zero, suc, ◌≡◌, ◌++◌, Bool, true, false, List, [], ◌∷◌, filter, map, Option, Some, None, slice_index_or, refl, if◌then◌else◌}
use Rattle.std.specs.List.{AllByRecursion}
use Rattle.std.specs.Option.{option_map}
use Rattle.std.proofs.Common.{ap, sym, ◌∙◌}
use Rattle.walrus_forms.specs.Renaming.{at, renamed_heap, renamed_ref, renamed_value}
use Rattle.walrus_forms.specs.declared.value.HeapType.{HeapType}
use Rattle.walrus_forms.specs.declared.value.HeapType.TheVariants as heaps
use Rattle.walrus_forms.specs.declared.value.RefType.{RefType}
use Rattle.walrus_forms.specs.declared.value.ValType.{ValType}
use Rattle.walrus_forms.specs.declared.value.ValType.TheVariants as values
use Rattle.wasm_body_grammar.specs.Codes.{param_count}
use Rattle.wasm_body_grammar.specs.Rules.{Around}
use Rattle.wasm_formats.specs.declared.fault.Space.{Space as FileSpace}
use Rattle.wasm_formats.specs.declared.fault.Space.TheVariants as spaces
use Rattle.wasm_grammar.specs.Modules as grammar
use Rattle.wasm_module_rules.specs.Linked.{Each}
use Rattle.wasm_merged_modules.specs.Merged.{ids_of, merged_module}
use Rattle.wasm_normal_form.specs.Bodies.{is_used, new_number, used_keys}
use Rattle.wasm_normal_form.specs.Locals.{Key, in_order, insert_key, is_less, key_cmp, numbered}
use Rattle.wasm_normal_form.specs.Normal.{normal_ops}
use Rattle.wasm_normal_form.specs.Roles.{Placed}
use Rattle.wasm_normal_modules.specs.Modules.{by_types, normal_function, normal_origin, retyped_element, retyped_expr, retyped_global, retyped_items, retyped_mode, retyped_origin, retyped_segment, retyped_table, retyped_tag}
use Rattle.wasm_operators.specs.Items.{Space, Types, Functions, Tables, Memories, Tags, Globals, ElementSegments, DataSegments, Locals, Labels}
use Rattle.wasm_operators.specs.NameLaws.{RenamesTwice}
use Rattle.wasm_operators.specs.Names.{Renaming, renamed_operator}
use Rattle.wasm_operators.specs.Operators.{Seen}
use Rattle.wasm_part.specs.Closed.{IsListed}
use Rattle.wasm_part.specs.Order.{HasDeclared, Holds, InOrder, Wants, brought_by}
use Rattle.wasm_part.specs.Part.{Plan, declaring, number_in, part, picked, renumbered_body, renumbered_element, renumbered_expr, renumbered_function, renumbered_export, renumbered_global, renumbered_import, renumbered_items, renumbered_mode, renumbered_own, renumbered_placed, renumbered_segment, renumbered_table, renumbered_tag}
use Rattle.wasm_ruled_modules.specs.Rules.{around_bodies}
use Rattle.wasm_ruled_normal.specs.Normal.{located, text_of}
use Rattle.wasm_ruled_renamed.specs.Bodies.{normal_renamed, with_numbers}
use Rattle.wasm_ruled_renamed.specs.Renamed.{renamed_placed}
use Rattle.wasm_run_names.specs.Picks.{block_pick}
use Rattle.walrus_declared_laws.specs.Retyped.{RetypedPartsAreSame, for_types, retyped_plan}

-- ---- slots of images

slot_at : {A B : Type 0} (g : A → B) (xs : List (Option A)) (n : ℕ) → slice_index_or (map (option_map g) xs) n None ≡ option_map g (slice_index_or xs n None)
slot_at g [] n = refl
slot_at g (x ∷ xs) zero = refl
slot_at g (x ∷ xs) (suc n) = slot_at g xs n

images_same : {A B : Type 0} (g : A → B) (F G : B → B) → ((x : A) → F (g x) ≡ G (g x)) → (o : Option A) → option_map F (option_map g o) ≡ option_map G (option_map g o)
images_same g F G same None = refl
images_same {A} {B} g F G same (Some x) = ap (λ (y : B). Some y) (same x)

picked_images : {A B : Type 0} (g : A → B) (F G : B → B) → ((x : A) → F (g x) ≡ G (g x)) → (ns : List ℕ) (xs : List (Option A)) → picked F ns (map (option_map g) xs) ≡ picked G ns (map (option_map g) xs)
picked_images g F G same [] xs = refl
picked_images {A} {B} g F G same (n ∷ ns) xs =
    let o = slot_at g xs n in
    let first : option_map F (slice_index_or (map (option_map g) xs) n None) ≡ option_map G (slice_index_or (map (option_map g) xs) n None) =
    ap (option_map F) o ∙ images_same g F G same (slice_index_or xs n None) ∙ sym (ap (option_map G) o) in
    let rest : picked F ns (map (option_map g) xs) ≡ picked G ns (map (option_map g) xs) = picked_images g F G same ns xs in
    λ i. first i ∷ rest i

slot_each : {B : Type 0} (P : B → Type 0) (F G : B → B) → ((y : B) → P y → F y ≡ G y) → (xs : List (Option B)) → Each P xs → (n : ℕ) → option_map F (slice_index_or xs n None) ≡ option_map G (slice_index_or xs n None)
slot_each P F G same [] all n = refl
slot_each P F G same (None ∷ xs) all zero = refl
slot_each {B} P F G same (Some y ∷ xs) all zero = ap (λ (z : B). Some z) (same y all.0)
slot_each P F G same (None ∷ xs) all (suc n) = slot_each P F G same xs all n
slot_each P F G same (Some y ∷ xs) all (suc n) = slot_each P F G same xs all.1 n

picked_each : {B : Type 0} (P : B → Type 0) (F G : B → B) → ((y : B) → P y → F y ≡ G y) → (ns : List ℕ) (xs : List (Option B)) → Each P xs → picked F ns xs ≡ picked G ns xs
picked_each P F G same [] xs all = refl
picked_each {B} P F G same (n ∷ ns) xs all =
    let first = slot_each P F G same xs all n in
    let rest : picked F ns xs ≡ picked G ns xs = picked_each P F G same ns xs all in
    λ i. first i ∷ rest i

-- ---- the types of a body's locals are images

module _ (P : ValType → Type 0) where
  abbrev AllOf : List Key → Type 0
  AllOf ks = AllByRecursion (λ (k : Key). P k.0) ks

  inserted : (k : Key) (ks : List Key) → P k.0 → AllOf ks → AllOf (insert_key k ks)
  inserted k [] p all = (p, tt)
  inserted k (j ∷ js) p all = by (is_less (key_cmp j k)) (inserted k js p all.1)
    where
      by : (b : Bool) → AllOf (insert_key k js) → AllOf (if b then j ∷ insert_key k js else k ∷ (j ∷ js))
      by true later = (all.0, later)
      by false later = (p, all)

  ordered : (ks : List Key) → AllOf ks → AllOf (in_order ks)
  ordered [] all = tt
  ordered (k ∷ ks) all = inserted k (in_order ks) all.0 (ordered ks all.1)

  filtered : (test : Key → Bool) (ks : List Key) → AllOf ks → AllOf (filter test ks)
  filtered test [] all = tt
  filtered test (k ∷ ks) all = by (test k) (filtered test ks all.1)
    where
      by : (b : Bool) → AllOf (filter test ks) → AllOf (if b then k ∷ filter test ks else filter test ks)
      by true later = (all.0, later)
      by false later = later

  from_types : (from : ℕ) (tys : List ValType) → AllByRecursion P tys → AllOf (numbered from tys)
  from_types from [] all = tt
  from_types from (ty ∷ tys) all = (all.0, from_types (suc from) tys all.1)

  keys_all : (params : ℕ) (tys : List ValType) (ops : List Placed) → AllByRecursion P tys → AllOf (used_keys params tys ops)
  keys_all params tys ops all = ordered (filter (λ (k : Key). is_used ops k.1) (numbered params tys)) (filtered (λ (k : Key). is_used ops k.1) (numbered params tys) (from_types params tys all))

module _ (twice : RenamesTwice) (s f : ℕ → ℕ) (q : Renaming) (same : (n : ℕ) → f (s n) ≡ q Types (s n)) where
  abbrev r : Renaming
  r = for_types f q

  -- ---- operators

  space_same : (w : Renaming) → ((n : ℕ) → w Types n ≡ s n) → (space : Space) (n : ℕ) → r space (w space n) ≡ q space (w space n)
  space_same w types Types n = ap f (types n) ∙ same n ∙ sym (ap (q Types) (types n))
  space_same w types Functions n = refl
  space_same w types Tables n = refl
  space_same w types Memories n = refl
  space_same w types Tags n = refl
  space_same w types Globals n = refl
  space_same w types ElementSegments n = refl
  space_same w types DataSegments n = refl
  space_same w types Locals n = refl
  space_same w types Labels n = refl

  operator_same : (w : Renaming) → ((n : ℕ) → w Types n ≡ s n) → (op : Seen) → renamed_operator r (renamed_operator w op) ≡ renamed_operator q (renamed_operator w op)
  operator_same w types op =
      twice w r op ∙ ap (λ (x : Renaming). renamed_operator x op) (λ i space n. space_same w types space n i) ∙ sym (twice w q op)

  expr_same : (e : grammar.Expr) → renumbered_expr r (retyped_expr s e) ≡ renumbered_expr q (retyped_expr s e)
  expr_same [] = refl
  expr_same (op ∷ ops) =
      let first = operator_same (by_types s) (λ n. refl) op in
      let rest : renumbered_expr r (retyped_expr s ops) ≡ renumbered_expr q (retyped_expr s ops) = expr_same ops in
      λ i. first i ∷ rest i

  exprs_same : (es : List grammar.Expr) → map (renumbered_expr r) (map (retyped_expr s) es) ≡ map (renumbered_expr q) (map (retyped_expr s) es)
  exprs_same [] = refl
  exprs_same (e ∷ es) =
      let first = expr_same e in
      let rest : map (renumbered_expr r) (map (retyped_expr s) es) ≡ map (renumbered_expr q) (map (retyped_expr s) es) = exprs_same es in
      λ i. first i ∷ rest i

  init_same : (o : Option grammar.Expr) → option_map (renumbered_expr r) (option_map (retyped_expr s) o) ≡ option_map (renumbered_expr q) (option_map (retyped_expr s) o)
  init_same None = refl
  init_same (Some e) = ap (λ (x : grammar.Expr). Some x) (expr_same e)

  -- ---- types

  heap_same : (ty : HeapType) → renamed_heap f (renamed_heap s ty) ≡ renamed_heap (q Types) (renamed_heap s ty)
  heap_same (heaps.Abstract ty) = refl
  heap_same (heaps.Shared ty) = refl
  heap_same (heaps.Concrete n) = ap heaps.Concrete (same n)
  heap_same (heaps.Exact n) = ap heaps.Exact (same n)

  ref_same : (ty : RefType) → renamed_ref f (renamed_ref s ty) ≡ renamed_ref (q Types) (renamed_ref s ty)
  ref_same ty = let heap = heap_same ty.heap_type in λ i. record { nullable = ty.nullable; heap_type = heap i }

  abbrev Same : ValType → Type 0
  Same v = renamed_value f v ≡ renamed_value (q Types) v

  value_same : (ty : ValType) → Same (renamed_value s ty)
  value_same values.I32 = refl
  value_same values.I64 = refl
  value_same values.F32 = refl
  value_same values.F64 = refl
  value_same values.V128 = refl
  value_same (values.Ref ty) = ap (λ (x : RefType). values.Ref x) (ref_same ty)

  values_same : (tys : List ValType) → AllByRecursion Same (map (renamed_value s) tys)
  values_same [] = tt
  values_same (ty ∷ tys) = (value_same ty, values_same tys)

  locals_same : (ks : List Key) → AllByRecursion (λ (k : Key). Same k.0) ks → map (renamed_value f) (map (λ (k : Key). k.0) ks) ≡ map (renamed_value (q Types)) (map (λ (k : Key). k.0) ks)
  locals_same [] all = refl
  locals_same (k ∷ ks) all =
      let first = all.0 in
      let rest : map (renamed_value f) (map (λ (k : Key). k.0) ks) ≡ map (renamed_value (q Types)) (map (λ (k : Key). k.0) ks) = locals_same ks all.1 in
      λ i. first i ∷ rest i

  -- ---- items

  module _ (brings : ℕ → ℕ) where
    placed_same : (w : Renaming) → ((n : ℕ) → w Types n ≡ s n) → (ops : List grammar.Placed)
        → map (renumbered_placed r) (map (renamed_placed w) ops) ≡ map (renumbered_placed q) (map (renamed_placed w) ops)
    placed_same w types [] = refl
    placed_same w types (o ∷ ops) =
        let first = operator_same w types o.op in
        let rest : map (renumbered_placed r) (map (renamed_placed w) ops) ≡ map (renumbered_placed q) (map (renamed_placed w) ops) = placed_same w types ops in
        λ i. (let x : grammar.Placed = record { place = o.place; op = first i } in x) ∷ rest i

    module _ (place : Option ℕ → ℕ) (a : Around) where
      body_same : (params : ℕ) (x : grammar.Body) → renumbered_body r (normal_renamed place a (by_types s) params x) ≡ renumbered_body q (normal_renamed place a (by_types s) params x)
      body_same params x =
          let ops : List Placed = normal_ops (block_pick a) (text_of x.operators) in
          let tys : List ValType = map (renamed_value s) x.locals in
          let keys : List Key = used_keys params tys ops in
          let locals = locals_same keys (keys_all Same params tys ops (values_same x.locals)) in
          let operators = placed_same (with_numbers (new_number params keys) (by_types s)) (λ n. refl) (map (located place) ops) in
          λ i. record { locals = locals i; operators = operators i }

      origin_same : (params : ℕ) (o : grammar.Origin grammar.Body)
          → renumbered_own r brings (renumbered_body r) (normal_origin place a s params o) ≡ renumbered_own q brings (renumbered_body q) (normal_origin place a s params o)
      origin_same params (grammar.Imported n) = refl
      origin_same params (grammar.Own x) = ap (λ (b : grammar.Body). let o : grammar.Origin grammar.Body = grammar.Own b in o) (body_same params x)

      function_same : (g : grammar.Function) → renumbered_function r brings (normal_function place a s g) ≡ renumbered_function q brings (normal_function place a s g)
      function_same g = let origin = origin_same (param_count a.filled g.ty) g.origin in λ i. record { ty = same g.ty i; origin = origin i }

    table_same : (t : grammar.Table) → renumbered_table r brings (retyped_table s t) ≡ renumbered_table q brings (retyped_table s t)
    table_same t = let element = ref_same t.element in let init = init_same t.init in λ i. record t { element = element i; init = init i; imported = option_map brings t.imported }

    tag_same : (t : grammar.Tag) → renumbered_tag r brings (retyped_tag s t) ≡ renumbered_tag q brings (retyped_tag s t)
    tag_same t = λ i. record { ty = same t.ty i; imported = option_map brings t.imported }

    own_same : (o : grammar.Origin grammar.Expr) → renumbered_own r brings (renumbered_expr r) (retyped_origin s o) ≡ renumbered_own q brings (renumbered_expr q) (retyped_origin s o)
    own_same (grammar.Imported n) = refl
    own_same (grammar.Own e) = ap (λ (x : grammar.Expr). let o : grammar.Origin grammar.Expr = grammar.Own x in o) (expr_same e)

    global_same : (g : grammar.Global) → renumbered_global r brings (retyped_global s g) ≡ renumbered_global q brings (retyped_global s g)
    global_same g = let ty = value_same g.ty in let origin = own_same g.origin in λ i. record { ty = ty i; mutable = g.mutable; origin = origin i }

  tables_mode_same : (m : grammar.Mode) → renumbered_mode r Tables (retyped_mode s m) ≡ renumbered_mode q Tables (retyped_mode s m)
  tables_mode_same (grammar.Active into offset) = ap (grammar.Active (q Tables into)) (expr_same offset)
  tables_mode_same grammar.Passive = refl
  tables_mode_same grammar.Declared = refl

  memories_mode_same : (m : grammar.Mode) → renumbered_mode r Memories (retyped_mode s m) ≡ renumbered_mode q Memories (retyped_mode s m)
  memories_mode_same (grammar.Active into offset) = ap (grammar.Active (q Memories into)) (expr_same offset)
  memories_mode_same grammar.Passive = refl
  memories_mode_same grammar.Declared = refl

  items_same : (x : grammar.Elements) → renumbered_items r (retyped_items s x) ≡ renumbered_items q (retyped_items s x)
  items_same (grammar.Functions ns) = refl
  items_same (grammar.Expressions ty es) = let t = ref_same ty in let l = exprs_same es in λ i. grammar.Expressions (t i) (l i)

  element_same : (e : grammar.Element) → renumbered_element r (retyped_element s e) ≡ renumbered_element q (retyped_element s e)
  element_same e = let mode = tables_mode_same e.mode in let items = items_same e.items in λ i. record { mode = mode i; items = items i }

  segment_same : (x : grammar.Segment) → renumbered_segment r (retyped_segment s x) ≡ renumbered_segment q (retyped_segment s x)
  segment_same x = let mode = memories_mode_same x.mode in λ i. record { mode = mode i; bytes = x.bytes }

-- ---- what is imported and exported is no type

module _ (f : ℕ → ℕ) (q : Renaming) where
  abbrev NoType : FileSpace → Type 0
  NoType space = space ≡ spaces.«Type» → ⊥

  number_same : (space : FileSpace) (n : ℕ) → NoType space → number_in (for_types f q) space n ≡ number_in q space n
  number_same spaces.«Type» n none = absurd (none refl)
  number_same spaces.Function n none = refl
  number_same spaces.Table n none = refl
  number_same spaces.Memory n none = refl
  number_same spaces.Tag n none = refl
  number_same spaces.Global n none = refl
  number_same spaces.Element n none = refl
  number_same spaces.Data n none = refl
  number_same spaces.Local n none = refl
  number_same spaces.Label n none = refl

  import_same : (x : grammar.Import) → NoType x.item.space → renumbered_import (for_types f q) x ≡ renumbered_import q x
  import_same x none = let n = number_same x.item.space x.item.number none in λ i. record { space_name = x.space_name; name = x.name; item = record { space = x.item.space; number = n i } }

  export_same : (x : grammar.Export) → NoType x.item.space → renumbered_export (for_types f q) x ≡ renumbered_export q x
  export_same x none = let n = number_same x.item.space x.item.number none in λ i. record { name = x.name; item = record { space = x.item.space; number = n i } }

-- ---- the plan lists all else as before

module _ (m : grammar.Module) (q : Plan) (f : ℕ → ℕ) (types : List ℕ) where
  abbrev p : Plan
  p = retyped_plan f types q

  wants_on : (n : ℕ) → Wants m q n → Wants m p n
  wants_on n (Wants.body k g c at h) = Wants.body k g c at h
  wants_on n (Wants.init k g c at h) = Wants.init k g c at h

  wants_back : (n : ℕ) → Wants m p n → Wants m q n
  wants_back n (Wants.body k g c at h) = Wants.body k g c at h
  wants_back n (Wants.init k g c at h) = Wants.init k g c at h

  holds_on : (n : ℕ) → Holds m q n → Holds m p n
  holds_on n (Holds.exported k e c at space number) = Holds.exported k e c at space number
  holds_on n (Holds.segment k e c at h) = Holds.segment k e c at h

  holds_back : (n : ℕ) → Holds m p n → Holds m q n
  holds_back n (Holds.exported k e c at space number) = Holds.exported k e c at space number
  holds_back n (Holds.segment k e c at h) = Holds.segment k e c at h

  declared_on : (nss : List (List ℕ)) → HasDeclared m q nss → HasDeclared m p nss
  declared_on [] h = λ n w. holds_on n (h n (wants_back n w))
  declared_on (ns ∷ []) h = (
    h.0,
    h.1,
    λ n. (
      λ c. (let w = (h.2 n).0 c in (wants_on n w.0, λ held. w.1 (holds_back n held))),
      λ w. (h.2 n).1 (wants_back n w.0, λ held. w.1 (holds_on n held)),
    ),
  )
  declared_on (ns ∷ ks ∷ nss) h = h

  module _ (o : InOrder m q) where
    listed_on : (space : Space) → IsListed space → p.listed space ≡ brought_by m space p.imports ++ o.own space
    listed_on Types is = absurd is
    listed_on Functions is = o.listed Functions is
    listed_on Tables is = o.listed Tables is
    listed_on Memories is = o.listed Memories is
    listed_on Tags is = o.listed Tags is
    listed_on Globals is = o.listed Globals is
    listed_on ElementSegments is = o.listed ElementSegments is
    listed_on DataSegments is = o.listed DataSegments is
    listed_on Locals is = absurd is
    listed_on Labels is = absurd is

    order_on : InOrder m p
    order_on = record { imports = o.imports; brings = o.brings; own = o.own; listed = listed_on; are_own = o.are_own; ordered = o.ordered }

module _ (twice : RenamesTwice) where
  retyped_same : RetypedPartsAreSame
  retyped_same place features counted more file q f types brings_none same =
      let a : Around = around_bodies features counted file in
      let s : ℕ → ℕ = at (ids_of file.groups) in
      let m : grammar.Module = merged_module place features counted more file in
      let p : Plan = retyped_plan f types q in
      let b = q.brings in
      let functions = picked_images (normal_function place a s) (renumbered_function p.renames b) (renumbered_function q.renames b) (function_same twice s f q.renames same b place a) (q.listed Functions) file.functions in
      let tables = picked_images (retyped_table s) (renumbered_table p.renames b) (renumbered_table q.renames b) (table_same twice s f q.renames same b) (q.listed Tables) file.tables in
      let tags = picked_images (retyped_tag s) (renumbered_tag p.renames b) (renumbered_tag q.renames b) (tag_same twice s f q.renames same b) (q.listed Tags) file.tags in
      let globals = picked_images (retyped_global s) (renumbered_global p.renames b) (renumbered_global q.renames b) (global_same twice s f q.renames same b) (q.listed Globals) file.globals in
      let elements = picked_images (retyped_element s) (renumbered_element p.renames) (renumbered_element q.renames) (element_same twice s f q.renames same) (q.listed ElementSegments) file.elements in
      let segments = picked_images (retyped_segment s) (renumbered_segment p.renames) (renumbered_segment q.renames) (segment_same twice s f q.renames same) (q.listed DataSegments) file.segments in
      let imports = picked_each (λ (x : grammar.Import). NoType f q.renames x.item.space) (renumbered_import p.renames) (renumbered_import q.renames) (import_same f q.renames) q.imports file.imports brings_none.imports in
      let exports = picked_each (λ (x : grammar.Export). NoType f q.renames x.item.space) (renumbered_export p.renames) (renumbered_export q.renames) (export_same f q.renames) q.exports file.exports brings_none.exports in
      record {
        same = λ i. record (part q m) {
          imports = imports i;
          exports = exports i;
          functions = functions i;
          tables = tables i;
          tags = tags i;
          globals = globals i;
          elements = elements i ++ map (λ (ns : List ℕ). Some (declaring q.renames ns)) q.declared;
          segments = segments i;
        };
        ordered = λ o. order_on m q f types o;
        declared = declared_on m q f types;
      }

pub retyped_parts : RenamesTwice → RetypedPartsAreSame
retyped_parts twice = retyped_same twice
