-- Lemmas: the rules of a module, one by one, in a part of it.
use Rattle.std.specs.Prelude.{ℕ, zero, suc, ◌≡◌, ◌<◌, ◌≤◌, ◌+◌, ◌⊎◌, ◌||◌, Bool, true, false, List, [], ◌∷◌, ◌++◌, filter, length, map, Option, Some, None, slice_get, slice_index_or, refl}
use Rattle.std.specs.List.{AllByRecursion, list_any}
use Rattle.std.specs.Option.{option_map}
use Rattle.std.proofs.Common.{ap, sym, ◌∙◌, subst, arith, inl, inr}
use Rattle.std.proofs.lemmas.Bool.{cases_lt}
use Rattle.std.proofs.lemmas.List.{length-map, length-append}
use Rattle.std.proofs.lemmas.List.Folds.{list_any-append}
use Rattle.std.proofs.lemmas.Option.{slice_get_within}
use Rattle.walrus_forms.specs.Forms.{Form, FunctionForm, StructForm, ArrayForm, params_of}
use Rattle.walrus_forms.specs.Kinds.{Kind}
use Rattle.walrus_forms.specs.Renaming.{HeapBelow, RefBelow, ValueBelow, renamed_form, renamed_heap, renamed_kind, renamed_value}
use Rattle.walrus_forms.specs.Values.{heap_name, value_name}
use Rattle.walrus_forms.specs.declared.value.HeapType.{HeapType}
use Rattle.walrus_forms.specs.declared.value.HeapType.TheVariants.{Abstract, Shared, Concrete, Exact}
use Rattle.walrus_forms.specs.declared.value.ValType.{ValType}
use Rattle.walrus_forms.specs.declared.value.ValType.TheVariants.{I32, I64, F32, F64, V128, Ref}
use Rattle.wasm_body_grammar.specs.Bodies.{most_locals}
use Rattle.wasm_body_grammar.specs.Codes.{kind_params, param_count}
use Rattle.wasm_body_grammar.specs.Frames.{Plain}
use Rattle.wasm_body_grammar.specs.Rules.{Around, has_wide}
use Rattle.wasm_features.specs.declared.WasmFeatures.{WasmFeatures}
use Rattle.wasm_formats.specs.Stops.{TypeForm}
use Rattle.wasm_formats.specs.declared.fault.Space.{Space as FileSpace}
use Rattle.wasm_formats.specs.declared.fault.Space.TheVariants as spaces
use Rattle.wasm_grammar.specs.Exprs.{Known, global_is, is_address, offset_test}
use Rattle.wasm_grammar.specs.Modules.{Expr, Origin, Imported, Own, Body, Function, Table, Memory, Global, Tag, Mode, Passive, Declared, Active, Elements, Functions as Listed, Expressions, Element, Segment, Import, Export, Module}
use Rattle.wasm_grammar.specs.States.{count_of, form_test, is_function, types_of}
use Rattle.wasm_grammar.specs.Values.{in_order, must}
use Rattle.wasm_operators.specs.Items.{Space, Types, Functions, Tables, Memories, Tags, Globals, ElementSegments, DataSegments, Locals, Labels}
use Rattle.wasm_operators.specs.Names.{Renaming}
use Rattle.wasm_sections.specs.Exports.{has_name}
use Rattle.wasm_sections.specs.Segments.{wide_table, wide_memory}
use Rattle.wasm_module_rules.specs.Linked.{AllBelow, AreDistinct, AreListed, Each, GoesInto, IsBelow, IsFresh, IsFunctionType, IsLimited, IsLinked, IsThere}
use Rattle.wasm_ruled_modules.specs.Rules.{AreExpressed, AreExprs, AreNamed, AreOperators, GlobalsSee, HasBody, IsBody, IsInit, IsPageSize, IsPlaced, ItemsBelow, ItemsKnown, LocalsBelow, OriginRuled, Sees, around_bodies, bare_slot, is_imported, knows, knows_imported, memory_wide, own_init, table_wide}
use Rattle.wasm_part.specs.Part.{IsIn, Plan, declaring, number_in, part, picked, renumbered_body, renumbered_element, renumbered_export, renumbered_expr, renumbered_function, renumbered_global, renumbered_import, renumbered_items, renumbered_memory, renumbered_mode, renumbered_own, renumbered_placed, renumbered_segment, renumbered_table, renumbered_tag}
use Rattle.wasm_part.specs.Closed.{BodyIn, ExprIn, InitIn, IsClosed, IsPlan, ItemIn, ItemsIn, ModeIn, OwnIn, PartsAreRuled, Rise, StartIn, TypeIn}
use Rattle.wasm_part.proofs.Carried.{CarriesOver, IsThereIn, KnowsPart, expr_carried, offset_carried, operators_carried}
use Rattle.wasm_part.proofs.Picked.{each_at, each_joined, each_picked, picked_at, some_same}

-- ---- types

form_stays : (r : ℕ → ℕ) (form : Form) → is_function (renamed_form r form) ≡ is_function form
form_stays r (FunctionForm params results) = refl
form_stays r (StructForm fields) = refl
form_stays r (ArrayForm field) = refl

params_stay : (r : ℕ → ℕ) (form : Form) → length (params_of (renamed_form r form)) ≡ length (params_of form)
params_stay r (FunctionForm params results) = length-map params (renamed_value r)
params_stay r (StructForm fields) = refl
params_stay r (ArrayForm field) = refl

-- ---- exports

any_at : {A : Type 0} (t : A → Bool) (xs : List A) (i : ℕ) (x : A) → list_any t xs ≡ false → slice_get xs i ≡ Some x → t x ≡ false
any_at t [] i x h e = absurd cc
any_at t (y ∷ xs) zero x h e = ap t (sym (some_same y x e)) ∙ (or_parts (t y) (list_any t xs) h).0
  where
    or_parts : (b c : Bool) → (b || c) ≡ false → (b ≡ false) × (c ≡ false)
    or_parts true c e = absurd cc
    or_parts false c e = (refl, e)
any_at t (y ∷ xs) (suc i) x h e = any_at t xs i x (or_parts (t y) (list_any t xs) h).1 e
  where
    or_parts : (b c : Bool) → (b || c) ≡ false → (b ≡ false) × (c ≡ false)
    or_parts true c e = absurd cc
    or_parts false c e = (refl, e)

or_none : (b c : Bool) → b ≡ false → c ≡ false → (b || c) ≡ false
or_none b c e f = ap (λ (x : Bool). x || c) e ∙ f

or_left : (b c : Bool) → (b || c) ≡ false → b ≡ false
or_left true c e = absurd cc
or_left false c e = refl

or_right : (b c : Bool) → (b || c) ≡ false → c ≡ false
or_right true c e = absurd cc
or_right false c e = e

abbrev named : List ℕ → List (Option Export) → Bool
named name es = list_any (has_name name) es

named_joined : (name : List ℕ) (xs ys : List (Option Export)) → named name (xs ++ ys) ≡ (named name xs || named name ys)
named_joined name xs ys = list_any-append (has_name name) xs ys

-- an export has the name of none before it, the earlier ones among them
earlier_apart : (earlier es : List (Option Export)) (j : ℕ) (y : Export) → AreDistinct earlier es → slice_index_or es j None ≡ Some y → named y.name earlier ≡ false
earlier_apart earlier [] j y h e = absurd cc
earlier_apart earlier (x ∷ es) zero y h e = subst (IsFresh earlier) e h.0
earlier_apart earlier (x ∷ es) (suc j) y h e = or_left (named y.name earlier) (named y.name (x ∷ [])) (sym (named_joined y.name earlier (x ∷ [])) ∙ earlier_apart (earlier ++ x ∷ []) es j y h.1 e)

pairs_apart : (earlier es : List (Option Export)) (i j : ℕ) (y : Export) → AreDistinct earlier es → i < j → slice_index_or es j None ≡ Some y → has_name y.name (slice_index_or es i None) ≡ false
pairs_apart earlier [] i j y h lt e = absurd cc
pairs_apart earlier (x ∷ es) i zero y h lt e = absurd (omega (arith, lt))
pairs_apart earlier (x ∷ es) zero (suc j) y h lt e =
    or_left (has_name y.name x) false (or_right (named y.name earlier) (named y.name (x ∷ [])) (sym (named_joined y.name earlier (x ∷ [])) ∙ earlier_apart (earlier ++ x ∷ []) es j y h.1 e))
pairs_apart earlier (x ∷ es) (suc i) (suc j) y h lt e = pairs_apart (earlier ++ x ∷ []) es i j y h.1 (omega (arith, lt)) e

module _ (r : Renaming) (xs : List (Option Export)) (apart : AreDistinct [] xs) where
  name_stays : (name : List ℕ) (o : Option Export) → has_name name (option_map (renumbered_export r) o) ≡ has_name name o
  name_stays name None = refl
  name_stays name (Some e) = refl

  -- none before has the name of one that is still to be picked
  abbrev Apart : List (Option Export) → List ℕ → Type 0
  Apart earlier ns = (j n : ℕ) → slice_get ns j ≡ Some n → (y : Export) → slice_index_or xs n None ≡ Some y → named y.name earlier ≡ false

  fresh : (earlier : List (Option Export)) (o : Option Export) → ((y : Export) → o ≡ Some y → named y.name earlier ≡ false) → IsFresh earlier (option_map (renumbered_export r) o)
  fresh earlier None h = tt
  fresh earlier (Some y) h = h y refl

  later_apart : (earlier : List (Option Export)) (n : ℕ) (ns : List ℕ) → Rise (n ∷ ns) → Apart earlier (n ∷ ns) → Apart (earlier ++ option_map (renumbered_export r) (slice_index_or xs n None) ∷ []) ns
  later_apart earlier n ns rise h j k at y e =
      let o = option_map (renumbered_export r) (slice_index_or xs n None) in
      let lt : n < k = rise zero (suc j) n k (omega arith) refl at in
      named_joined y.name earlier (o ∷ [])
      ∙ or_none (named y.name earlier) (named y.name (o ∷ [])) (h (suc j) k at y e)
      (or_none (has_name y.name o) false (name_stays y.name (slice_index_or xs n None) ∙ pairs_apart [] xs n k y apart lt e) refl)

  pub distinct_picked : (earlier : List (Option Export)) (ns : List ℕ) → Rise ns → Apart earlier ns → AreDistinct earlier (picked (renumbered_export r) ns xs)
  distinct_picked earlier [] rise h = tt
  distinct_picked earlier (n ∷ ns) rise h = (
    fresh earlier (slice_index_or xs n None) (λ y e. h zero n refl y e),
    distinct_picked (earlier ++ option_map (renumbered_export r) (slice_index_or xs n None) ∷ []) ns (λ i j k l lt a b. rise (suc i) (suc j) k l (omega (arith, lt)) a b) (later_apart earlier n ns rise h),
  )

-- ---- globals see those before them

abbrev known_of : ℕ → ℕ → List (Option Global) → Known
known_of types functions globals = record { types = types; functions = functions; globals = globals }

see_from : (types functions : ℕ) (earlier gs : List (Option Global))
    → ((i : ℕ) (g : Global) (before : List (Option Global)) → slice_index_or gs i None ≡ Some g → length before ≡ length earlier + i → IsInit (known_of types functions before) (own_init g.origin))
    → GlobalsSee types functions earlier gs
see_from types functions earlier [] h = tt
see_from types functions earlier (g ∷ gs) h = (
  here g (λ x e. h zero x earlier e (omega arith)),
  see_from types functions (earlier ++ g ∷ []) gs (λ i x before e many. h (suc i) x before e (omega (arith, many, length-append earlier (g ∷ [])))),
)
  where
    here : (o : Option Global) → ((x : Global) → o ≡ Some x → IsInit (known_of types functions earlier) (own_init x.origin)) → Sees (known_of types functions earlier) o
    here None k = tt
    here (Some x) k = k x refl

sees_at : (types functions : ℕ) (earlier gs : List (Option Global)) (n : ℕ) (g : Global) → GlobalsSee types functions earlier gs → slice_index_or gs n None ≡ Some g
    → (before : List (Option Global)) × (length before ≡ length earlier + n) × IsInit (known_of types functions before) (own_init g.origin)
sees_at types functions earlier [] n g h e = absurd cc
sees_at types functions earlier (x ∷ gs) zero g h e = (earlier, omega arith, subst (Sees (known_of types functions earlier)) e h.0)
sees_at types functions earlier (x ∷ gs) (suc n) g h e =
    let later = sees_at types functions (earlier ++ x ∷ []) gs n g h.1 e in
    let many = later.1 in
    (later.0, omega (arith, many, length-append earlier (x ∷ [])), later.2)

-- what was picked stands for what it was picked from
picked_from : {A : Type 0} (f : A → A) (xs : List (Option A)) (ns : List ℕ) (i : ℕ) (y : A) → slice_index_or (picked f ns xs) i None ≡ Some y
    → (n : ℕ) × (x : A) × (slice_get ns i ≡ Some n) × (slice_index_or xs n None ≡ Some x) × (f x ≡ y)
picked_from f xs [] i y e = absurd cc
picked_from {A} f xs (n ∷ ns) zero y e = go (slice_index_or xs n None) refl e
  where
    go : (o : Option A) → slice_index_or xs n None ≡ o → option_map f o ≡ Some y → (k : ℕ) × (x : A) × (slice_get (n ∷ ns) zero ≡ Some k) × (slice_index_or xs k None ≡ Some x) × (f x ≡ y)
    go None at h = absurd cc
    go (Some x) at h = (n, x, refl, at, some_same (f x) y h)
picked_from f xs (n ∷ ns) (suc i) y e = picked_from f xs ns i y e

-- ---- the rules

module _ (features : WasmFeatures) (before counted : Bool) (p : Plan) (m : Module) where
  abbrev a : Around
  a = around_bodies features before m

  abbrev n : Module
  n = part p m

  abbrev b : Around
  b = around_bodies features counted n

  abbrev r : Renaming
  r = p.renames

  module _ (plan : IsPlan features counted p m) (closed : IsClosed p a b m) where
    -- ---- what is in the part is there

    type_there : (k : ℕ) → IsIn p Types k → r Types k < length (types_of n)
    type_there k h = let t = plan.types k h in slice_get_within (types_of n) (r Types k) (renamed_kind (r Types) t.kind) t.stands

    listed_there : (space : Space) (k : ℕ) (count : ℕ) → count ≡ length (p.listed space) → IsIn p space k → r space k < count
    listed_there space k count many h = subst (λ (c : ℕ). r space k < c) (sym many) (slice_get_within (p.listed space) (r space k) k h)

    functions_many : length n.functions ≡ length (p.listed Functions)
    functions_many = length-map (p.listed Functions) _

    tables_many : length n.tables ≡ length (p.listed Tables)
    tables_many = length-map (p.listed Tables) _

    memories_many : length n.memories ≡ length (p.listed Memories)
    memories_many = length-map (p.listed Memories) _

    tags_many : length n.tags ≡ length (p.listed Tags)
    tags_many = length-map (p.listed Tags) _

    globals_many : length n.globals ≡ length (p.listed Globals)
    globals_many = length-map (p.listed Globals) _

    segments_many : length n.segments ≡ length (p.listed DataSegments)
    segments_many = length-map (p.listed DataSegments) _

    element_there : (k : ℕ) → IsIn p ElementSegments k → r ElementSegments k < length n.elements
    element_there k h =
        let front = picked (renumbered_element r) (p.listed ElementSegments) m.elements in
        let added : List (Option Element) = map (λ ns. Some (declaring r ns)) p.declared in
        let lt : r ElementSegments k < length front = listed_there ElementSegments k (length front) (length-map (p.listed ElementSegments) _) h in
        omega (arith, lt, length-append front added)

    function_there : (k : ℕ) → IsIn p Functions k → r Functions k < length n.functions
    function_there k h = listed_there Functions k (length n.functions) functions_many h

    table_there : (k : ℕ) → IsIn p Tables k → r Tables k < length n.tables
    table_there k h = listed_there Tables k (length n.tables) tables_many h

    memory_there : (k : ℕ) → IsIn p Memories k → r Memories k < length n.memories
    memory_there k h = listed_there Memories k (length n.memories) memories_many h

    item_there : (space : FileSpace) (k : ℕ) → ItemIn p space k → k < count_of m space → number_in r space k < count_of n space
    item_there spaces.«Type» k h lt = type_there k h
    item_there spaces.Function k h lt = function_there k h
    item_there spaces.Table k h lt = table_there k h
    item_there spaces.Memory k h lt = memory_there k h
    item_there spaces.Tag k h lt = listed_there Tags k (length n.tags) tags_many h
    item_there spaces.Global k h lt = listed_there Globals k (length n.globals) globals_many h
    item_there spaces.Element k h lt = element_there k h
    item_there spaces.Data k h lt = listed_there DataSegments k (length n.segments) segments_many h
    item_there spaces.Local k h lt = lt
    item_there spaces.Label k h lt = lt

    bare_many : length b.filled.functions ≡ length (p.listed Functions)
    bare_many = length-map n.functions bare_slot ∙ functions_many

    there_in : (space : Space) (k : ℕ) → IsIn p space k → IsThereIn b space (r space k)
    there_in Types k h = type_there k h
    there_in Functions k h = listed_there Functions k (length b.filled.functions) bare_many h
    there_in Tables k h = table_there k h
    there_in Memories k h = memory_there k h
    there_in Tags k h = listed_there Tags k (length n.tags) tags_many h
    there_in Globals k h = listed_there Globals k (length n.globals) globals_many h
    there_in ElementSegments k h = element_there k h
    there_in DataSegments k h = listed_there DataSegments k (length n.segments) segments_many h
    there_in Locals k h = tt
    there_in Labels k h = tt

    -- ---- function types

    form_there : (kind : Kind) (o : Option Kind) → o ≡ Some kind → form_test o ≡ None → form_test (Some (renamed_kind (r Types) kind)) ≡ None
    form_there kind None is e = absurd cc
    form_there kind (Some other) is e = ap (λ (f : Bool). must f TypeForm) (form_stays (r Types) kind.form) ∙ ap form_test (sym is) ∙ e

    typed_there : (k : ℕ) → IsIn p Types k → IsFunctionType m k → IsFunctionType n (r Types k)
    typed_there k h is = let t = plan.types k h in ap form_test t.stands ∙ form_there t.kind (slice_get (types_of m) k) t.is is

    params_there : (k : ℕ) → IsIn p Types k → param_count b.filled (r Types k) ≡ param_count a.filled k
    params_there k h = let t = plan.types k h in ap kind_params t.stands ∙ params_stay (r Types) t.kind.form ∙ sym (ap kind_params t.is)

    -- ---- linked

    goes : (space : Space) (count : ℕ) → ((k : ℕ) → IsIn p space k → r space k < count) → (mode : Mode) → ModeIn p space mode → GoesInto count (renumbered_mode r space mode)
    goes space count there (Active k offset) h = there k h.0
    goes space count there Passive h = tt
    goes space count there Declared h = tt

    functions_there : (ns : List ℕ) → AllByRecursion (λ k. IsIn p Functions k) ns → AllBelow (length n.functions) (map (r Functions) ns)
    functions_there [] h = tt
    functions_there (k ∷ ns) h = (function_there k h.0, functions_there ns h.1)

    listed : (items : Elements) → ItemsIn p items → AreListed (length n.functions) (renumbered_items r items)
    listed (Listed ns) h = functions_there ns h
    listed (Expressions ty es) h = tt

    started : (o : Option ℕ) → StartIn p o → IsBelow (length n.functions) (option_map (r Functions) o)
    started None h = tt
    started (Some k) h = function_there k h

    -- of the segments that are kept, and of those that are added
    each_element : (Q : Element → Type 0) → ((i k : ℕ) → slice_get (p.listed ElementSegments) i ≡ Some k → (e : Element) → slice_index_or m.elements k None ≡ Some e → Q (renumbered_element r e))
        → ((ns : List ℕ) → AllByRecursion (λ k. IsIn p Functions k) ns → Q (declaring r ns)) → Each Q n.elements
    each_element Q one added =
        each_joined Q (picked (renumbered_element r) (p.listed ElementSegments) m.elements) (map (λ ns. Some (declaring r ns)) p.declared)
        (each_picked Q (renumbered_element r) m.elements (p.listed ElementSegments) one) (go p.declared closed.declared)
      where
        go : (ds : List (List ℕ)) → AllByRecursion (AllByRecursion (λ k. IsIn p Functions k)) ds → Each Q (map (λ ns. Some (declaring r ns)) ds)
        go [] h = tt
        go (ns ∷ ds) h = (added ns h.0, go ds h.1)

    linked : IsLinked m → IsLinked n
    linked h = record {
      functions_typed = each_picked (λ (f : Function). IsFunctionType n f.ty) (renumbered_function r p.brings) m.functions (p.listed Functions)
          (λ i k at f e. typed_there f.ty (closed.functions i k at f e).0 (each_at (λ (f : Function). IsFunctionType m f.ty) m.functions k f h.functions_typed e));
      tags_typed = each_picked (λ (t : Tag). IsFunctionType n t.ty) (renumbered_tag r p.brings) m.tags (p.listed Tags)
          (λ i k at t e. typed_there t.ty (closed.tags i k at t e) (each_at (λ (t : Tag). IsFunctionType m t.ty) m.tags k t h.tags_typed e));
      tables_limited = each_picked (λ (t : Table). in_order t.initial t.maximum ≡ true) (renumbered_table r p.brings) m.tables (p.listed Tables)
          (λ i k at t e. each_at (λ (t : Table). in_order t.initial t.maximum ≡ true) m.tables k t h.tables_limited e);
      memories_limited = each_picked IsLimited (renumbered_memory r p.brings) m.memories (p.listed Memories) (λ i k at x e. each_at IsLimited m.memories k x h.memories_limited e);
      imports_there = each_picked (λ (x : Import). IsThere n x.item) (renumbered_import r) m.imports p.imports
          (λ i k at x e. item_there x.item.space x.item.number (closed.imports i k at x e) (each_at (λ (x : Import). IsThere m x.item) m.imports k x h.imports_there e));
      exports_there = each_picked (λ (x : Export). IsThere n x.item) (renumbered_export r) m.exports p.exports
          (λ i k at x e. item_there x.item.space x.item.number (closed.exports i k at x e) (each_at (λ (x : Export). IsThere m x.item) m.exports k x h.exports_there e));
      exports_distinct = distinct_picked r m.exports h.exports_distinct [] p.exports plan.exports (λ j k at y e. refl);
      start_there = started m.start closed.start;
      elements_there = each_element (λ (e : Element). GoesInto (length n.tables) e.mode) (λ i k at e is. goes Tables (length n.tables) table_there e.mode (closed.elements i k at e is).0) (λ ns h. tt);
      elements_listed = each_element (λ (e : Element). AreListed (length n.functions) e.items) (λ i k at e is. listed e.items (closed.elements i k at e is).1) functions_there;
      segments_there = each_picked (λ (x : Segment). GoesInto (length n.memories) x.mode) (renumbered_segment r) m.segments (p.listed DataSegments)
          (λ i k at x e. goes Memories (length n.memories) memory_there x.mode (closed.segments i k at x e));
    }

    -- ---- named

    heap_below : (ty : HeapType) → TypeIn p (heap_name ty) → HeapBelow (length (types_of n)) (renamed_heap (r Types) ty)
    heap_below (Abstract ty) h = tt
    heap_below (Shared ty) h = tt
    heap_below (Concrete k) h = type_there k h
    heap_below (Exact k) h = type_there k h

    value_below : (ty : ValType) → TypeIn p (value_name ty) → ValueBelow (length (types_of n)) (renamed_value (r Types) ty)
    value_below I32 h = tt
    value_below I64 h = tt
    value_below F32 h = tt
    value_below F64 h = tt
    value_below V128 h = tt
    value_below (Ref ty) h = heap_below ty.heap_type h

    items_below : (items : Elements) → ItemsIn p items → ItemsBelow (length (types_of n)) (renumbered_items r items)
    items_below (Listed ns) h = tt
    items_below (Expressions ty es) h = heap_below ty.heap_type h.0

    are_named : AreNamed m → AreNamed n
    are_named h = record {
      tables = each_picked (λ (t : Table). RefBelow (length (types_of n)) t.element) (renumbered_table r p.brings) m.tables (p.listed Tables)
          (λ i k at t e. heap_below t.element.heap_type (closed.tables i k at t e).0);
      globals = each_picked (λ (g : Global). ValueBelow (length (types_of n)) g.ty) (renumbered_global r p.brings) m.globals (p.listed Globals)
          (λ i k at g e. value_below g.ty (closed.globals i k at g e).0);
      elements = each_element (λ (e : Element). ItemsBelow (length (types_of n)) e.items) (λ i k at e is. items_below e.items (closed.elements i k at e is).1) (λ ns h. tt);
      pages = each_picked (λ (x : Memory). IsPageSize x.page_size_log2) (renumbered_memory r p.brings) m.memories (p.listed Memories)
          (λ i k at x e. each_at (λ (x : Memory). IsPageSize x.page_size_log2) m.memories k x h.pages e);
    }

    -- ---- constant expressions

    abbrev known : List (Option Global) → Known
    known globals = known_of (length (types_of m)) (length m.functions) globals

    abbrev known_there : List (Option Global) → Known
    known_there globals = known_of (length (types_of n)) (length n.functions) globals

    knows_part : (globals others : List (Option Global)) → ((k : ℕ) → IsIn p Globals k → k < length globals → r Globals k < length others) → KnowsPart p (known globals) (known_there others)
    knows_part globals others h = record { types = type_there; functions = function_there; globals = h }

    knows_all : KnowsPart p (knows m) (knows n)
    knows_all = knows_part m.globals n.globals (λ k h lt. listed_there Globals k (length n.globals) globals_many h)

    init_there : (k l : Known) → KnowsPart p k l → (o : Option Expr) → InitIn p o → IsInit k o → IsInit l (option_map (renumbered_expr r) o)
    init_there k l knows None h is = tt
    init_there k l knows (Some e) h is = expr_carried p k l e knows h is

    own_there : (k l : Known) → KnowsPart p k l → (o : Origin Expr) → OwnIn p o → IsInit k (own_init o) → IsInit l (own_init (renumbered_own r p.brings (renumbered_expr r) o))
    own_there k l knows (Imported i) h is = tt
    own_there k l knows (Own e) h is = expr_carried p k l e knows h is

    exprs_there : (es : List Expr) → AllByRecursion (ExprIn p) es → AreExprs (knows m) es → AreExprs (knows n) (map (renumbered_expr r) es)
    exprs_there [] h is = tt
    exprs_there (e ∷ es) h is = (expr_carried p (knows m) (knows n) e knows_all h.0 is.0, exprs_there es h.1 is.1)

    -- globals keep their order
    in_order_there : (k l : ℕ) → IsIn p Globals k → IsIn p Globals l → k < l → r Globals k < r Globals l
    in_order_there k l hk hl lt = elim (cases_lt (r Globals k) (r Globals l)) as (λ _. r Globals k < r Globals l) [
      | inl less ↦ less
      | inr least ↦ absurd (go (r Globals k) (r Globals l) hk hl lt least)
    ]
      where
        go : (i j : ℕ) → slice_get (p.listed Globals) i ≡ Some k → slice_get (p.listed Globals) j ≡ Some l → k < l → j ≤ i → ⊥
        go i j hk hl lt le = elim (cases_lt j i) as (λ _. ⊥) [
          | inl less ↦ let other : l < k = plan.globals j i l k less hl hk in omega (arith, lt, other)
          | inr least ↦
              let same : i ≡ j = omega (arith, le, least) in
              let one : k ≡ l = some_same k l (sym hk ∙ ap (slice_get (p.listed Globals)) same ∙ hl) in omega (arith, lt, one)
        ]

    see_there : GlobalsSee (length (types_of m)) (length m.functions) [] m.globals → GlobalsSee (length (types_of n)) (length n.functions) [] n.globals
    see_there h = see_from (length (types_of n)) (length n.functions) [] n.globals (λ i g others at many.
        let from = picked_from (renumbered_global r p.brings) m.globals (p.listed Globals) i g at in
        let source = sees_at (length (types_of m)) (length m.functions) [] m.globals from.0 from.1 h from.3 in
        let here : r Globals from.0 ≡ i = plan.only Globals i from.0 tt from.2 in
        let is_in : IsIn p Globals from.0 = ap (slice_get (p.listed Globals)) here ∙ from.2 in
        let count = source.1 in
        let knows : KnowsPart p (known source.0) (known_there others) = knows_part source.0 others (λ k hk lt. let less : r Globals k < r Globals from.0 = in_order_there k from.0 hk is_in (omega (arith, lt, count)) in omega (arith, less, here, many)) in
        subst (λ (g : Global). IsInit (known_there others) (own_init g.origin)) from.4
        (own_there (known source.0) (known_there others) knows from.1.origin (closed.globals i from.0 from.2 from.1 from.3).1 source.2))

    -- ---- offsets

    address_stays : (wide : Bool) (ty : ValType) → is_address wide (renamed_value (r Types) ty) ≡ is_address wide ty
    address_stays true I32 = refl
    address_stays true I64 = refl
    address_stays true F32 = refl
    address_stays true F64 = refl
    address_stays true V128 = refl
    address_stays true (Ref ty) = refl
    address_stays false I32 = refl
    address_stays false I64 = refl
    address_stays false F32 = refl
    address_stays false F64 = refl
    address_stays false V128 = refl
    address_stays false (Ref ty) = refl

    global_stays : (wide : Bool) (g : Option Global) → global_is wide (option_map (renumbered_global r p.brings) g) ≡ global_is wide g
    global_stays wide None = refl
    global_stays wide (Some g) = address_stays wide g.ty

    table_stays : (t : Option Table) → wide_table (option_map (renumbered_table r p.brings) t) ≡ wide_table t
    table_stays None = refl
    table_stays (Some t) = refl

    memory_stays : (x : Option Memory) → wide_memory (option_map (renumbered_memory r p.brings) x) ≡ wide_memory x
    memory_stays None = refl
    memory_stays (Some x) = refl

    has_stays : (x : Option Memory) → has_wide (option_map (renumbered_memory r p.brings) x) ≡ has_wide x
    has_stays None = refl
    has_stays (Some x) = refl

    global_at : (wide : Bool) (k : ℕ) → IsIn p Globals k → global_is wide (slice_index_or m.globals k None) ≡ true → global_is wide (slice_index_or n.globals (r Globals k) None) ≡ true
    global_at wide k h is = ap (global_is wide) (picked_at (renumbered_global r p.brings) m.globals (p.listed Globals) (r Globals k) k h) ∙ global_stays wide (slice_index_or m.globals k None) ∙ is

    tables_wide : (k : ℕ) → IsIn p Tables k → table_wide n.tables (r Tables k) ≡ table_wide m.tables k
    tables_wide k h = ap wide_table (picked_at (renumbered_table r p.brings) m.tables (p.listed Tables) (r Tables k) k h) ∙ table_stays (slice_index_or m.tables k None)

    memories_wide : (k : ℕ) → IsIn p Memories k → memory_wide n.memories (r Memories k) ≡ memory_wide m.memories k
    memories_wide k h = ap wide_memory (picked_at (renumbered_memory r p.brings) m.memories (p.listed Memories) (r Memories k) k h) ∙ memory_stays (slice_index_or m.memories k None)

    placed_there : (space : Space) (wide there : ℕ → Bool) → ((k : ℕ) → IsIn p space k → there (r space k) ≡ wide k) → (mode : Mode) → ModeIn p space mode → IsPlaced wide (knows m) mode
        → IsPlaced there (knows n) (renumbered_mode r space mode)
    placed_there space wide there same (Active k offset) h is = (
      expr_carried p (knows m) (knows n) offset knows_all h.1 is.0,
      subst (λ (w : Bool). offset_test w (knows n) (renumbered_expr r offset) ≡ None) (sym (same k h.0)) (offset_carried p (wide k) (knows m) (knows n) (global_at (wide k)) offset h.1 is.1),
    )
    placed_there space wide there same Passive h is = tt
    placed_there space wide there same Declared h is = tt

    items_there : (items : Elements) → ItemsIn p items → ItemsKnown (knows m) items → ItemsKnown (knows n) (renumbered_items r items)
    items_there (Listed ns) h is = tt
    items_there (Expressions ty es) h is = exprs_there es h.1 is

    expressed : AreExpressed m → AreExpressed n
    expressed h = record {
      tables = each_picked (λ (t : Table). IsInit (knows_imported n) t.init) (renumbered_table r p.brings) m.tables (p.listed Tables)
          (λ i k at t e. init_there (knows_imported m) (knows_imported n) (knows_part (filter is_imported m.globals) (filter is_imported n.globals) plan.imported) t.init (closed.tables i k at t e).1
          (each_at (λ (t : Table). IsInit (knows_imported m) t.init) m.tables k t h.tables e));
      globals = see_there h.globals;
      offsets = each_element (λ (e : Element). IsPlaced (table_wide n.tables) (knows n) e.mode)
          (λ i k at e is. placed_there Tables (table_wide m.tables) (table_wide n.tables) tables_wide e.mode (closed.elements i k at e is).0
          (each_at (λ (e : Element). IsPlaced (table_wide m.tables) (knows m) e.mode) m.elements k e h.offsets is)) (λ ns h. tt);
      items = each_element (λ (e : Element). ItemsKnown (knows n) e.items)
          (λ i k at e is. items_there e.items (closed.elements i k at e is).1 (each_at (λ (e : Element). ItemsKnown (knows m) e.items) m.elements k e h.items is)) (λ ns h. tt);
      segments = each_picked (λ (x : Segment). IsPlaced (memory_wide n.memories) (knows n) x.mode) (renumbered_segment r) m.segments (p.listed DataSegments)
          (λ i k at x e. placed_there Memories (memory_wide m.memories) (memory_wide n.memories) memories_wide x.mode (closed.segments i k at x e)
          (each_at (λ (x : Segment). IsPlaced (memory_wide m.memories) (knows m) x.mode) m.segments k x h.segments e));
    }

    -- ---- bodies

    carries : CarriesOver p a b
    carries = record {
      labels = plan.labels;
      locals = plan.locals;
      there = there_in;
      wide = λ k h is. ap has_wide (picked_at (renumbered_memory r p.brings) m.memories (p.listed Memories) (r Memories k) k h) ∙ has_stays (slice_index_or m.memories k None) ∙ is;
    }

    locals_there : (tys : List ValType) → AllByRecursion (λ (ty : ValType). TypeIn p (value_name ty)) tys → LocalsBelow (length (types_of n)) (map (renamed_value (r Types)) tys)
    locals_there [] h = tt
    locals_there (ty ∷ tys) h = (value_below ty h.0, locals_there tys h.1)

    body_there : (params : ℕ) (x : Body) → BodyIn p a b (Own x) → IsBody a params x → IsBody b params (renumbered_body r x)
    body_there params x h is =
        let many = length-map x.locals (renamed_value (r Types)) in record {
          counted = subst (λ (c : ℕ). (c ≡ 0) ⊎ (params + c ≤ most_locals)) (sym many) is.counted;
          named = locals_there x.locals h.0;
          operators = subst (λ (c : ℕ). AreOperators b (params + c) (Plain ∷ []) (map (renumbered_placed r) x.operators)) (sym many)
              (operators_carried p a b (params + length x.locals) carries (Plain ∷ []) x.operators h.1 is.operators);
        }

    origin_there : (ty : ℕ) → IsIn p Types ty → (o : Origin Body) → BodyIn p a b o → OriginRuled a (param_count a.filled ty) o
        → OriginRuled b (param_count b.filled (r Types ty)) (renumbered_own r p.brings (renumbered_body r) o)
    origin_there ty is (Imported i) h ruled = tt
    origin_there ty is (Own x) h ruled = subst (λ (params : ℕ). IsBody b params (renumbered_body r x)) (sym (params_there ty is)) (body_there (param_count a.filled ty) x h ruled)

    bodies : Each (λ (f : Function). HasBody a f) m.functions → Each (λ (f : Function). HasBody b f) n.functions
    bodies h = each_picked (λ (f : Function). HasBody b f) (renumbered_function r p.brings) m.functions (p.listed Functions)
        (λ i k at f e. let c = closed.functions i k at f e in origin_there f.ty c.0 f.origin c.1 (each_at (λ (f : Function). HasBody a f) m.functions k f h e))

pub parts_ruled : PartsAreRuled
parts_ruled features before counted p m plan closed h = record {
  linked = linked features before counted p m plan closed h.linked;
  groups = plan.groups;
  named = are_named features before counted p m plan closed h.named;
  expressed = expressed features before counted p m plan closed h.expressed;
  bodies = bodies features before counted p m plan closed h.bodies;
}
