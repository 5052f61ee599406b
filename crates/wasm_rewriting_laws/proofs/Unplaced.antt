-- Lemmas: a plan of a module is one of the module without its places.
use Rattle.std.specs.Prelude.{ℕ, ◌≡◌, ◌<◌, ◌⊎◌, Bool, true, List, [], ◌∷◌, ◌++◌, map, Contains, Option, Some, None, IsSome, slice_get, slice_index_or, refl}
use Rattle.std.specs.List.{AllByRecursion, flat_map}
use Rattle.std.proofs.Common.{ap, sym, ◌∙◌, subst, inl, inr}
use Rattle.walrus_forms.specs.declared.value.ValType.{ValType}
use Rattle.walrus_types.specs.Table.{Table}
use Rattle.walrus_types.proofs.Places.{at_map, contains_has, has_contains, map_at}
use Rattle.wasm_features.specs.declared.WasmFeatures.{WasmFeatures}
use Rattle.wasm_formats.specs.declared.fault.Space.{Space as FileSpace}
use Rattle.wasm_formats.specs.declared.fault.Space.TheVariants as spaces
use Rattle.wasm_operators.specs.declared.block_type.BlockType.{BlockType}
use Rattle.wasm_operators.specs.Items.{Space, Types, Functions, Tables, Memories, Tags, Globals, ElementSegments, DataSegments, Locals, Labels}
use Rattle.wasm_operators.specs.Names.{block_names, operator_names}
use Rattle.wasm_operators.specs.Operators.{flow_of}
use Rattle.wasm_grammar.specs.Modules.{Body, Function, Imported, Item, Module, Origin, Own, Placed}
use Rattle.wasm_grammar.specs.States.{types_of}
use Rattle.wasm_body_grammar.specs.Rules.{Around, space_of}
use Rattle.wasm_import_links.specs.Links.{AreLinked, brought, function_brought, origin_import, slot_import}
use Rattle.wasm_references.specs.Kept.{IsReached, Kept, refers, root}
use Rattle.wasm_references.specs.References.{Numbered, RefersIn, body_items, function_items, item, named_by, names_items}
use Rattle.wasm_references.specs.Roots.{Root, declares, exports, fills_any, fills_import, is_active, is_pushed, starts}
use Rattle.wasm_ruled_modules.specs.Rules.{around_bodies}
use Rattle.wasm_module_bytes.specs.Bytes.{origin_unplaced, slot_unplaced, unplaced, without_places}
use Rattle.wasm_part.specs.Part.{Plan}
use Rattle.wasm_part.specs.Kept.{AreFilled, HasKept, LocalsNamed}
use Rattle.wasm_part.specs.Order.{BodyRefers, HasDeclared, Holds, InOrder, OwnBefore, Wants, body, exported, import_of, init, segment, size_of, slot_size}
use Rattle.wasm_part.specs.Seen.{kind_params, parts_in, parts_with, seen_as, slot_locals, slot_parts}
use Rattle.wasm_rewriting_laws.specs.Told.{IsPlanOf, NamesAll}
use Rattle.wasm_rewriting_laws.proofs.Placeless.{around_stays, at_slot}
use Rattle.wasm_rewriting_laws.proofs.Texts.{size_stays}

-- ---- what functions name

parts_stay : (a : Around) (tys : List BlockType) (ops : List Placed) → parts_in a tys (map unplaced ops) ≡ parts_in a tys ops
parts_stay a tys [] = refl
parts_stay a tys (o ∷ ops) = ap (λ (later : List BlockType → List BlockType). parts_with a (flow_of o.op.code) o.op.items tys later) (λ i tys. parts_stay a tys ops i)

operators_name : (locals : ℕ → Option ValType) (ops : List Placed)
    → flat_map (λ (o : Placed). names_items locals (operator_names o.op)) (map unplaced ops) ≡ flat_map (λ (o : Placed). names_items locals (operator_names o.op)) ops
operators_name locals [] = refl
operators_name locals (o ∷ ops) = ap (λ (l : List Item). names_items locals (operator_names o.op) ++ l) (operators_name locals ops)

body_names : (locals : ℕ → Option ValType) (a : Around) (ops : List Placed) → body_items locals (map unplaced ops) (parts_in a [] (map unplaced ops)) ≡ body_items locals ops (parts_in a [] ops)
body_names locals a ops =
    let own = operators_name locals ops in
    let parts = parts_stay a [] ops in
    λ i. own i ++ flat_map (λ (ty : BlockType). names_items locals (block_names ty)) (parts i)

-- ---- sizes

pub slot_sized : (o : Option Function) → slot_size (slot_unplaced o) ≡ slot_size o
slot_sized None = refl
slot_sized (Some f) = by f.origin
  where
    by : (o : Origin Body) → slot_size (Some (record { ty = f.ty; origin = origin_unplaced o })) ≡ slot_size (Some (record { ty = f.ty; origin = o }))
    by (Imported i) = refl
    by (Own x) = size_stays x.operators

-- ---- the module without places

module _ (features : WasmFeatures) (m : Module) where
  abbrev n : Module
  n = without_places m

  abbrev v : Numbered
  v = seen_as features m

  abbrev w : Numbered
  w = seen_as features n

  -- what the function of a slot names
  abbrev slot_items : Module → Option Function → List Item
  slot_items m o = named_by (function_items (λ k. slice_get (slot_locals m o) k) (slot_parts (around_bodies features true m) o)) o

  origin_names : (ty : ℕ) (o : Origin Body) → slot_items n (Some (record { ty = ty; origin = origin_unplaced o })) ≡ slot_items m (Some (record { ty = ty; origin = o }))
  origin_names ty (Imported i) = refl
  origin_names ty (Own x) =
      let locals : ℕ → Option ValType = λ k. slice_get (kind_params (slice_get (types_of m) ty) ++ x.locals) k in
      ap (λ (a : Around). item spaces.«Type» ty ∷ body_items locals (map unplaced x.operators) (parts_in a [] (map unplaced x.operators))) (around_stays features true m)
      ∙ ap (λ (l : List Item). item spaces.«Type» ty ∷ l) (body_names locals (around_bodies features true m) x.operators)

  slot_names : (o : Option Function) → slot_items n (slot_unplaced o) ≡ slot_items m o
  slot_names None = refl
  slot_names (Some f) = origin_names f.ty f.origin

  names_stay : (k : ℕ) → slot_items n (slice_index_or n.functions k None) ≡ slot_items m (slice_index_or m.functions k None)
  names_stay k = ap (slot_items n) (at_slot m.functions k) ∙ slot_names (slice_index_or m.functions k None)

  -- ---- references

  refers_to : (space : FileSpace) (k : ℕ) (y : Item) → RefersIn v space k y → RefersIn w space k y
  refers_to spaces.«Type» k y h = (h.0, h.1, record { listed = h.2.listed; place = h.2.place; number = h.2.number; known = h.2.known }, h.3)
  refers_to spaces.Function k y h = subst (λ (l : List Item). Contains l y) (sym (names_stay k)) h
  refers_to spaces.Table k y h = h
  refers_to spaces.Memory k y h = h
  refers_to spaces.Global k y h = h
  refers_to spaces.Tag k y h = h
  refers_to spaces.Element k y h = h
  refers_to spaces.Data k y h = h
  refers_to spaces.Local k y h = h
  refers_to spaces.Label k y h = h

  refers_from : (space : FileSpace) (k : ℕ) (y : Item) → RefersIn w space k y → RefersIn v space k y
  refers_from spaces.«Type» k y h = (h.0, h.1, record { listed = h.2.listed; place = h.2.place; number = h.2.number; known = h.2.known }, h.3)
  refers_from spaces.Function k y h = subst (λ (l : List Item). Contains l y) (names_stay k) h
  refers_from spaces.Table k y h = h
  refers_from spaces.Memory k y h = h
  refers_from spaces.Global k y h = h
  refers_from spaces.Tag k y h = h
  refers_from spaces.Element k y h = h
  refers_from spaces.Data k y h = h
  refers_from spaces.Local k y h = h
  refers_from spaces.Label k y h = h

  module _ (keep : Bool) (pushed : List Item) where
    root_to : {x : Item} → Root m keep pushed x → Root n keep pushed x
    root_to (exports e export at) = exports e export at
    root_to (starts f at) = starts f at
    root_to (is_active d memory offset x at mode) = is_active d memory offset x at mode
    root_to (fills_import e t offset x table at mode is imported) = fills_import e t offset x table at mode is imported
    root_to (fills_any e t offset x all at mode) = fills_any e t offset x all at mode
    root_to (declares e x at mode) = declares e x at mode
    root_to (is_pushed x c) = is_pushed x c

    root_from : {x : Item} → Root n keep pushed x → Root m keep pushed x
    root_from (exports e export at) = exports e export at
    root_from (starts f at) = starts f at
    root_from (is_active d memory offset x at mode) = is_active d memory offset x at mode
    root_from (fills_import e t offset x table at mode is imported) = fills_import e t offset x table at mode is imported
    root_from (fills_any e t offset x all at mode) = fills_any e t offset x all at mode
    root_from (declares e x at mode) = declares e x at mode
    root_from (is_pushed x c) = is_pushed x c

    reached_to : {x : Item} → IsReached v keep pushed x → IsReached w keep pushed x
    reached_to (root r) = root (root_to r)
    reached_to (refers {x} {y} h c) = refers (reached_to h) (refers_to x.space x.number y c)

    reached_from : {x : Item} → IsReached w keep pushed x → IsReached v keep pushed x
    reached_from (root r) = root (root_from r)
    reached_from (refers {x} {y} h c) = refers (reached_from h) (refers_from x.space x.number y c)

    kept_to : (x : Item) → Kept v keep pushed x → Kept w keep pushed x
    kept_to x (inl h) = inl (reached_to h)
    kept_to x (inr s) =
        inr (record {
          memory = s.memory;
          is = s.is;
          first = record { there = s.first.there; first = s.first.first };
          segment = s.segment;
          has_data = reached_to s.has_data;
          no_memory = λ other h. s.no_memory other (reached_from h);
        })

    kept_from : (x : Item) → Kept w keep pushed x → Kept v keep pushed x
    kept_from x (inl h) = inl (reached_from h)
    kept_from x (inr s) =
        inr (record {
          memory = s.memory;
          is = s.is;
          first = record { there = s.first.there; first = s.first.first };
          segment = s.segment;
          has_data = reached_from s.has_data;
          no_memory = λ other h. s.no_memory other (reached_to h);
        })

    -- ---- what is kept is listed

    filled_to : (ns : List ℕ) → AreFilled ns m.functions → AreFilled ns n.functions
    filled_to [] h = tt
    filled_to (k ∷ ns) h = (subst (λ (o : Option Function). IsSome o) (sym (at_slot m.functions k)) (some (slice_index_or m.functions k None) h.0), filled_to ns h.1)
      where
        some : (o : Option Function) → IsSome o → IsSome (slot_unplaced o)
        some None h = h
        some (Some f) h = refl

    each_to : (ns : List ℕ) → AllByRecursion (λ k. Kept v keep pushed (item spaces.Function k)) ns → AllByRecursion (λ k. Kept w keep pushed (item spaces.Function k)) ns
    each_to [] h = tt
    each_to (k ∷ ns) h = (kept_to (item spaces.Function k) h.0, each_to ns h.1)

    declared_to : (nss : List (List ℕ)) → AllByRecursion (AllByRecursion (λ k. Kept v keep pushed (item spaces.Function k))) nss
        → AllByRecursion (AllByRecursion (λ k. Kept w keep pushed (item spaces.Function k))) nss
    declared_to [] h = tt
    declared_to (ns ∷ nss) h = (each_to ns h.0, declared_to nss h.1)

    has_kept : (p : Plan) → HasKept v keep pushed p → HasKept w keep pushed p
    has_kept p h = record {
      has = λ space k shared c. h.has space k shared (kept_from (item (space_of space) k) c);
      only = λ space i k shared at. kept_to (item (space_of space) k) (h.only space i k shared at);
      imports = λ i k at x e. kept_to x.item (h.imports i k at x e);
      import = λ k x e c. h.import k x e (kept_from x.item c);
      exports = h.exports;
      there = record {
        imports = h.there.imports;
        functions = filled_to (p.listed Functions) h.there.functions;
        tables = h.there.tables;
        memories = h.there.memories;
        tags = h.there.tags;
        globals = h.there.globals;
        exports = h.there.exports;
        elements = h.there.elements;
        segments = h.there.segments;
      };
      declared = declared_to p.declared h.declared;
    }

  -- ---- order

  origin_brought : (o : Origin Body) → origin_import (origin_unplaced o) ≡ origin_import o
  origin_brought (Imported i) = refl
  origin_brought (Own x) = refl

  all_brought : (fs : List (Option Function)) → map (slot_import function_brought) (map slot_unplaced fs) ≡ map (slot_import function_brought) fs
  all_brought [] = refl
  all_brought (None ∷ fs) = ap (λ (l : List (Option ℕ)). None ∷ l) (all_brought fs)
  all_brought (Some f ∷ fs) = let one = origin_brought f.origin in let rest = all_brought fs in λ i. one i ∷ rest i

  brought_stays : (space : FileSpace) → brought n space ≡ brought m space
  brought_stays spaces.Function = all_brought m.functions
  brought_stays spaces.Table = refl
  brought_stays spaces.Memory = refl
  brought_stays spaces.Tag = refl
  brought_stays spaces.Global = refl
  brought_stays spaces.«Type» = refl
  brought_stays spaces.Element = refl
  brought_stays spaces.Data = refl
  brought_stays spaces.Local = refl
  brought_stays spaces.Label = refl

  sized : (k : ℕ) → size_of n k ≡ size_of m k
  sized k = ap slot_size (at_slot m.functions k) ∙ slot_sized (slice_index_or m.functions k None)

  own_before : (space : Space) (j k : ℕ) → OwnBefore m space j k → OwnBefore n space j k
  own_before Functions j k h =
      let a = sized j in
      let b = sized k in
      subst (λ (s : ℕ). (size_of n k < s) ⊎ ((s ≡ size_of n k) × (j < k))) (sym a) (subst (λ (t : ℕ). (t < size_of m j) ⊎ ((size_of m j ≡ t) × (j < k))) (sym b) h)
  own_before Types j k h = h
  own_before Tables j k h = h
  own_before Memories j k h = h
  own_before Tags j k h = h
  own_before Globals j k h = h
  own_before ElementSegments j k h = h
  own_before DataSegments j k h = h
  own_before Locals j k h = h
  own_before Labels j k h = h

  own_to : (space : Space) (ns : List ℕ) → AllByRecursion (λ k. import_of m space k ≡ None) ns → AllByRecursion (λ k. import_of n space k ≡ None) ns
  own_to space [] h = tt
  own_to space (k ∷ ns) h = (ap (λ (l : List (Option ℕ)). slice_index_or l k None) (brought_stays (space_of space)) ∙ h.0, own_to space ns h.1)

  in_order : (p : Plan) → InOrder m p → InOrder n p
  in_order p h = record {
    imports = h.imports;
    brings = h.brings;
    own = h.own;
    listed = h.listed;
    are_own = λ space l. own_to space (h.own space) (h.are_own space l);
    ordered = λ space l i j k x less at_i at_j. own_before space k x (h.ordered space l i j k x less at_i at_j);
  }

  -- ---- declared functions

  ops_refer : (k : ℕ) (ops : List Placed) (o : Placed) → Contains ops o → Contains (map unplaced ops) (unplaced o)
  ops_refer k ops o c = has_contains (map unplaced ops) (unplaced o) (let h = contains_has ops o c in (h.0, at_map unplaced ops h.0 o h.1))

  refers_unplaced : (k : ℕ) (o : Origin Body) → BodyRefers k o → BodyRefers k (origin_unplaced o)
  refers_unplaced k (Imported i) h = h
  refers_unplaced k (Own x) h = (unplaced h.0, ops_refer k x.operators h.0 h.1, h.2)

  refers_placed : (k : ℕ) (o : Origin Body) → BodyRefers k (origin_unplaced o) → BodyRefers k o
  refers_placed k (Imported i) h = h
  refers_placed k (Own x) h =
      let has = contains_has (map unplaced x.operators) h.0 h.1 in
      let o = map_at unplaced x.operators has.0 h.0 has.1 in
      (o.0, has_contains x.operators o.0 (has.0, o.1), ap (λ (q : Placed). q.op) o.2 ∙ h.2)

  -- the function of a slot, with its places
  source : (o : Option Function) (g : Function) → slot_unplaced o ≡ Some g → (f : Function) × (o ≡ Some f) × (record { ty = f.ty; origin = origin_unplaced f.origin } ≡ g)
  source None g e = absurd cc
  source (Some f) g e = (f, refl, cc)

  module _ (p : Plan) where
    wants_to : (k : ℕ) → Wants m p k → Wants n p k
    wants_to k (body j f c at r) = body j (record { ty = f.ty; origin = origin_unplaced f.origin }) c (at_slot m.functions j ∙ ap slot_unplaced at) (refers_unplaced k f.origin r)
    wants_to k (init j g c at r) = init j g c at r

    wants_from : (k : ℕ) → Wants n p k → Wants m p k
    wants_from k (body j g c at r) =
        let f = source (slice_index_or m.functions j None) g (sym (at_slot m.functions j) ∙ at) in
        body j f.0 c f.1 (refers_placed k f.0.origin (subst (λ (g : Function). BodyRefers k g.origin) (sym f.2) r))
    wants_from k (init j g c at r) = init j g c at r

    holds_to : (k : ℕ) → Holds m p k → Holds n p k
    holds_to k (exported j e c at is number) = exported j e c at is number
    holds_to k (segment j e c at h) = segment j e c at h

    holds_from : (k : ℕ) → Holds n p k → Holds m p k
    holds_from k (exported j e c at is number) = exported j e c at is number
    holds_from k (segment j e c at h) = segment j e c at h

    has_declared : (ds : List (List ℕ)) → HasDeclared m p ds → HasDeclared n p ds
    has_declared [] h = λ k wants. holds_to k (h k (wants_from k wants))
    has_declared (ns ∷ []) h = (
      h.0,
      h.1,
      λ k. (
        λ c. let both = (h.2 k).0 c in (wants_to k both.0, λ held. both.1 (holds_from k held)),
        λ both. (h.2 k).1 (wants_from k both.0, λ held. both.1 (holds_to k held)),
      ),
    )
    has_declared (ns ∷ ms ∷ ds) h = h

  -- ---- plans, and what is asked of the module

  pub plan_unplaced : (keep : Bool) (pushed : List Item) (t : Table) (p : Plan) → IsPlanOf features m keep pushed t p → IsPlanOf features n keep pushed t p
  plan_unplaced keep pushed t p h = record {
    writes = record {
      kept = has_kept keep pushed p h.writes.kept;
      indices = h.writes.indices;
      emitted = h.writes.emitted;
      types = h.writes.types;
      index = h.writes.index;
      known = h.writes.known;
      grouped = h.writes.grouped;
      once = h.writes.once;
      only = h.writes.only;
      globals = h.writes.globals;
      exports = h.writes.exports;
      labels = h.writes.labels;
      locals = h.writes.locals;
    };
    ordered = in_order p h.ordered;
    declared = has_declared p p.declared h.declared;
  }

  locals_unplaced : (k : ℕ) (f : Function) → slice_index_or m.functions k None ≡ Some f → LocalsNamed v k f f.origin
      → LocalsNamed w k (record { ty = f.ty; origin = origin_unplaced f.origin }) (origin_unplaced f.origin)
  locals_unplaced k f at h = by f.origin refl h
    where
      all : (y : Item) → Contains (function_items (v.local_type k) (v.parts k) f) y → Contains (function_items (w.local_type k) (w.parts k) (record { ty = f.ty; origin = origin_unplaced f.origin })) y
      all y c =
          let here : function_items (v.local_type k) (v.parts k) f ≡ slot_items m (slice_index_or m.functions k None) =
          sym (ap (λ (o : Option Function). named_by (function_items (v.local_type k) (v.parts k)) o) at) in
          let there : slot_items n (slice_index_or n.functions k None) ≡ function_items (w.local_type k) (w.parts k) (record { ty = f.ty; origin = origin_unplaced f.origin }) =
          ap (λ (o : Option Function). named_by (function_items (w.local_type k) (w.parts k)) o) (at_slot m.functions k ∙ ap slot_unplaced at) in
          subst (λ (l : List Item). Contains l y) (here ∙ sym (names_stay k) ∙ there) c

      by : (o : Origin Body) → f.origin ≡ o → LocalsNamed v k f o → LocalsNamed w k (record { ty = f.ty; origin = origin_unplaced f.origin }) (origin_unplaced o)
      by (Imported i) is h = h
      by (Own x) is h = λ y c. all y (h y c)

  pub names_unplaced : NamesAll features m → NamesAll features n
  names_unplaced h = record {
    linked = subst (λ (b : FileSpace → List (Option ℕ)). AreLinked b m.imports) (λ i space. sym (brought_stays space) i) h.linked;
    locals = λ k g at.
        let f = source (slice_index_or m.functions k None) g (sym (at_slot m.functions k) ∙ at) in
        subst (λ (g : Function). LocalsNamed w k g g.origin) f.2 (locals_unplaced k f.0 f.1 (h.locals k f.0 f.1));
  }
