-- Lemmas: the rules of a module, one by one, in its normal form.
use Rattle.std.specs.Prelude.{ℕ, ◌≡◌, ◌<◌, Bool, true, false, List, [], ◌∷◌, ◌++◌, filter, length, map, Option, Some, None, slice_get, slice_index_or, refl}
use Rattle.std.specs.Option.{option_map}
use Rattle.std.proofs.Common.{ap, sym, ◌∙◌, subst, cond}
use Rattle.std.proofs.lemmas.List.{length-map, map-append}
use Rattle.std.proofs.lemmas.Option.{slice_get_within}
use Rattle.wasm_ruled_renamed.specs.wasm_ruled_normal.wasm_ruled_modules.wasm_module_rules.wasm_modules.wasm_body_grammar.wasm_grammar.walrus_forms.Forms.{Form, FunctionForm, StructForm, ArrayForm, params_of}
use Rattle.wasm_ruled_renamed.specs.wasm_ruled_normal.wasm_ruled_modules.wasm_module_rules.wasm_modules.wasm_body_grammar.wasm_grammar.walrus_forms.Kinds.{Kind}
use Rattle.wasm_ruled_renamed.specs.wasm_ruled_normal.wasm_ruled_modules.wasm_module_rules.wasm_modules.wasm_body_grammar.wasm_grammar.walrus_forms.Records.{TypeGroup}
use Rattle.wasm_ruled_renamed.specs.wasm_ruled_normal.wasm_ruled_modules.wasm_module_rules.wasm_modules.wasm_body_grammar.wasm_grammar.walrus_forms.Renaming.{HeapBelow, RefBelow, ValueBelow, renamed_form, renamed_heap, renamed_kind, renamed_value}
use Rattle.wasm_ruled_renamed.specs.wasm_ruled_normal.wasm_ruled_modules.wasm_module_rules.wasm_modules.wasm_body_grammar.wasm_grammar.walrus_forms.declared.value.HeapType.{HeapType}
use Rattle.wasm_ruled_renamed.specs.wasm_ruled_normal.wasm_ruled_modules.wasm_module_rules.wasm_modules.wasm_body_grammar.wasm_grammar.walrus_forms.declared.value.HeapType.TheVariants.{Abstract, Shared, Concrete, Exact}
use Rattle.wasm_ruled_renamed.specs.wasm_ruled_normal.wasm_ruled_modules.wasm_module_rules.wasm_modules.wasm_body_grammar.wasm_grammar.walrus_forms.declared.value.ValType.{ValType}
use Rattle.wasm_ruled_renamed.specs.wasm_ruled_normal.wasm_ruled_modules.wasm_module_rules.wasm_modules.wasm_body_grammar.wasm_grammar.walrus_forms.declared.value.ValType.TheVariants.{I32, I64, F32, F64, V128, Ref}
use Rattle.wasm_ruled_renamed.specs.wasm_ruled_normal.wasm_ruled_modules.wasm_module_rules.wasm_modules.wasm_body_grammar.Codes.{kind_params, param_count}
use Rattle.wasm_ruled_renamed.specs.wasm_ruled_normal.wasm_ruled_modules.wasm_module_rules.wasm_modules.wasm_body_grammar.Rules.{Around}
use Rattle.wasm_ruled_renamed.specs.wasm_ruled_normal.wasm_ruled_modules.wasm_module_rules.wasm_modules.wasm_body_grammar.wasm_formats.Stops.{TypeForm}
use Rattle.wasm_ruled_renamed.specs.wasm_ruled_normal.wasm_ruled_modules.wasm_module_rules.wasm_modules.wasm_body_grammar.wasm_formats.declared.fault.Space.{Space}
use Rattle.wasm_ruled_renamed.specs.wasm_ruled_normal.wasm_ruled_modules.wasm_module_rules.wasm_modules.wasm_body_grammar.wasm_formats.declared.fault.Space.TheVariants as spaces
use Rattle.wasm_ruled_renamed.specs.wasm_ruled_normal.wasm_ruled_modules.wasm_module_rules.wasm_modules.wasm_body_grammar.wasm_formats.wasm_features.declared.WasmFeatures.{WasmFeatures}
use Rattle.wasm_ruled_renamed.specs.wasm_ruled_normal.wasm_ruled_modules.wasm_module_rules.wasm_modules.wasm_body_grammar.wasm_grammar.Exprs.{Known, global_is, is_address, offset_test}
use Rattle.wasm_ruled_renamed.specs.wasm_ruled_normal.wasm_ruled_modules.wasm_module_rules.wasm_modules.wasm_body_grammar.wasm_grammar.Modules.{Expr, Origin, Imported, Own, Body, Function, Table, Global, Tag, Mode, Passive, Declared, Active, Elements, Functions, Expressions, Element, Segment, Import, Export, Item, Module}
use Rattle.wasm_ruled_renamed.specs.wasm_ruled_normal.wasm_ruled_modules.wasm_module_rules.wasm_modules.wasm_body_grammar.wasm_grammar.States.{count_of, form_test, is_function, types_of}
use Rattle.wasm_ruled_renamed.specs.wasm_ruled_normal.wasm_ruled_modules.wasm_module_rules.wasm_modules.wasm_body_grammar.wasm_grammar.Values.{in_order, must}
use Rattle.wasm_ruled_renamed.specs.wasm_ruled_normal.wasm_ruled_modules.wasm_module_rules.wasm_modules.wasm_body_grammar.wasm_operators.Items as immediates
use Rattle.wasm_ruled_renamed.specs.wasm_ruled_normal.wasm_ruled_modules.wasm_module_rules.Keeps.{each_later}
use Rattle.wasm_ruled_renamed.specs.wasm_ruled_normal.wasm_ruled_modules.wasm_module_rules.Linked.{Each, AreListed, GoesInto, IsBelow, IsFunctionType, IsLinked, IsThere}
use Rattle.wasm_ruled_renamed.specs.wasm_ruled_normal.wasm_ruled_modules.wasm_module_rules.wasm_modules.wasm_sections.Segments.{wide_table}
use Rattle.wasm_ruled_renamed.specs.wasm_ruled_normal.wasm_ruled_modules.Rules.{AreExpressed, AreExprs, AreNamed, GlobalsSee, GroupsBelow, HasBody, IsBody, IsExpr, IsInit, IsPlaced, ItemsBelow, ItemsKnown, OriginRuled, Sees, around_bodies, is_imported, knows, knows_imported, memory_wide, own_init, table_wide}
use Rattle.wasm_ruled_renamed.specs.Bodies.{Reaches, RenamedBodiesAreRuled, normal_renamed}
use Rattle.wasm_ruled_renamed.specs.Renamed.{Keeps, Knows, RenamedExprsAreKnown, RenamedOffsetsFit}
use Rattle.wasm_ruled_renamed.specs.Types.{Retypes, RetypedTypesServe}
use Rattle.wasm_normal_modules.proofs.Slots.{each_both, each_sent, get_some, slot_sent}
use Rattle.wasm_normal_modules.specs.Modules.{BringsNoTypes, NormalModulesAreRuled, by_types, each, normal_function, normal_module, normal_origin, retyped_element, retyped_expr, retyped_global, retyped_items, retyped_mode, retyped_origin, retyped_segment, retyped_table, retyped_tag}

-- ---- types

form_stays : (r : ℕ → ℕ) (form : Form) → is_function (renamed_form r form) ≡ is_function form
form_stays r (FunctionForm params results) = refl
form_stays r (StructForm fields) = refl
form_stays r (ArrayForm field) = refl

params_stay : (r : ℕ → ℕ) (form : Form) → length (params_of (renamed_form r form)) ≡ length (params_of form)
params_stay r (FunctionForm params results) = length-map params (renamed_value r)
params_stay r (StructForm fields) = refl
params_stay r (ArrayForm field) = refl

kind_params_stay : (r : ℕ → ℕ) (o : Option Kind) → kind_params (option_map (renamed_kind r) o) ≡ kind_params o
kind_params_stay r None = refl
kind_params_stay r (Some kind) = params_stay r kind.form

module _ (place : Option ℕ → ℕ) (features : WasmFeatures) (counted : Bool) (r : ℕ → ℕ) (groups : List TypeGroup) (m : Module) where
  abbrev a : Around
  a = around_bodies features counted m

  abbrev n : Module
  n = normal_module place a r groups m

  abbrev b : Around
  b = around_bodies features counted n

  module _ (types : Retypes r a b) where
    type_there : (k : ℕ) → k < length (types_of m) → r k < length (types_of n)
    type_there k lt =
        let one = get_some (types_of m) k lt in slice_get_within (types_of n) (r k) (renamed_kind r one.0) (types.stands k lt ∙ ap (option_map (renamed_kind r)) one.1)

    function_within : (k : ℕ) (o : Option Kind) → slice_get (types_of m) k ≡ o → form_test o ≡ None → k < length (types_of m)
    function_within k None at e = absurd cc
    function_within k (Some kind) at e = slice_get_within (types_of m) k kind at

    type_within : (k : ℕ) → IsFunctionType m k → k < length (types_of m)
    type_within k h = function_within k (slice_get (types_of m) k) refl h

    form_there : (o : Option Kind) → form_test o ≡ None → form_test (option_map (renamed_kind r) o) ≡ None
    form_there None e = absurd cc
    form_there (Some kind) e = ap (λ (f : Bool). must f TypeForm) (form_stays r kind.form) ∙ e

    function_there : (k : ℕ) → IsFunctionType m k → IsFunctionType n (r k)
    function_there k h = ap form_test (types.stands k (type_within k h)) ∙ form_there (slice_get (types_of m) k) h

    -- ---- linked

    count_stays : (space : Space) → (space ≡ spaces.«Type» → ⊥) → count_of n space ≡ count_of m space
    count_stays spaces.«Type» other = absurd (other refl)
    count_stays spaces.Function other = length-map m.functions (option_map (normal_function place a r))
    count_stays spaces.Table other = length-map m.tables (option_map (retyped_table r))
    count_stays spaces.Memory other = refl
    count_stays spaces.Tag other = length-map m.tags (option_map (retyped_tag r))
    count_stays spaces.Global other = length-map m.globals (option_map (retyped_global r))
    count_stays spaces.Element other = length-map m.elements (option_map (retyped_element r))
    count_stays spaces.Data other = length-map m.segments (option_map (retyped_segment r))
    count_stays spaces.Local other = refl
    count_stays spaces.Label other = refl

    there : (i : Item) → IsThere m i → (i.space ≡ spaces.«Type» → ⊥) → IsThere n i
    there i h other = subst (λ (k : ℕ). i.number < k) (sym (count_stays i.space other)) h

    functions_many : length n.functions ≡ length m.functions
    functions_many = length-map m.functions (option_map (normal_function place a r))

    tables_many : length n.tables ≡ length m.tables
    tables_many = length-map m.tables (option_map (retyped_table r))

    goes : (mode : Mode) (count : ℕ) → GoesInto count mode → GoesInto count (retyped_mode r mode)
    goes (Active k offset) count h = h
    goes Passive count h = tt
    goes Declared count h = tt

    listed : (items : Elements) (count : ℕ) → AreListed count items → AreListed count (retyped_items r items)
    listed (Functions ns) count h = h
    listed (Expressions ty es) count h = tt

    linked : BringsNoTypes m → IsLinked m → IsLinked n
    linked plain h = record {
      functions_typed = each_sent (λ (f : Function). IsFunctionType m f.ty) (λ (f : Function). IsFunctionType n f.ty) (normal_function place a r) (λ f k. function_there f.ty k) m.functions h.functions_typed;
      tags_typed = each_sent (λ (t : Tag). IsFunctionType m t.ty) (λ (t : Tag). IsFunctionType n t.ty) (retyped_tag r) (λ t k. function_there t.ty k) m.tags h.tags_typed;
      tables_limited = each_sent (λ (t : Table). in_order t.initial t.maximum ≡ true) (λ (t : Table). in_order t.initial t.maximum ≡ true) (retyped_table r) (λ t e. e) m.tables h.tables_limited;
      memories_limited = h.memories_limited;
      imports_there = each_later (λ (i : Import). IsThere m i.item × (i.item.space ≡ spaces.«Type» → ⊥)) (λ (i : Import). IsThere n i.item) (λ i k. there i.item k.0 k.1) m.imports
          (each_both (λ (i : Import). IsThere m i.item) (λ (i : Import). i.item.space ≡ spaces.«Type» → ⊥) m.imports h.imports_there plain.imports);
      exports_there = each_later (λ (e : Export). IsThere m e.item × (e.item.space ≡ spaces.«Type» → ⊥)) (λ (e : Export). IsThere n e.item) (λ e k. there e.item k.0 k.1) m.exports
          (each_both (λ (e : Export). IsThere m e.item) (λ (e : Export). e.item.space ≡ spaces.«Type» → ⊥) m.exports h.exports_there plain.exports);
      exports_distinct = h.exports_distinct;
      start_there = subst (λ (k : ℕ). IsBelow k m.start) (sym functions_many) h.start_there;
      elements_there = subst (λ (k : ℕ). Each (λ (e : Element). GoesInto k e.mode) n.elements) (sym tables_many)
          (each_sent (λ (e : Element). GoesInto (length m.tables) e.mode) (λ (e : Element). GoesInto (length m.tables) e.mode) (retyped_element r) (λ e k. goes e.mode (length m.tables) k) m.elements h.elements_there);
      elements_listed = subst (λ (k : ℕ). Each (λ (e : Element). AreListed k e.items) n.elements) (sym functions_many)
          (each_sent (λ (e : Element). AreListed (length m.functions) e.items) (λ (e : Element). AreListed (length m.functions) e.items) (retyped_element r) (λ e k. listed e.items (length m.functions) k) m.elements h.elements_listed);
      segments_there = each_sent (λ (x : Segment). GoesInto (length m.memories) x.mode) (λ (x : Segment). GoesInto (length m.memories) x.mode) (retyped_segment r) (λ x k. goes x.mode (length m.memories) k) m.segments h.segments_there;
    }

    -- ---- named

    heap_below : (ty : HeapType) → HeapBelow (length (types_of m)) ty → HeapBelow (length (types_of n)) (renamed_heap r ty)
    heap_below (Abstract ty) h = tt
    heap_below (Shared ty) h = tt
    heap_below (Concrete k) h = type_there k h
    heap_below (Exact k) h = type_there k h

    value_below : (ty : ValType) → ValueBelow (length (types_of m)) ty → ValueBelow (length (types_of n)) (renamed_value r ty)
    value_below I32 h = tt
    value_below I64 h = tt
    value_below F32 h = tt
    value_below F64 h = tt
    value_below V128 h = tt
    value_below (Ref ty) h = heap_below ty.heap_type h

    items_below : (items : Elements) → ItemsBelow (length (types_of m)) items → ItemsBelow (length (types_of n)) (retyped_items r items)
    items_below (Functions ns) h = tt
    items_below (Expressions ty es) h = heap_below ty.heap_type h

    named : AreNamed m → AreNamed n
    named h = record {
      tables = each_sent (λ (t : Table). RefBelow (length (types_of m)) t.element) (λ (t : Table). RefBelow (length (types_of n)) t.element) (retyped_table r) (λ t k. heap_below t.element.heap_type k) m.tables h.tables;
      globals = each_sent (λ (g : Global). ValueBelow (length (types_of m)) g.ty) (λ (g : Global). ValueBelow (length (types_of n)) g.ty) (retyped_global r) (λ g k. value_below g.ty k) m.globals h.globals;
      elements = each_sent (λ (e : Element). ItemsBelow (length (types_of m)) e.items) (λ (e : Element). ItemsBelow (length (types_of n)) e.items) (retyped_element r) (λ e k. items_below e.items k) m.elements h.elements;
      pages = h.pages;
    }

    -- ---- constant expressions

    module _ (exprs : RenamedExprsAreKnown) (offsets : RenamedOffsetsFit) where
      -- as many globals, whose types send addresses to addresses
      abbrev known : List (Option Global) → Known
      known globals = record { types = length (types_of m); functions = length m.functions; globals = globals }

      abbrev known_there : List (Option Global) → Known
      known_there globals = record { types = length (types_of n); functions = length n.functions; globals = each (retyped_global r) globals }

      knows_all : (globals : List (Option Global)) → Knows (by_types r) (known globals) (known_there globals)
      knows_all globals = record {
        types = type_there;
        functions = λ k lt. subst (λ (c : ℕ). k < c) (sym functions_many) lt;
        globals = λ k lt. subst (λ (c : ℕ). k < c) (sym (length-map globals (option_map (retyped_global r)))) lt;
      }

      expr_there : (globals : List (Option Global)) (e : Expr) → IsExpr (known globals) e → IsExpr (known_there globals) (retyped_expr r e)
      expr_there globals e h = exprs (by_types r) (known globals) (known_there globals) e (knows_all globals) h

      exprs_there : (globals : List (Option Global)) (es : List Expr) → AreExprs (known globals) es → AreExprs (known_there globals) (map (retyped_expr r) es)
      exprs_there globals [] h = tt
      exprs_there globals (e ∷ es) h = (expr_there globals e h.0, exprs_there globals es h.1)

      init_there : (globals : List (Option Global)) (o : Option Expr) → IsInit (known globals) o → IsInit (known_there globals) (option_map (retyped_expr r) o)
      init_there globals None h = tt
      init_there globals (Some e) h = expr_there globals e h

      own_there : (globals : List (Option Global)) (o : Origin Expr) → IsInit (known globals) (own_init o) → IsInit (known_there globals) (own_init (retyped_origin r o))
      own_there globals (Imported k) h = tt
      own_there globals (Own e) h = expr_there globals e h

      sees : (earlier : List (Option Global)) (g : Option Global) → Sees (known earlier) g → Sees (known_there earlier) (option_map (retyped_global r) g)
      sees earlier None h = tt
      sees earlier (Some g) h = own_there earlier g.origin h

      all_see : (earlier globals : List (Option Global)) → GlobalsSee (length (types_of m)) (length m.functions) earlier globals
          → GlobalsSee (length (types_of n)) (length n.functions) (each (retyped_global r) earlier) (each (retyped_global r) globals)
      all_see earlier [] h = tt
      all_see earlier (g ∷ globals) h = (
        sees earlier g h.0,
        subst (λ (before : List (Option Global)). GlobalsSee (length (types_of n)) (length n.functions) before (each (retyped_global r) globals)) (map-append (option_map (retyped_global r)) earlier (g ∷ []))
            (all_see (earlier ++ g ∷ []) globals h.1),
      )

      -- the imported ones are those that were
      origin_stays : (o : Origin Expr) → own_init (retyped_origin r o) ≡ option_map (retyped_expr r) (own_init o)
      origin_stays (Imported k) = refl
      origin_stays (Own e) = refl

      imported_origin : (g : Global) (o : Origin Expr) → is_imported (Some (record g { ty = renamed_value r g.ty; origin = retyped_origin r o })) ≡ is_imported (Some (record g { origin = o }))
      imported_origin g (Imported k) = refl
      imported_origin g (Own e) = refl

      imported_stays : (g : Option Global) → is_imported (option_map (retyped_global r) g) ≡ is_imported g
      imported_stays None = refl
      imported_stays (Some g) = imported_origin g g.origin

      imported_there : (globals : List (Option Global)) → filter is_imported (each (retyped_global r) globals) ≡ each (retyped_global r) (filter is_imported globals)
      imported_there [] = refl
      imported_there (g ∷ globals) =
          ap (λ (c : Bool). cond c (option_map (retyped_global r) g ∷ filter is_imported (each (retyped_global r) globals)) (filter is_imported (each (retyped_global r) globals))) (imported_stays g)
          ∙ by (is_imported g) (imported_there globals)
        where
          by : (c : Bool) → filter is_imported (each (retyped_global r) globals) ≡ each (retyped_global r) (filter is_imported globals)
              → cond c (option_map (retyped_global r) g ∷ filter is_imported (each (retyped_global r) globals)) (filter is_imported (each (retyped_global r) globals))
              ≡ each (retyped_global r) (cond c (g ∷ filter is_imported globals) (filter is_imported globals))
          by true e = ap (λ (l : List (Option Global)). option_map (retyped_global r) g ∷ l) e
          by false e = e

      -- ---- offsets

      address_stays : (wide : Bool) (ty : ValType) → is_address wide (renamed_value r ty) ≡ is_address wide ty
      address_stays true I32 = refl
      address_stays true I64 = refl
      address_stays true F32 = refl
      address_stays true F64 = refl
      address_stays true V128 = refl
      address_stays true (Ref ty) = refl
      address_stays false I32 = refl
      address_stays false I64 = refl
      address_stays false F32 = refl
      address_stays false F64 = refl
      address_stays false V128 = refl
      address_stays false (Ref ty) = refl

      global_stays : (wide : Bool) (g : Option Global) → global_is wide (option_map (retyped_global r) g) ≡ global_is wide g
      global_stays wide None = refl
      global_stays wide (Some g) = address_stays wide g.ty

      table_stays : (t : Option Table) → wide_table (option_map (retyped_table r) t) ≡ wide_table t
      table_stays None = refl
      table_stays (Some t) = refl

      offset_there : (wide : Bool) (e : Expr) → offset_test wide (knows m) e ≡ None → offset_test wide (knows n) (retyped_expr r e) ≡ None
      offset_there wide e h =
          offsets (by_types r) wide (knows m) (knows n) e
          (λ k is. ap (global_is wide) (slot_sent (retyped_global r) m.globals k) ∙ global_stays wide (slice_index_or m.globals k None) ∙ is) h

      placed : (wide there : ℕ → Bool) → ((k : ℕ) → there k ≡ wide k) → (mode : Mode) → IsPlaced wide (knows m) mode → IsPlaced there (knows n) (retyped_mode r mode)
      placed wide there same (Active k offset) h =
          (expr_there m.globals offset h.0, subst (λ (w : Bool). offset_test w (knows n) (retyped_expr r offset) ≡ None) (sym (same k)) (offset_there (wide k) offset h.1))
      placed wide there same Passive h = tt
      placed wide there same Declared h = tt

      items_there : (items : Elements) → ItemsKnown (knows m) items → ItemsKnown (knows n) (retyped_items r items)
      items_there (Functions ns) h = tt
      items_there (Expressions ty es) h = exprs_there m.globals es h

      tables_wide : (k : ℕ) → table_wide n.tables k ≡ table_wide m.tables k
      tables_wide k = ap wide_table (slot_sent (retyped_table r) m.tables k) ∙ table_stays (slice_index_or m.tables k None)

      table_init : (t : Table) → IsInit (knows_imported m) t.init → IsInit (knows_imported n) (option_map (retyped_expr r) t.init)
      table_init t h =
          subst (λ (globals : List (Option Global)). IsInit (record { types = length (types_of n); functions = length n.functions; globals = globals }) (option_map (retyped_expr r) t.init)) (sym (imported_there m.globals))
          (init_there (filter is_imported m.globals) t.init h)

      expressed : AreExpressed m → AreExpressed n
      expressed h = record {
        tables = each_sent (λ (t : Table). IsInit (knows_imported m) t.init) (λ (t : Table). IsInit (knows_imported n) t.init) (retyped_table r) table_init m.tables h.tables;
        globals = all_see [] m.globals h.globals;
        offsets = each_sent (λ (e : Element). IsPlaced (table_wide m.tables) (knows m) e.mode) (λ (e : Element). IsPlaced (table_wide n.tables) (knows n) e.mode) (retyped_element r)
            (λ e k. placed (table_wide m.tables) (table_wide n.tables) tables_wide e.mode k) m.elements h.offsets;
        items = each_sent (λ (e : Element). ItemsKnown (knows m) e.items) (λ (e : Element). ItemsKnown (knows n) e.items) (retyped_element r) (λ e k. items_there e.items k) m.elements h.items;
        segments = each_sent (λ (x : Segment). IsPlaced (memory_wide m.memories) (knows m) x.mode) (λ (x : Segment). IsPlaced (memory_wide n.memories) (knows n) x.mode) (retyped_segment r)
            (λ x k. placed (memory_wide m.memories) (memory_wide n.memories) (λ k. refl) x.mode k) m.segments h.segments;
      }

    -- ---- bodies

    module _ (renamed : RenamedBodiesAreRuled) (serve : RetypedTypesServe) (below : GroupsBelow 0 m.groups) where
      reaches : Reaches (by_types r) a b
      reaches immediates.Types k lt = type_there k lt
      reaches immediates.Functions k lt = subst (λ (c : ℕ). k < c) (sym (length-map n.functions _ ∙ functions_many ∙ sym (length-map m.functions _))) lt
      reaches immediates.Tables k lt = subst (λ (c : ℕ). k < c) (sym tables_many) lt
      reaches immediates.Memories k lt = lt
      reaches immediates.Tags k lt = subst (λ (c : ℕ). k < c) (sym (length-map m.tags (option_map (retyped_tag r)))) lt
      reaches immediates.Globals k lt = subst (λ (c : ℕ). k < c) (sym (length-map m.globals (option_map (retyped_global r)))) lt
      reaches immediates.ElementSegments k lt = subst (λ (c : ℕ). k < c) (sym (length-map m.elements (option_map (retyped_element r)))) lt
      reaches immediates.DataSegments k lt = subst (λ (c : ℕ). k < c) (sym (length-map m.segments (option_map (retyped_segment r)))) lt
      reaches immediates.Locals k lt = tt
      reaches immediates.Labels k lt = tt

      keeps : Keeps (by_types r) a b
      keeps = record { labels = λ k. refl; counted = λ e. e; wide = λ k e. e; typed = λ k lt e. serve r a b below types k lt e }

      params_there : (k : ℕ) → k < length (types_of m) → param_count b.filled (r k) ≡ param_count a.filled k
      params_there k lt = ap kind_params (types.stands k lt) ∙ kind_params_stay r (slice_get (types_of m) k)

      origin_there : (ty : ℕ) → ty < length (types_of m) → (o : Origin Body) → OriginRuled a (param_count a.filled ty) o → OriginRuled b (param_count b.filled (r ty)) (normal_origin place a r (param_count a.filled ty) o)
      origin_there ty lt (Imported k) h = tt
      origin_there ty lt (Own x) h =
          subst (λ (params : ℕ). IsBody b params (normal_renamed place a (by_types r) (param_count a.filled ty) x)) (sym (params_there ty lt))
          (renamed place (by_types r) a b (param_count a.filled ty) x below keeps reaches h)

      bodies : Each (λ (f : Function). IsFunctionType m f.ty) m.functions → Each (λ (f : Function). HasBody a f) m.functions → Each (λ (f : Function). HasBody b f) n.functions
      bodies typed h =
          each_sent (λ (f : Function). IsFunctionType m f.ty × HasBody a f) (λ (f : Function). HasBody b f) (normal_function place a r) (λ f k. origin_there f.ty (type_within f.ty k.0) f.origin k.1) m.functions
          (each_both (λ (f : Function). IsFunctionType m f.ty) (λ (f : Function). HasBody a f) m.functions typed h)

pub modules_ruled : RenamedExprsAreKnown → RenamedOffsetsFit → RetypedTypesServe → RenamedBodiesAreRuled → NormalModulesAreRuled
modules_ruled exprs offsets serve renamed place features counted r groups m types below plain h = record {
  linked = linked place features counted r groups m types plain h.linked;
  groups = below;
  named = named place features counted r groups m types h.named;
  expressed = expressed place features counted r groups m types exprs offsets h.expressed;
  bodies = bodies place features counted r groups m types renamed serve h.groups h.linked.functions_typed h.bodies;
}
