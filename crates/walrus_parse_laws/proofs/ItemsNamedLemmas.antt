-- Lemmas: what the items of a module that was read name.
use Rattle.std.specs.Prelude.{ℕ, zero, suc, ◌≡◌, ◌<◌, ◌≤◌, ◌+◌, Bool, List, [], ◌∷◌, ◌++◌, length, map, filter, Option, Some, None, slice_get, slice_index_or, refl}
use Rattle.std.specs.Option.{option_map}
use Rattle.std.proofs.Common.{ap, sym, ◌∙◌, subst, arith}
use Rattle.std.proofs.lemmas.List.{length-append}
use Rattle.walrus_named_bodies.specs.walrus_file_bodies.walrus_items_into.walrus_module_bodies.walrus_body_trees.walrus_meaning.walrus_body_writer.walrus_pairing.wasm_operators.wasm_features.declared.WasmFeatures.{WasmFeatures}
use Rattle.walrus_named_bodies.specs.walrus_file_bodies.walrus_items_into.walrus_module_bodies.walrus_body_trees.walrus_meaning.walrus_local_function.walrus_body_locals.walrus_body_nesting.wasm_formats.declared.fault.Space.{Space}
use Rattle.walrus_named_bodies.specs.walrus_file_bodies.walrus_items_into.walrus_module_bodies.walrus_body_trees.walrus_meaning.walrus_local_function.walrus_body_locals.walrus_body_nesting.wasm_formats.declared.fault.Space.TheVariants as spaces
use Rattle.walrus_named_bodies.specs.walrus_file_bodies.walrus_items_into.walrus_module_bodies.walrus_body_trees.walrus_meaning.walrus_local_function.walrus_body_locals.wasm_grammar.Modules as grammar
use Rattle.walrus_named_bodies.specs.walrus_file_bodies.walrus_items_into.walrus_module_bodies.walrus_body_trees.walrus_meaning.walrus_local_function.walrus_body_locals.wasm_grammar.States.{form_test, types_of}
use Rattle.walrus_walks.specs.walrus_forms.Kinds.{Kind}
use Rattle.walrus_walks.specs.walrus_forms.Renaming.{RefBelow, ValueBelow, renamed_ref}
use Rattle.walrus_walks.specs.walrus_forms.declared.value.RefType.{RefType}
use Rattle.wasm_import_links.specs.Full.{AreFull, ReadModulesAreFull}
use Rattle.wasm_module_rules.specs.Linked.{AllBelow, AreListed, GoesInto, IsFunctionType}
use Rattle.wasm_import_links.specs.wasm_ruled_modules.Rules.{AreExprs, GlobalsSee, IsExpr, IsInit, IsPlaced, IsRuled, ItemsBelow, ItemsKnown, ReadModulesAreRuled, is_imported, knows, knows_imported, memory_wide, own_init, table_wide}
use Rattle.walrus_arena.specs.Arena.{item_at}
use Rattle.walrus_named_bodies.specs.walrus_file_bodies.Laws.{BodiesReadFiles}
use Rattle.walrus_function_types.specs.Growth.{FoundTypesStay, TablesGrowOn}
use Rattle.walrus_parse_laws.specs.FilledGroups.{ReadTypesAreDeclared}
use Rattle.walrus_named_bodies.specs.walrus_file_bodies.walrus_items_into.walrus_module_bodies.walrus_body_trees.walrus_meaning.walrus_body_writer.walrus_pairing.walrus_index_maps.Maps.{Ids}
use Rattle.walrus_marks.specs.walrus_instr.declared.const_expr.ConstExpr.{ConstExpr}
use Rattle.walrus_parse_laws.specs.Meaning.{type_id}
use Rattle.walrus_parse_laws.specs.Renamed.{each, retyped_element, retyped_expr, retyped_global, retyped_items, retyped_mode, retyped_origin, retyped_segment, retyped_table, retyped_tag}
use Rattle.walrus_named_bodies.specs.walrus_file_bodies.walrus_items_into.walrus_module_bodies.walrus_body_trees.walrus_meaning.walrus_linked.Names.{data_kind_names, element_kind_names, element_names, global_names, held_names, init_names, named_by, names, names_in, table_names, tag_names, value_names}
use Rattle.walrus_marks.specs.Named.{items_of}
use Rattle.walrus_marks.specs.walrus_walks.ConstEvents.{ExprsTellOps, expr_names}
use Rattle.walrus_marks.specs.walrus_walks.Events.{Event, NamesFunction, events_of, ref_names, val_names}
use Rattle.walrus_named_bodies.specs.walrus_file_bodies.walrus_items_into.walrus_module_bodies.walrus_body_trees.walrus_meaning.Meaning.{means, own_data_mode, own_element, own_element_mode, own_elements, own_function, own_global, own_segment, own_table, own_tag, own_value_of, table_init}
use Rattle.walrus_named_bodies.specs.walrus_file_bodies.walrus_items_into.walrus_module_bodies.walrus_body_trees.walrus_meaning.Words.{own_expr}
use Rattle.walrus_named_bodies.specs.walrus_item_names.walrus_module.Items.{Lives, LivesIn}
use Rattle.walrus_named_bodies.specs.walrus_item_names.walrus_module.Parts.{Module, parts}
use Rattle.walrus_named_bodies.specs.walrus_item_names.walrus_module.walrus_module_items.Functions.{type_of}
use Rattle.walrus_named_bodies.specs.walrus_item_names.walrus_module.walrus_module_items.declared.data.DataKind.{DataKind}
use Rattle.walrus_named_bodies.specs.walrus_item_names.walrus_module.walrus_module_items.declared.data.DataKind.TheVariants as datas
use Rattle.walrus_named_bodies.specs.walrus_item_names.walrus_module.walrus_module_items.declared.element.ElementItems.{ElementItems}
use Rattle.walrus_named_bodies.specs.walrus_item_names.walrus_module.walrus_module_items.declared.element.ElementItems.TheVariants as holds
use Rattle.walrus_named_bodies.specs.walrus_item_names.walrus_module.walrus_module_items.declared.element.ElementKind.{ElementKind}
use Rattle.walrus_named_bodies.specs.walrus_item_names.walrus_module.walrus_module_items.declared.element.ElementKind.TheVariants as elements
use Rattle.walrus_named_bodies.specs.walrus_item_names.walrus_module.walrus_module_items.declared.function.Function.{Function}
use Rattle.walrus_named_bodies.specs.walrus_item_names.walrus_module.walrus_module_items.declared.global.GlobalKind.{GlobalKind}
use Rattle.walrus_named_bodies.specs.walrus_item_names.walrus_module.walrus_module_items.declared.global.GlobalKind.TheVariants as globals
use Rattle.walrus_named_bodies.specs.walrus_item_names.walrus_module.walrus_module_items.declared.data.Data.{Data}
use Rattle.walrus_named_bodies.specs.walrus_item_names.walrus_module.walrus_module_items.declared.element.Element.{Element}
use Rattle.walrus_named_bodies.specs.walrus_item_names.walrus_module.walrus_module_items.declared.global.Global.{Global}
use Rattle.walrus_named_bodies.specs.walrus_item_names.walrus_module.walrus_module_items.declared.table.Table.{Table}
use Rattle.walrus_named_bodies.specs.walrus_item_names.walrus_module.walrus_module_items.declared.tag.Tag.{Tag}
use Rattle.walrus_named_bodies.specs.walrus_file_bodies.walrus_items_into.Numbers.{types_in}
use Rattle.walrus_named_bodies.specs.Parsed.{read_features}
use Rattle.walrus_named_bodies.specs.walrus_file_bodies.walrus_items_into.walrus_tables_into.walrus_sections_into.Becomes.{look_of}
use Rattle.walrus_named_bodies.specs.walrus_file_bodies.walrus_items_into.walrus_functions_into.walrus_types_into.Into.{NewTypesStand, TypesNameBelow}
use Rattle.walrus_parse_laws.specs.Items.{HasItems, ReadModulesHaveItems, file_of, head_of, heads, same}
use Rattle.walrus_parse_laws.proofs.ItemsSlotLemmas.{each_at, flags, flags_seen, live_at, seen_at}
use Rattle.walrus_parse_laws.proofs.LinkLemmas.{function_flags}
use Rattle.walrus_parse_laws.specs.Named.{HasNoBodies, NamesLive, NamesOfReadItemsLive}
use Rattle.walrus_parse_laws.proofs.ConstLemmas.{Serves, expr_served}
use Rattle.walrus_parse_laws.proofs.ListLemmas.{AllOf, all_contains, cons_head, cons_tail, filter_short, get_within, items_join, some_is}
use Rattle.walrus_parse_laws.proofs.ItemsTypeLemmas.{types_live}
use Rattle.walrus_parse_laws.proofs.ItemsValueLemmas.{ref_served, value_served}

-- ---- slots

-- an item and its meaning, where the file has one of the number
pub record IsFrom {A B : Type 0} (see : A → B) (change : B → B) (slots : List (Option B)) (n : ℕ) (x : A) : Type 0 where
  pub from : B
  pub there : slice_index_or slots n None ≡ Some from
  pub seen : see x ≡ change from

is_from : {A B : Type 0} (see : A → B) (change : B → B) (own : List (Option A)) (slots : List (Option B)) (n : ℕ) (x : A) → map (option_map see) own ≡ map (option_map change) slots
    → slice_index_or own n None ≡ Some x → IsFrom see change slots n x
is_from see change own slots n x same at =
    found see change slots n x (slice_index_or slots n None) refl (sym (ap (option_map see) at) ∙ sym (seen_at see own n) ∙ ap (λ (l : List (Option _)). slice_index_or l n None) same ∙ seen_at change slots n)
  where
    found : {A B : Type 0} (see : A → B) (change : B → B) (slots : List (Option B)) (n : ℕ) (x : A) (o : Option B) → slice_index_or slots n None ≡ o → Some (see x) ≡ option_map change o → IsFrom see change slots n x
    found see change slots n x None is e = absurd cc
    found see change slots n x (Some y) is e = record { from = y; there = is; seen = some_is (see x) (change y) e }

-- ---- what is known of the file

below_typed : (m : grammar.Module) (n : ℕ) → IsFunctionType m n → n < length (types_of m)
below_typed m n e = there (slice_get (types_of m) n) refl e
  where
    there : (o : Option Kind) → slice_get (types_of m) n ≡ o → form_test o ≡ None → n < length (types_of m)
    there None is e = absurd cc
    there (Some k) is e = get_within (types_of m) n k is

own_is : (x y : grammar.Expr) → grammar.Own x ≡ grammar.Own y → x ≡ y
own_is x y e = cc

active_is : (a b : ℕ) (x y : grammar.Expr) → grammar.Active a x ≡ grammar.Active b y → (a ≡ b) × (x ≡ y)
active_is a b x y e = (first e, second e)
  where
    first : grammar.Active a x ≡ grammar.Active b y → a ≡ b
    first e = cc

    second : grammar.Active a x ≡ grammar.Active b y → x ≡ y
    second e = cc

functions_are : (a b : List ℕ) → grammar.Functions a ≡ grammar.Functions b → a ≡ b
functions_are a b e = cc

expressions_are : (a b : RefType) (x y : List grammar.Expr) → grammar.Expressions a x ≡ grammar.Expressions b y → (a ≡ b) × (x ≡ y)
expressions_are a b x y e = (first e, second e)
  where
    first : grammar.Expressions a x ≡ grammar.Expressions b y → a ≡ b
    first e = cc

    second : grammar.Expressions a x ≡ grammar.Expressions b y → x ≡ y
    second e = cc

-- the globals that a global's expression sees
sees_at : (types functions : ℕ) (earlier gs : List (Option grammar.Global)) (n : ℕ) (g : grammar.Global) → GlobalsSee types functions earlier gs → slice_index_or gs n None ≡ Some g
    → (globals : List (Option grammar.Global)) × (length globals ≤ length earlier + length gs) × IsInit (record { types = types; functions = functions; globals = globals }) (own_init g.origin)
sees_at types functions earlier [] n g h e = absurd cc
sees_at types functions earlier (None ∷ gs) zero g h e = absurd cc
sees_at types functions earlier (Some x ∷ gs) zero g h e =
    (earlier, omega arith, subst (λ (y : grammar.Global). IsInit (record { types = types; functions = functions; globals = earlier }) (own_init y.origin)) (some_is x g e) h.0)
sees_at types functions earlier (x ∷ gs) (suc n) g h e =
    let later = sees_at types functions (earlier ++ x ∷ []) gs n g h.1 e in
    let le = later.1 in (later.0, omega (arith, le, length-append earlier (x ∷ [])), later.2)

-- the function of the file
head_from : (own fs : List (Option grammar.Function)) (r : ℕ → ℕ) (n : ℕ) (x : grammar.Function) → heads same own ≡ heads r fs → slice_index_or own n None ≡ Some x
    → (y : grammar.Function) × (slice_index_or fs n None ≡ Some y) × (x.ty ≡ r y.ty)
head_from own fs r n x e at =
    found (slice_index_or fs n None) refl (sym (ap (option_map (head_of same)) at) ∙ sym (seen_at (head_of same) own n) ∙ ap (λ (l : List (Option (ℕ × Option ℕ))). slice_index_or l n None) e ∙ seen_at (head_of r) fs n)
  where
    found : (o : Option grammar.Function) → slice_index_or fs n None ≡ o → Some (head_of same x) ≡ option_map (head_of r) o → (y : grammar.Function) × (slice_index_or fs n None ≡ Some y) × (x.ty ≡ r y.ty)
    found None is e = absurd cc
    found (Some y) is e = (y, is, ap (λ (p : ℕ × Option ℕ). p.0) (some_is (head_of same x) (head_of r y) e))

module _ (m : Module) (f : grammar.Module) (r : ℕ → ℕ) (h : HasItems r f (means m)) (full : AreFull f)
    (typed : (n : ℕ) → n < length (types_of f) → LivesIn m spaces.«Type» (r n)) (tell : ExprsTellOps) where
  table_lives : (n : ℕ) → n < length f.tables → LivesIn m spaces.Table n
  table_lives n lt = live_at m.tables.slots f.tables n (sym (flags_seen own_table m.tables.slots) ∙ ap flags h.tables ∙ flags_seen (retyped_table r) f.tables) full.tables lt

  memory_lives : (n : ℕ) → n < length f.memories → LivesIn m spaces.Memory n
  memory_lives n lt = live_at m.memories.slots f.memories n (sym (flags_seen _ m.memories.slots) ∙ ap flags h.memories) full.memories lt

  function_lives : (n : ℕ) → n < length f.functions → LivesIn m spaces.Function n
  function_lives n lt = live_at m.funcs.slots f.functions n (function_flags r f m h) full.functions lt

  global_lives : (n : ℕ) → n < length f.globals → LivesIn m spaces.Global n
  global_lives n lt = live_at m.globals.slots f.globals n (sym (flags_seen own_global m.globals.slots) ∙ ap flags h.globals ∙ flags_seen (retyped_global r) f.globals) full.globals lt

  -- of expressions that see some of the globals
  serves : (globals : List (Option grammar.Global)) → length globals ≤ length f.globals → Serves (record { types = length (types_of f); functions = length f.functions; globals = globals }) r (Lives m)
  serves globals le = record { types = typed; functions = function_lives; globals = λ n lt. global_lives n (omega (arith, lt, le)) }

  expr_live : (globals : List (Option grammar.Global)) → length globals ≤ length f.globals → (e : ConstExpr) (from : grammar.Expr) → own_expr e ≡ retyped_expr r from
      → IsExpr (record { types = length (types_of f); functions = length f.functions; globals = globals }) from → AllOf (Lives m) (items_of (expr_names e))
  expr_live globals le e from same ruled = expr_served (record { types = length (types_of f); functions = length f.functions; globals = globals }) r (Lives m) (serves globals le) tell e from same ruled

  init_live : (globals : List (Option grammar.Global)) → length globals ≤ length f.globals → (init : Option ConstExpr) (from : Option grammar.Expr) → option_map own_expr init ≡ option_map (retyped_expr r) from
      → IsInit (record { types = length (types_of f); functions = length f.functions; globals = globals }) from → AllOf (Lives m) (items_of (init_names init))
  init_live globals le None from e ruled = tt
  init_live globals le (Some init) None e ruled = absurd cc
  init_live globals le (Some init) (Some from) e ruled = expr_live globals le init from (some_is (own_expr init) (retyped_expr r from) e) ruled

  same_long : length f.globals ≤ length f.globals
  same_long = omega arith

  -- ---- tables

  module _ (features : WasmFeatures) (counted : Bool) (ruled : IsRuled features counted f) where
    table_names_live : (id : ℕ) (t : Table) → item_at m.tables id ≡ Some t → AllOf (Lives m) (items_of (table_names t))
    table_names_live id t at =
        let is = is_from own_table (retyped_table r) m.tables.slots f.tables id t h.tables at in
        let named = each_at (λ (x : grammar.Table). RefBelow (length (types_of f)) x.element) f.tables id is.from ruled.named.tables is.there in
        let expressed = each_at (λ (x : grammar.Table). IsInit (knows_imported f) x.init) f.tables id is.from ruled.expressed.tables is.there in
        items_join (Lives m) (ref_names t.element_ty) (init_names (table_init t))
        (ref_served (length (types_of f)) r (Lives m) typed t.element_ty is.from.element (ap (λ (x : grammar.Table). x.element) is.seen) named)
        (init_live (filter is_imported f.globals) (filter_short is_imported f.globals) (table_init t) is.from.init (ap (λ (x : grammar.Table). x.init) is.seen) expressed)

    -- ---- tags

    tag_names_live : (id : ℕ) (t : Tag) → item_at m.tags id ≡ Some t → AllOf (Lives m) (items_of (tag_names t))
    tag_names_live id t at =
        let is = is_from own_tag (retyped_tag r) m.tags.slots f.tags id t h.tags at in
        let rule = each_at (λ (x : grammar.Tag). IsFunctionType f x.ty) f.tags id is.from ruled.linked.tags_typed is.there in
        (subst (λ (n : ℕ). LivesIn m spaces.«Type» n) (sym (ap (λ (x : grammar.Tag). x.ty) is.seen)) (typed is.from.ty (below_typed f is.from.ty rule)), tt)

    -- ---- globals

    value_live : (globals : List (Option grammar.Global)) → length globals ≤ length f.globals → (kind : GlobalKind) (origin : grammar.Origin grammar.Expr) → own_value_of kind ≡ retyped_origin r origin
        → IsInit (record { types = length (types_of f); functions = length f.functions; globals = globals }) (own_init origin) → AllOf (Lives m) (items_of (value_names kind))
    value_live seen le (globals.Import import) origin e rule = tt
    value_live seen le (globals.Local init) (grammar.Imported n) e rule = absurd cc
    value_live seen le (globals.Local init) (grammar.Own from) e rule = expr_live seen le init from (own_is (own_expr init) (retyped_expr r from) e) rule

    global_names_live : (id : ℕ) (g : Global) → item_at m.globals id ≡ Some g → AllOf (Lives m) (items_of (global_names g))
    global_names_live id g at =
        let is = is_from own_global (retyped_global r) m.globals.slots f.globals id g h.globals at in
        let named = each_at (λ (x : grammar.Global). ValueBelow (length (types_of f)) x.ty) f.globals id is.from ruled.named.globals is.there in
        let sees = sees_at (length (types_of f)) (length f.functions) [] f.globals id is.from ruled.expressed.globals is.there in
        items_join (Lives m) (val_names g.ty) (value_names g.kind)
        (value_served (length (types_of f)) r (Lives m) typed g.ty is.from.ty (ap (λ (x : grammar.Global). x.ty) is.seen) named)
        (value_live sees.0 (let le = sees.1 in omega (arith, le)) g.kind is.from.origin (ap (λ (x : grammar.Global). x.origin) is.seen) sees.2)

    -- ---- segments

    element_mode_live : (kind : ElementKind) (mode : grammar.Mode) → own_element_mode kind ≡ retyped_mode r mode → GoesInto (length f.tables) mode → IsPlaced (table_wide f.tables) (knows f) mode
        → AllOf (Lives m) (items_of (element_kind_names kind))
    element_mode_live elements.Passive mode e into placed = tt
    element_mode_live elements.Declared mode e into placed = tt
    element_mode_live (elements.Active table offset) grammar.Passive e into placed = absurd cc
    element_mode_live (elements.Active table offset) grammar.Declared e into placed = absurd cc
    element_mode_live (elements.Active table offset) (grammar.Active n from) e into placed =
        let both = active_is table n (own_expr offset) (retyped_expr r from) e in
        (subst (λ (k : ℕ). LivesIn m spaces.Table k) (sym both.0) (table_lives n into), expr_live f.globals same_long offset from both.1 placed.0)

    data_mode_live : (kind : DataKind) (mode : grammar.Mode) → own_data_mode kind ≡ retyped_mode r mode → GoesInto (length f.memories) mode → IsPlaced (memory_wide f.memories) (knows f) mode
        → AllOf (Lives m) (items_of (data_kind_names kind))
    data_mode_live datas.Passive mode e into placed = tt
    data_mode_live (datas.Active memory offset) grammar.Passive e into placed = absurd cc
    data_mode_live (datas.Active memory offset) grammar.Declared e into placed = absurd cc
    data_mode_live (datas.Active memory offset) (grammar.Active n from) e into placed =
        let both = active_is memory n (own_expr offset) (retyped_expr r from) e in
        (subst (λ (k : ℕ). LivesIn m spaces.Memory k) (sym both.0) (memory_lives n into), expr_live f.globals same_long offset from both.1 placed.0)

    functions_live : (ns : List ℕ) → AllBelow (length f.functions) ns → AllOf (Lives m) (items_of (map (λ n. NamesFunction n) ns))
    functions_live [] h = tt
    functions_live (n ∷ ns) h = (function_lives n h.0, functions_live ns h.1)

    exprs_live : (es : List ConstExpr) (from : List grammar.Expr) → map own_expr es ≡ map (retyped_expr r) from → AreExprs (knows f) from → AllOf (Lives m) (items_of (events_of expr_names es))
    exprs_live [] from e rule = tt
    exprs_live (x ∷ es) [] e rule = absurd cc
    exprs_live (x ∷ es) (y ∷ from) e rule =
        items_join (Lives m) (expr_names x) (events_of expr_names es)
        (expr_live f.globals same_long x y (cons_head (own_expr x) (retyped_expr r y) (map own_expr es) (map (retyped_expr r) from) e) rule.0)
        (exprs_live es from (cons_tail (own_expr x) (retyped_expr r y) (map own_expr es) (map (retyped_expr r) from) e) rule.1)

    held_live : (items : ElementItems) (from : grammar.Elements) → own_elements items ≡ retyped_items r from → AreListed (length f.functions) from → ItemsBelow (length (types_of f)) from → ItemsKnown (knows f) from
        → AllOf (Lives m) (items_of (held_names items))
    held_live (holds.Functions functions) (grammar.Expressions ty es) e listed named known = absurd cc
    held_live (holds.Functions functions) (grammar.Functions ns) e listed named known =
        functions_live functions.items (subst (AllBelow (length f.functions)) (sym (functions_are functions.items ns e)) listed)
    held_live (holds.Expressions ty exprs) (grammar.Functions ns) e listed named known = absurd cc
    held_live (holds.Expressions ty exprs) (grammar.Expressions from es) e listed named known =
        let both = expressions_are ty (renamed_ref r from) (map own_expr exprs.items) (map (retyped_expr r) es) e in
        items_join (Lives m) (ref_names ty) (events_of expr_names exprs.items)
        (ref_served (length (types_of f)) r (Lives m) typed ty from both.0 named)
        (exprs_live exprs.items es both.1 known)

    element_names_live : (id : ℕ) (x : Element) → item_at m.elements id ≡ Some x → AllOf (Lives m) (items_of (element_names x))
    element_names_live id x at =
        let is = is_from own_element (retyped_element r) m.elements.slots f.elements id x h.elements at in
        let into = each_at (λ (e : grammar.Element). GoesInto (length f.tables) e.mode) f.elements id is.from ruled.linked.elements_there is.there in
        let listed = each_at (λ (e : grammar.Element). AreListed (length f.functions) e.items) f.elements id is.from ruled.linked.elements_listed is.there in
        let named = each_at (λ (e : grammar.Element). ItemsBelow (length (types_of f)) e.items) f.elements id is.from ruled.named.elements is.there in
        let placed = each_at (λ (e : grammar.Element). IsPlaced (table_wide f.tables) (knows f) e.mode) f.elements id is.from ruled.expressed.offsets is.there in
        let known = each_at (λ (e : grammar.Element). ItemsKnown (knows f) e.items) f.elements id is.from ruled.expressed.items is.there in
        items_join (Lives m) (element_kind_names x.kind) (held_names x.items)
        (element_mode_live x.kind is.from.mode (ap (λ (e : grammar.Element). e.mode) is.seen) into placed)
        (held_live x.items is.from.items (ap (λ (e : grammar.Element). e.items) is.seen) listed named known)

    data_names_live : (id : ℕ) (x : Data) → item_at m.data_segments id ≡ Some x → AllOf (Lives m) (items_of (data_kind_names x.kind))
    data_names_live id x at =
        let is = is_from own_segment (retyped_segment r) m.data_segments.slots f.segments id x h.segments at in
        let into = each_at (λ (e : grammar.Segment). GoesInto (length f.memories) e.mode) f.segments id is.from ruled.linked.segments_there is.there in
        let placed = each_at (λ (e : grammar.Segment). IsPlaced (memory_wide f.memories) (knows f) e.mode) f.segments id is.from ruled.expressed.segments is.there in
        data_mode_live x.kind is.from.mode (ap (λ (e : grammar.Segment). e.mode) is.seen) into placed

    -- ---- functions

    function_typed : (id : ℕ) (x : Function) → item_at m.funcs id ≡ Some x → LivesIn m spaces.«Type» (type_of x.kind)
    function_typed id x at =
        let both = head_from (means m).functions f.functions r id (own_function m.locals x) h.functions (seen_at (own_function m.locals) m.funcs.slots id ∙ ap (option_map (own_function m.locals)) at) in
        let rule = each_at (λ (e : grammar.Function). IsFunctionType f e.ty) f.functions id both.0 ruled.linked.functions_typed both.1 in
        subst (λ (n : ℕ). LivesIn m spaces.«Type» n) (sym both.2) (typed both.0.ty (below_typed f both.0.ty rule))

    -- ---- all of them

    told_of : {A : Type 0} (tells : A → List Event) (o : Option A) → ((x : A) → o ≡ Some x → AllOf (Lives m) (items_of (tells x))) → AllOf (Lives m) (items_of (named_by tells o))
    told_of tells None each = tt
    told_of tells (Some x) each = each x refl

    all_live : (space : Space) (id : ℕ) → HasNoBodies space → AllOf (Lives m) (items_of (names_in m space id))
    all_live spaces.«Type» id bare = absurd bare
    all_live spaces.Function id bare = absurd bare
    all_live spaces.Table id bare = told_of table_names (item_at m.tables id) (table_names_live id)
    all_live spaces.Memory id bare = tt
    all_live spaces.Tag id bare = told_of tag_names (item_at m.tags id) (tag_names_live id)
    all_live spaces.Global id bare = told_of global_names (item_at m.globals id) (global_names_live id)
    all_live spaces.Element id bare = told_of element_names (item_at m.elements id) (element_names_live id)
    all_live spaces.Data id bare = told_of (λ (d : Data). data_kind_names d.kind) (item_at m.data_segments id) (data_names_live id)
    all_live spaces.Local id bare = tt
    all_live spaces.Label id bare = tt

    pub names_live : NamesLive m
    names_live = record {
      named = λ x y bare c. all_contains (Lives m) (names m x) y (all_live x.space x.id bare) c;
      typed = function_typed;
    }

pub names_of_read : {B : Type 0} → ReadModulesHaveItems B → ReadModulesAreFull → ReadModulesAreRuled → NewTypesStand → TypesNameBelow → ReadTypesAreDeclared → FoundTypesStay → TablesGrowOn → ExprsTellOps
    → BodiesReadFiles B → NamesOfReadItemsLive B
names_of_read items fulls ruled stand below declares stay on tell bodies config bytes m found small is =
    let all = items config bytes m found small is in
    let f = file_of config bytes m found is in
    let features = read_features config in
    let rules = ruled features bytes f all.0 in
    let h = is.1 in
    let read = bodies features bytes h.sections m.start h.numbers h.filled h.file [] h.bodied h.reads.short small h.reads.sections h.are_filled h.is_file h.bodies_are in
    let same : found.types ≡ (types_in h.sections).ids = ap (λ (j : Ids). j.types) (h.found_are ∙ read.3) ∙ ap (λ (j : Ids). j.types) h.are_filled.numbers in
    names_live (parts m) f (type_id (look_of found)) all.1 (fulls features bytes f all.0) (λ n lt. types_live stand below declares stay on config bytes m found is n lt same) tell features rules.0 rules.1
