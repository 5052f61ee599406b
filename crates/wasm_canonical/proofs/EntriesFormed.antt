-- Lemmas: entries that are due to a module that meets the rules are formed.
use Rattle.std.specs.Prelude.{ℕ, ◌≡◌, ◌<◌, ◌≤◌, ◌+◌, Bool, true, false, nat_lt, List, [], ◌∷◌, ◌++◌, filter, length, map, Option, Some, None, refl}
use Rattle.std.specs.List.{cons_option, filter_map}
use Rattle.std.proofs.Common.{ap, sym, ◌∙◌, subst, arith}
use Rattle.std.proofs.lemmas.List.{length-append}
use Rattle.walrus_forms.specs.Renaming.{RefBelow, ValueBelow}
use Rattle.wasm_features.specs.declared.WasmFeatures.{WasmFeatures}
use Rattle.wasm_formats.specs.declared.fault.Space.{Space}
use Rattle.wasm_formats.specs.declared.fault.Space.TheVariants as spaces
use Rattle.wasm_grammar.specs.Exprs.{Known}
use Rattle.wasm_grammar.specs.Modules.{Expr, Origin, Imported, Own, Table, Memory, Global, Export, Module, empty}
use Rattle.wasm_grammar.specs.States.{State, count_of, nothing_yet, types_of}
use Rattle.wasm_grammar.specs.Values.{in_order, limits, table_limits}
use Rattle.wasm_sections.specs.Entities.{TableType, global_entry, memory_entry, table_entry}
use Rattle.wasm_sections.specs.Exports.{export_entry, kind_space}
use Rattle.wasm_module_bytes.specs.Due.{EntriesTell, IsExported, bit, export_from, global_from, memory_from, space_kind, table_from}
use Rattle.wasm_module_rules.specs.Entries.{AllRuled}
use Rattle.wasm_module_rules.specs.Linked.{Each, IsLimited, IsThere}
use Rattle.wasm_module_spellings.specs.Spelled.{IsFormed}
use Rattle.wasm_module_spellings.proofs.Values.{below_passes, expr_ruled, must_pass, ref_ruled, value_ruled, with_room}
use Rattle.wasm_ruled_modules.specs.Rules.{GlobalsSee, IsExpr, IsInit, IsPageSize, is_imported, knows_imported, own_init}
use Rattle.wasm_canonical.specs.Due.{if_own, items_in, of_init, own_global, own_memory, own_table}
use Rattle.wasm_canonical.specs.Due.{global_entry as own_of}
use Rattle.wasm_canonical.specs.Dense.{AreThere}
use Rattle.wasm_canonical.specs.Dense.{none_brought}
use Rattle.wasm_canonical.proofs.Brought.{holds_typed, imports_formed}
use Rattle.wasm_canonical.proofs.Grouped.{groups_formed}
use Rattle.wasm_canonical.proofs.Limits.{memory_limits_ruled, table_limits_ruled}
use Rattle.wasm_canonical.specs.EntriesFormed.{DueEntriesAreFormed}

-- ---- entries of own items

module _ {A E : Type 0} (own : Option A → Option E) (P : A → Type 0) (F : E → Type 0) (none : own None ≡ None) (one : (x : A) → P x → (e : E) → own (Some x) ≡ Some e → F e) where
  pushed : (o : Option E) (es : List E) → ((e : E) → o ≡ Some e → F e) → AllRuled F es → AllRuled F (cons_option o es)
  pushed None es h k = k
  pushed (Some e) es h k = (h e refl, k)

  all_own : (xs : List (Option A)) → Each P xs → AllRuled F (filter_map own xs)
  all_own [] h = tt
  all_own (None ∷ xs) h = subst (λ (o : Option E). AllRuled F (cons_option o (filter_map own xs))) (sym none) (all_own xs h)
  all_own (Some x ∷ xs) h = pushed (own (Some x)) (filter_map own xs) (one x h.0) (all_own xs h.1)

each_pair : {A : Type 0} (P Q : A → Type 0) (xs : List (Option A)) → Each P xs → Each Q xs → Each (λ x. P x × Q x) xs
each_pair P Q [] h k = tt
each_pair P Q (None ∷ xs) h k = each_pair P Q xs h k
each_pair P Q (Some x ∷ xs) h k = ((h.0, k.0), each_pair P Q xs h.1 k.1)

owned_is : {A : Type 0} (o : Option ℕ) (x e : A) → if_own o x ≡ Some e → x ≡ e
owned_is None x e h = some_is x e h
  where
    some_is : {A : Type 0} (x y : A) → (let some : A → Option A = λ x. Some x in some x ≡ some y) → x ≡ y
    some_is x y e = cc
owned_is (Some n) x e h = absurd cc

-- ---- tables

module _ (features : WasmFeatures) (m : Module) where
  abbrev table_state : State
  table_state = record nothing_yet { filled = record empty { groups = m.groups; functions = m.functions; globals = filter is_imported m.globals } }

  table_formed : (ty : TableType) (init : Option Expr) → RefBelow (length (types_of m)) ty.0 → table_limits.rules ty.1 → IsInit (knows_imported m) init → IsFormed (table_entry features) (of_init ty init)
  table_formed ty None named limits h = (table_state, with_room table_state spaces.Table (omega arith) (ref_ruled features (length (types_of m)) ty.0 named, limits))
  table_formed ty (Some e) named limits h =
      (table_state, with_room table_state spaces.Table (omega arith) (tt, ((ref_ruled features (length (types_of m)) ty.0 named, limits), expr_ruled features (knows_imported m) e h)))

  -- ---- globals

  mutable_flags : (b : Bool) → (nat_lt (bit 1 b) 4 ≡ true) × (nat_lt (bit 1 b) 2 ≡ true)
  mutable_flags true = (refl, refl)
  mutable_flags false = (refl, refl)

  abbrev global_state : List (Option Global) → State
  global_state globals = record nothing_yet { filled = record empty { groups = m.groups; functions = m.functions; globals = globals } }

  global_formed : (earlier : List (Option Global)) (g : Global) (e : Expr) → length earlier < 1000000 → ValueBelow (length (types_of m)) g.ty
      → (let k : Known = record { types = length (types_of m); functions = length m.functions; globals = earlier } in IsExpr k e) → IsFormed (global_entry features) (global_from g, e)
  global_formed earlier g e lt named h =
      let b = mutable_flags g.mutable in
      let k : Known = record { types = length (types_of m); functions = length m.functions; globals = earlier } in
      (global_state earlier, with_room (global_state earlier) spaces.Global lt ((value_ruled features (length (types_of m)) g.ty named, ((tt, must_pass (nat_lt (bit 1 g.mutable) 4) _ b.0), must_pass (nat_lt (bit 1 g.mutable) 2) _ b.1)), expr_ruled features k e h))

  globals_formed : (earlier gs : List (Option Global)) → GlobalsSee (length (types_of m)) (length m.functions) earlier gs → Each (λ (g : Global). ValueBelow (length (types_of m)) g.ty) gs → length earlier + length gs ≤ 1000000
      → AllRuled (IsFormed (global_entry features)) (filter_map own_global gs)
  globals_formed earlier [] h named le = tt
  globals_formed earlier (None ∷ gs) h named le = globals_formed (earlier ++ None ∷ []) gs h.1 named (omega (arith, le, length-append earlier (None ∷ [])))
  globals_formed earlier (Some g ∷ gs) h named le =
      go g.origin h.0 (globals_formed (earlier ++ Some g ∷ []) gs h.1 named.1 (omega (arith, le, length-append earlier (Some g ∷ []))))
    where
      go : (o : Origin Expr) → IsInit (record { types = length (types_of m); functions = length m.functions; globals = earlier }) (own_init o) → AllRuled (IsFormed (global_entry features)) (filter_map own_global gs)
          → AllRuled (IsFormed (global_entry features)) (cons_option (own_of g o) (filter_map own_global gs))
      go (Imported n) h rest = rest
      go (Own e) h rest = (global_formed earlier g e (omega (arith, le)) named.0 h, rest)

-- ---- exports

module _ (tell : EntriesTell) (m : Module) where
  abbrev export_state : State
  export_state = record nothing_yet { filled = record m { exports = [] } }

  kind_small : (space : Space) → nat_lt (space_kind space) 5 ≡ true
  kind_small spaces.Function = refl
  kind_small spaces.Table = refl
  kind_small spaces.Memory = refl
  kind_small spaces.Global = refl
  kind_small spaces.Tag = refl
  kind_small spaces.Type = refl
  kind_small spaces.Element = refl
  kind_small spaces.Data = refl
  kind_small spaces.Local = refl
  kind_small spaces.Label = refl

  count_same : (space : Space) → count_of export_state.filled space ≡ count_of m space
  count_same spaces.Function = refl
  count_same spaces.Table = refl
  count_same spaces.Memory = refl
  count_same spaces.Global = refl
  count_same spaces.Tag = refl
  count_same spaces.Type = refl
  count_same spaces.Element = refl
  count_same spaces.Data = refl
  count_same spaces.Local = refl
  count_same spaces.Label = refl

  export_formed : (e : Export) → IsExported e.item.space → IsThere m e.item → IsFormed export_entry (export_from e)
  export_formed e is there =
      let lt : e.item.number < count_of export_state.filled (kind_space (space_kind e.item.space)) =
      subst (λ (n : ℕ). e.item.number < n) (sym (ap (count_of export_state.filled) (tell.exports e is) ∙ count_same e.item.space)) there in (
        export_state,
        (((tt, (tt, must_pass (nat_lt (space_kind e.item.space) 5) _ (kind_small e.item.space))), tt), refl, below_passes e.item.number (count_of export_state.filled (kind_space (space_kind e.item.space))) _ lt),
      )

  exports_formed : (es : List (Option Export)) → AreThere (λ (e : Export). IsExported e.item.space) es → Each (λ (e : Export). IsThere m e.item) es → AllRuled (IsFormed export_entry) (map export_from (items_in es))
  exports_formed [] h k = tt
  exports_formed (None ∷ es) h k = absurd h
  exports_formed (Some e ∷ es) h k = (export_formed e h.0 k.0, exports_formed es h.1 k.1)

-- ---- memories

pub entries_formed : EntriesTell → DueEntriesAreFormed
entries_formed tell features counted m dense h = record {
  groups = groups_formed tell features [] m.groups dense.groups h.groups (let le = h.lists.types in omega (arith, le));
  imports = imports_formed features m (holds_typed m h.linked h.named) none_brought (items_in m.imports) dense.brings;
  tables = all_own own_table (λ (t : Table). (in_order t.initial t.maximum ≡ true) × (RefBelow (length (types_of m)) t.element × IsInit (knows_imported m) t.init)) (IsFormed (table_entry features)) refl
      (λ t k e at. subst (IsFormed (table_entry features)) (owned_is t.imported (of_init (table_from t) t.init) e at) (table_formed features m (table_from t) t.init k.1.0 (table_limits_ruled t k.0) k.1.1)) m.tables
      (each_pair (λ (t : Table). in_order t.initial t.maximum ≡ true) (λ (t : Table). RefBelow (length (types_of m)) t.element × IsInit (knows_imported m) t.init) m.tables h.linked.tables_limited
      (each_pair (λ (t : Table). RefBelow (length (types_of m)) t.element) (λ (t : Table). IsInit (knows_imported m) t.init) m.tables h.named.tables h.expressed.tables));
  memories = all_own own_memory (λ (x : Memory). IsLimited x × IsPageSize x.page_size_log2) (IsFormed memory_entry) refl
      (λ x k e at. subst (IsFormed memory_entry) (owned_is x.imported (memory_from x) e at) (nothing_yet, memory_limits_ruled x k.0 k.1)) m.memories (each_pair IsLimited (λ (x : Memory). IsPageSize x.page_size_log2) m.memories h.linked.memories_limited h.named.pages);
  globals = globals_formed features m [] m.globals h.expressed.globals h.named.globals (let le = h.lists.globals in omega (arith, le));
  exports = exports_formed tell m m.exports dense.exports h.linked.exports_there;
}
