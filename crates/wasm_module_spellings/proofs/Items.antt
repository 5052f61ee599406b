-- Lemmas: functions, tables, memories, tags, globals, exports and the start function of a module that meets the rules met those of their
-- entries, at the states before them.
use Rattle.std.specs.Prelude.{ℕ, ◌<◌, ◌≤◌, ◌≡◌, ◌==◌, Bool, true, false, not, List, [], ◌∷◌, ◌++◌, length, filter, Option, Some, None, if◌then◌else◌, slice_get, refl}
use Rattle.std.specs.List.{list_any}
use Rattle.std.proofs.Common.{ap, sym, subst, arith, inl, inr}
use Rattle.std.proofs.lemmas.List.{append_assoc, append-nil}
use Rattle.wasm_features.specs.declared.WasmFeatures.{WasmFeatures}
use Rattle.walrus_forms.specs.Kinds.{Kind}
use Rattle.walrus_forms.specs.Renaming.{RefBelow, ValueBelow}
use Rattle.wasm_formats.specs.declared.fault.Space.{Space}
use Rattle.wasm_formats.specs.declared.fault.Space.TheVariants as spaces
use Rattle.wasm_formats.specs.Joined.{after}
use Rattle.wasm_grammar.specs.Modules.{Own, Function, Table, Tag, Global, Export, Module}
use Rattle.wasm_grammar.specs.Values.{table_limits}
use Rattle.wasm_grammar.specs.Exprs.{Known, expr}
use Rattle.wasm_grammar.specs.States.{State, types_of, type_count, known, count_of, form_test}
use Rattle.wasm_sections.specs.Entities.{TableType, table_type, initialised, table_of, MemoryType, memory_of, global_of, global_type, GlobalEntry, global_entry, add_global, no_body, function_entry, add_function, TableEntry, table_entry, add_table, memory_entry, add_memory, TagType, tag_entry, add_tag}
use Rattle.wasm_sections.specs.Exports.{has_name, kind_space, ExportEntry, export_entry, add_export, start_function, set_start}
use Rattle.wasm_module_rules.specs.Linked.{IsFunctionType, IsThere, AreDistinct, IsBelow, IsLinked}
use Rattle.wasm_module_rules.specs.Keeps.{first_none, room_rules}
use Rattle.wasm_ruled_modules.specs.Rules.{IsExpr, IsInit, IsCounted, GroupsBelow, AreNamed, AreExpressed, Sees, GlobalsSee, is_imported, knows_imported}
use Rattle.wasm_module_spellings.specs.Spelled.{IsFormed}
use Rattle.wasm_module_spellings.proofs.Fronts.{Fronts, item_is, global_is, front_longer, globals_longer, front_whole, fronts_earlier, types_whole, globals_whole, imported_whole, before_function, before_table, before_memory, before_tag, before_global, before_export, before_start}
use Rattle.wasm_module_spellings.proofs.Values.{must_pass, below_passes, first_passes, room_passes, with_room, ref_ruled, value_ruled, index_ruled, expr_ruled}

-- the rules of a module but for its bodies
pub record Holds (w : Module) : Type 0 where
  pub linked : IsLinked w
  pub lists : IsCounted w
  pub groups : GroupsBelow 0 w.groups
  pub named : AreNamed w
  pub expressed : AreExpressed w

-- ---- what is known at a state

pub typed_back : (q : ℕ) (m w : Module) (n : ℕ) → 1 ≤ q → Fronts q m w → IsFunctionType w n → IsFunctionType m n
typed_back q m w n le f typed = subst (λ (ts : List Kind). form_test (slice_get ts n) ≡ None) (types_whole q m w le f) typed

pub known_is : (t u f g : ℕ) (a b : List (Option Global)) → t ≡ u → f ≡ g → a ≡ b
    → (let one : Known = record { types = t; functions = f; globals = a } in let other : Known = record { types = u; functions = g; globals = b } in one ≡ other)
known_is t u f g a b p q r = λ i. record { types = p i; functions = q i; globals = r i }

pub functions_count : (q : ℕ) (m w : Module) → 3 ≤ q → Fronts q m w → length w.functions ≡ length m.functions
functions_count q m w le f = ap length (front_whole 3 q m.functions w.functions le f.functions)

pub types_count : (q : ℕ) (m w : Module) → 1 ≤ q → Fronts q m w → length (types_of w) ≡ length (types_of m)
types_count q m w le f = ap length (types_whole q m w le f)

known_imported : (s : State) (w : Module) → Fronts 3 s.filled w → filter is_imported s.filled.globals ≡ s.filled.globals → knows_imported w ≡ known s
known_imported s w f is =
    known_is (length (types_of w)) (type_count s) (length w.functions) (length s.filled.functions) (filter is_imported w.globals) s.filled.globals
    (types_count 3 s.filled w (omega arith) f) (functions_count 3 s.filled w (omega arith) f) (imported_whole 3 s.filled w (omega arith) f is)

-- a global sees those before it
see_mid : (types functions : ℕ) (earlier xs more : List (Option Global)) (g : Option Global) → GlobalsSee types functions earlier ((xs ++ g ∷ []) ++ more)
    → Sees (record { types = types; functions = functions; globals = earlier ++ xs }) g
see_mid types functions earlier [] more g h =
    subst (λ (l : List (Option Global)). Sees (record { types = types; functions = functions; globals = l }) g) (sym (append-nil earlier)) h.0
see_mid types functions earlier (x ∷ xs) more g h =
    subst (λ (l : List (Option Global)). Sees (record { types = types; functions = functions; globals = l }) g) (append_assoc earlier (x ∷ []) xs)
    (see_mid types functions (earlier ++ x ∷ []) xs more g h.1)

-- an export's name is new
fresh_mid : (earlier xs more : List (Option Export)) (e : Export) → AreDistinct earlier ((xs ++ Some e ∷ []) ++ more) → list_any (has_name e.name) (earlier ++ xs) ≡ false
fresh_mid earlier [] more e h = subst (λ (l : List (Option Export)). list_any (has_name e.name) l ≡ false) (sym (append-nil earlier)) h.0
fresh_mid earlier (x ∷ xs) more e h =
    subst (λ (l : List (Option Export)). list_any (has_name e.name) l ≡ false) (append_assoc earlier (x ∷ []) xs) (fresh_mid (earlier ++ x ∷ []) xs more e h.1)

kind_case : (k : ℕ) (P : Space → Type 0) → P spaces.Function → P spaces.Table → P spaces.Memory → P spaces.Global → P spaces.Tag → P (kind_space k)
kind_case k P a b c d e = go (k == 0) (k == 1) (k == 2) (k == 3)
  where
    go : (f t m g : Bool) → P (if f then spaces.Function else (if t then spaces.Table else (if m then spaces.Memory else (if g then spaces.Global else spaces.Tag))))
    go true t m g = a
    go false true m g = b
    go false false true g = c
    go false false false true = d
    go false false false false = e

-- ---- entries

module _ (w : Module) (h : Holds w) where
  -- Each of these: the lists before the entry are fronts, too, and the entry meets its rules there
  pub function_back : (s : State) (x : ℕ) → Fronts 2 (add_function s x).filled w → Fronts 2 s.filled w × (function_entry s).rules x
  function_back s x f =
      let y : Function = record { ty = x; origin = Own no_body } in
      let b = before_function 2 s.filled w y (omega arith) f in
      let typed = item_is (λ (g : Function). IsFunctionType w g.ty) 3 2 s.filled.functions w.functions y f.functions h.linked.functions_typed in
      let lt = front_longer 3 2 s.filled.functions w.functions (Some y) f.functions in
      let most = h.lists.functions in
      (b, ((tt, typed_back 2 s.filled w x (omega arith) b typed), room_passes s spaces.Function (omega (arith, lt, most))))

  pub tag_back : (s : State) (x : TagType) → Fronts 5 (add_tag s x).filled w → Fronts 5 s.filled w × (tag_entry s).rules x
  tag_back s x f =
      let y : Tag = record { ty = x.1; imported = None } in
      let b = before_tag 5 s.filled w y (omega arith) f in
      let typed = item_is (λ (t : Tag). IsFunctionType w t.ty) 6 5 s.filled.tags w.tags y f.tags h.linked.tags_typed in
      let lt = front_longer 6 5 s.filled.tags w.tags (Some y) f.tags in
      let most = h.lists.tags in
      (b, with_room s spaces.Tag (omega (arith, lt, most)) (tt, (tt, typed_back 5 s.filled w x.1 (omega arith) b typed)))

  pub memory_back : (s : State) (x : MemoryType) → IsFormed memory_entry x → Fronts 4 (add_memory s x).filled w → Fronts 4 s.filled w × (memory_entry s).rules x
  memory_back s x formed f =
      let y = memory_of x None in
      let b = before_memory 4 s.filled w y (omega arith) f in
      let lt = front_longer 5 4 s.filled.memories w.memories (Some y) f.memories in
      let most = h.lists.memories in
      let r = formed.1 in
      (b, (r.0, first_passes _ _ (first_none _ _ r.1).0 (room_passes s spaces.Memory (omega (arith, lt, most))), r.2))

  module _ (features : WasmFeatures) where
    pub table_type_back : (q : ℕ) (s : State) (ty : TableType) → 1 ≤ q → Fronts q s.filled w → RefBelow (length (types_of w)) ty.0 → (table_limits).rules ty.1 → (table_type features s).rules ty
    table_type_back q s ty le f named limits = (ref_ruled features (type_count s) ty.0 (subst (λ (n : ℕ). RefBelow n ty.0) (types_count q s.filled w le f) named), limits)

    pub table_back : (s : State) (x : TableEntry) → IsFormed (table_entry features) x → filter is_imported s.filled.globals ≡ s.filled.globals → Fronts 3 (add_table s x).filled w
        → Fronts 3 s.filled w × (table_entry features s).rules x
    table_back s (inl x) formed is f =
        let y = table_of x.1.0 (Some x.1.1) None in
        let b = before_table 3 s.filled w y (omega arith) f in
        let lt = front_longer 4 3 s.filled.tables w.tables (Some y) f.tables in
        let most = h.lists.tables in
        let lower : length s.filled.tables < 100 = omega (arith, lt, most) in
        let typed : 1 ≤ 3 = omega arith in
        let r : (initialised features formed.0).rules x = room_rules _ formed.1 in
        let q = r.1 in let limits = q.0 in
        let named = item_is (λ (t : Table). RefBelow (length (types_of w)) t.element) 4 3 s.filled.tables w.tables y f.tables h.named.tables in
        let init = item_is (λ (t : Table). IsInit (knows_imported w) t.init) 4 3 s.filled.tables w.tables y f.tables h.expressed.tables in
        let e = subst (λ (k : Known). IsExpr k x.1.1) (known_imported s w b is) init in
        (b, with_room s spaces.Table lower (tt, (table_type_back 3 s x.1.0 typed b named limits.1, expr_ruled features (known s) x.1.1 e)))
    table_back s (inr ty) formed is f =
        let y = table_of ty None None in
        let b = before_table 3 s.filled w y (omega arith) f in
        let lt = front_longer 4 3 s.filled.tables w.tables (Some y) f.tables in
        let most = h.lists.tables in
        let lower : length s.filled.tables < 100 = omega (arith, lt, most) in
        let typed : 1 ≤ 3 = omega arith in
        let r : (table_type features formed.0).rules ty = room_rules _ formed.1 in
        let named = item_is (λ (t : Table). RefBelow (length (types_of w)) t.element) 4 3 s.filled.tables w.tables y f.tables h.named.tables in
        (b, with_room s spaces.Table lower (table_type_back 3 s ty typed b named r.1))

    pub global_back : (s : State) (x : GlobalEntry) → IsFormed (global_entry features) x → Fronts 6 (add_global s x).filled w → Fronts 6 s.filled w × (global_entry features s).rules x
    global_back s x formed f =
        let y = global_of x.0 (Own x.1) in
        let b = before_global 6 s.filled w y (omega arith) (λ at. refl) f in
        let lt = globals_longer 6 s.filled.globals w.globals (Some y) f.globals in
        let most = h.lists.globals in
        let lower : length s.filled.globals < 1000000 = omega (arith, lt, most) in
        let types = types_count 6 s.filled w (omega arith) b in
        let count = functions_count 6 s.filled w (omega arith) b in
        let r : (after (global_type features formed.0) (λ _. expr features (known formed.0))).rules x = room_rules _ formed.1 in
        let t : (global_type features formed.0).rules x.0 = r.0 in
        let named = global_is (λ (g : Global). ValueBelow (length (types_of w)) g.ty) 6 s.filled.globals w.globals y f.globals h.named.globals in
        let g = f.globals in
        let sees = see_mid (length (types_of w)) (length w.functions) [] s.filled.globals g.0 (Some y)
        (subst (λ (l : List (Option Global)). GlobalsSee (length (types_of w)) (length w.functions) [] l) g.1 h.expressed.globals) in
        let same = known_is (length (types_of w)) (type_count s) (length w.functions) (length s.filled.functions) s.filled.globals s.filled.globals
        types count refl in
        let e = subst (λ (k : Known). IsExpr k x.1) same sees in (
          b,
          with_room s spaces.Global lower
              ((value_ruled features (type_count s) x.0.0 (subst (λ (n : ℕ). ValueBelow n x.0.0) types named), t.1), expr_ruled features (known s) x.1 e),
        )

  pub export_back : (s : State) (x : ExportEntry) → IsFormed export_entry x → Fronts 7 (add_export s x).filled w → Fronts 7 s.filled w × (export_entry s).rules x
  export_back s x formed f =
      let y : Export = record { name = x.0.0; item = record { space = kind_space x.0.1; number = x.1 } } in
      let b = before_export 7 s.filled w y (omega arith) f in
      let lt = front_longer 8 7 s.filled.exports w.exports (Some y) f.exports in
      let most = h.lists.exports in
      let r = formed.1 in
      let e = f.exports in
      let fresh = fresh_mid [] s.filled.exports e.0 y (subst (λ (l : List (Option Export)). AreDistinct [] l) e.1 h.linked.exports_distinct) in
      let there = item_is (λ (e : Export). IsThere w e.item) 8 7 s.filled.exports w.exports y f.exports h.linked.exports_there in
      let same : count_of w (kind_space x.0.1) ≡ count_of s.filled (kind_space x.0.1) = kind_case x.0.1 (λ (space : Space). count_of w space ≡ count_of s.filled space)
      (functions_count 7 s.filled w (omega arith) b)
      (ap length (front_whole 4 7 s.filled.tables w.tables (omega arith) b.tables))
      (ap length (front_whole 5 7 s.filled.memories w.memories (omega arith) b.memories))
      (ap length (globals_whole 7 s.filled w (omega arith) b))
      (ap length (front_whole 6 7 s.filled.tags w.tags (omega arith) b.tags)) in (
        b,
        (
          r.0,
          first_passes _ _ (must_pass (not (list_any (has_name x.0.0) s.filled.exports)) _ (ap not fresh)) (below_passes (length s.filled.exports) 1000000 _ (omega (arith, lt, most))),
          below_passes x.1 (count_of s.filled (kind_space x.0.1)) _ (subst (λ (n : ℕ). x.1 < n) same there),
        ),
      )

  pub start_back : (s : State) (n : ℕ) → Fronts 9 (set_start s n).filled w → Fronts 8 s.filled w × (start_function s).rules n
  start_back s n f =
      let b = before_start 8 s.filled w n (omega arith) (fronts_earlier 8 9 (set_start s n).filled w (omega arith) f) in
      let below = subst (IsBelow (length w.functions)) (f.start (omega arith)) h.linked.start_there in
      (b, index_ruled spaces.Function (length s.filled.functions) n (subst (λ (k : ℕ). n < k) (functions_count 8 s.filled w (omega arith) b) below))
