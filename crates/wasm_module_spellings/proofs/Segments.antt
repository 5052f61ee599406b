-- Lemmas: segments of a module that meets the rules met those of their entries, at the states before them.
use Rattle.std.specs.Prelude.{ℕ, ◌<◌, ◌≤◌, ◌≡◌, nat_lt, List, length, Option, Some, refl}
use Rattle.std.proofs.Common.{sym, subst, arith}
use Rattle.std.proofs.lemmas.Bool.{lt-ltb}
use Rattle.wasm_features.specs.declared.WasmFeatures.{WasmFeatures}
use Rattle.wasm_formats.specs.declared.fault.Space.TheVariants as spaces
use Rattle.wasm_formats.specs.Joined.{after}
use Rattle.walrus_forms.specs.declared.value.RefType.{RefType}
use Rattle.wasm_grammar.specs.Modules.{Expr, Table, Memory, Element, Segment, Module}
use Rattle.wasm_grammar.specs.Exprs.{Known}
use Rattle.wasm_grammar.specs.Values.{index}
use Rattle.wasm_grammar.specs.States.{State, types_of, type_count, known}
use Rattle.wasm_sections.specs.Segments.{into_table, into_memory, functions, expressions, typed, ElementForm, ActiveFunctions, PassiveFunctions, FunctionsInto, DeclaredFunctions, ActiveExpressions, PassiveExpressions, ExpressionsInto, DeclaredExpressions, once_0, once_1, once_2, once_3, once_4, once_5, once_6, once_7, element_flags, element_form, ElementEntry, element_entry, element_of, add_element, DataForm, ActiveData, PassiveData, DataInto, data_once_0, data_once_2, data_flags, data_form, DataEntry, data_entry, segment_of, add_data}
use Rattle.wasm_module_rules.specs.Linked.{GoesInto, AreListed}
use Rattle.wasm_module_rules.specs.Reading.{element_number, data_number, element_flag, data_flag}
use Rattle.wasm_ruled_modules.specs.Rules.{ItemsBelow, knows, IsPlaced, table_wide, memory_wide, ItemsKnown}
use Rattle.wasm_ruled_modules.specs.Named.{room_spells}
use Rattle.wasm_module_spellings.proofs.Fronts.{Fronts, item_is, front_longer, front_whole, globals_whole, before_element, before_segment}
use Rattle.wasm_module_spellings.proofs.Values.{must_pass, with_room, ref_ruled, index_ruled, functions_ruled, offset_ruled, exprs_ruled}
use Rattle.wasm_module_spellings.proofs.Items.{Holds, known_is, types_count, functions_count}

-- ---- element segments

-- what is asked of one at a state
record Asked (s : State) (e : Element) : Type 0 where
  goes : GoesInto (length s.filled.tables) e.mode
  lists : AreListed (length s.filled.functions) e.items
  names : ItemsBelow (type_count s) e.items
  placed : IsPlaced (table_wide s.filled.tables) (known s) e.mode
  knows : ItemsKnown (known s) e.items

-- flags 0 to 7, and a table where 0 and 4 mean one
flags_go : (s : State) (e : ElementForm) → GoesInto (length s.filled.tables) (element_of e).mode → (element_flags s).rules (element_number e)
flags_go s (ActiveFunctions x) h = (tt, must_pass (nat_lt 0 (length s.filled.tables)) _ (lt-ltb 0 (length s.filled.tables) h))
flags_go s (PassiveFunctions x) h = (tt, refl)
flags_go s (FunctionsInto x) h = (tt, refl)
flags_go s (DeclaredFunctions x) h = (tt, refl)
flags_go s (ActiveExpressions x) h = (tt, must_pass (nat_lt 0 (length s.filled.tables)) _ (lt-ltb 0 (length s.filled.tables) h))
flags_go s (PassiveExpressions x) h = (tt, refl)
flags_go s (ExpressionsInto x) h = (tt, refl)
flags_go s (DeclaredExpressions x) h = (tt, refl)

form_go : (features : WasmFeatures) (s : State) (e : ElementForm) → Asked s (element_of e) → (element_form features s (element_number e)).rules e
form_go features s (ActiveFunctions x) a = let p = a.placed in
    λ y e. subst (λ (y : Expr × List ℕ). (into_table features s 0).rules y.0 × (functions s).rules y.1) (sym (once_0 y x e))
    (offset_ruled features (table_wide s.filled.tables 0) (known s) x.0 p.0 p.1, functions_ruled s x.1 a.lists)
form_go features s (PassiveFunctions x) a =
    λ y e. subst (λ (y : Unit {0} × List ℕ). Unit {0} × (functions s).rules y.1) (sym (once_1 y x e)) (tt, functions_ruled s x.1 a.lists)
form_go features s (FunctionsInto x) a = let p = a.placed in
    λ y e. subst (λ (y : (ℕ × Expr) × (Unit {0} × List ℕ)). ((index spaces.Table (length s.filled.tables)).rules y.0.0 × (into_table features s y.0.0).rules y.0.1) × (Unit {0} × (functions s).rules y.1.1)) (sym (once_2 y x e))
    ((index_ruled spaces.Table (length s.filled.tables) x.0.0 a.goes, offset_ruled features (table_wide s.filled.tables x.0.0) (known s) x.0.1 p.0 p.1), (tt, functions_ruled s x.1.1 a.lists))
form_go features s (DeclaredFunctions x) a =
    λ y e. subst (λ (y : Unit {0} × List ℕ). Unit {0} × (functions s).rules y.1) (sym (once_3 y x e)) (tt, functions_ruled s x.1 a.lists)
form_go features s (ActiveExpressions x) a = let p = a.placed in
    λ y e. subst (λ (y : Expr × List Expr). (into_table features s 0).rules y.0 × (expressions features s).rules y.1) (sym (once_4 y x e))
    (offset_ruled features (table_wide s.filled.tables 0) (known s) x.0 p.0 p.1, exprs_ruled features (known s) x.1 a.knows)
form_go features s (PassiveExpressions x) a =
    λ y e. subst (λ (y : RefType × List Expr). (typed features s).rules y) (sym (once_5 y x e)) (ref_ruled features (type_count s) x.0 a.names, exprs_ruled features (known s) x.1 a.knows)
form_go features s (ExpressionsInto x) a = let p = a.placed in
    λ y e. subst (λ (y : (ℕ × Expr) × (RefType × List Expr)). ((index spaces.Table (length s.filled.tables)).rules y.0.0 × (into_table features s y.0.0).rules y.0.1) × (typed features s).rules y.1) (sym (once_6 y x e)) (
      (index_ruled spaces.Table (length s.filled.tables) x.0.0 a.goes, offset_ruled features (table_wide s.filled.tables x.0.0) (known s) x.0.1 p.0 p.1),
      (ref_ruled features (type_count s) x.1.0 a.names, exprs_ruled features (known s) x.1.1 a.knows),
    )
form_go features s (DeclaredExpressions x) a =
    λ y e. subst (λ (y : RefType × List Expr). (typed features s).rules y) (sym (once_7 y x e)) (ref_ruled features (type_count s) x.0 a.names, exprs_ruled features (known s) x.1 a.knows)

-- ---- data segments

data_flags_go : (s : State) (e : DataForm) → GoesInto (length s.filled.memories) (segment_of e).mode → (data_flags s).rules (data_number e)
data_flags_go s (ActiveData x) h = (tt, must_pass (nat_lt 0 (length s.filled.memories)) _ (lt-ltb 0 (length s.filled.memories) h))
data_flags_go s (PassiveData x) h = (tt, refl)
data_flags_go s (DataInto x) h = (tt, refl)

data_form_go : (features : WasmFeatures) (s : State) (e : DataForm) → GoesInto (length s.filled.memories) (segment_of e).mode → IsPlaced (memory_wide s.filled.memories) (known s) (segment_of e).mode
    → (data_form features s (data_number e)).rules e
data_form_go features s (ActiveData x) goes p =
    λ y e. subst (λ (y : Expr × List ℕ). (into_memory features s 0).rules y.0 × Unit {0}) (sym (data_once_0 y x e)) (offset_ruled features (memory_wide s.filled.memories 0) (known s) x.0 p.0 p.1, tt)
data_form_go features s (PassiveData x) goes p = λ y e. tt
data_form_go features s (DataInto x) goes p =
    λ y e. subst (λ (y : (ℕ × Expr) × List ℕ). ((index spaces.Memory (length s.filled.memories)).rules y.0.0 × (into_memory features s y.0.0).rules y.0.1) × Unit {0}) (sym (data_once_2 y x e))
    ((index_ruled spaces.Memory (length s.filled.memories) x.0.0 goes, offset_ruled features (memory_wide s.filled.memories x.0.0) (known s) x.0.1 p.0 p.1), tt)

-- ---- at their states

module _ (w : Module) (h : Holds w) (features : WasmFeatures) where
  known_whole : (q : ℕ) (s : State) → 7 ≤ q → Fronts q s.filled w → knows w ≡ known s
  known_whole q s le f =
      known_is (length (types_of w)) (type_count s) (length w.functions) (length s.filled.functions) w.globals s.filled.globals
      (types_count q s.filled w (omega (arith, le)) f) (functions_count q s.filled w (omega (arith, le)) f) (globals_whole q s.filled w le f)

  pub element_back : (s : State) (bytes : List ℕ) (x : ElementEntry) → (element_entry features s).spells bytes x → Fronts 9 (add_element s x).filled w → Fronts 9 s.filled w × (element_entry features s).rules x
  element_back s bytes x spelled f =
      let y = element_of x.1 in
      let b = before_element 9 s.filled w y (omega arith) f in
      let lt = front_longer 10 9 s.filled.elements w.elements (Some y) f.elements in
      let most = h.lists.elements in
      let lower : length s.filled.elements < 100000 = omega (arith, lt, most) in
      let tables = front_whole 4 9 s.filled.tables w.tables (omega arith) b.tables in
      let known_same = known_whole 9 s (omega arith) b in
      let goes = item_is (λ (e : Element). GoesInto (length w.tables) e.mode) 10 9 s.filled.elements w.elements y f.elements h.linked.elements_there in
      let lists = item_is (λ (e : Element). AreListed (length w.functions) e.items) 10 9 s.filled.elements w.elements y f.elements h.linked.elements_listed in
      let names = item_is (λ (e : Element). ItemsBelow (length (types_of w)) e.items) 10 9 s.filled.elements w.elements y f.elements h.named.elements in
      let placed = item_is (λ (e : Element). IsPlaced (table_wide w.tables) (knows w) e.mode) 10 9 s.filled.elements w.elements y f.elements h.expressed.offsets in
      let items = item_is (λ (e : Element). ItemsKnown (knows w) e.items) 10 9 s.filled.elements w.elements y f.elements h.expressed.items in
      let asked : Asked s y = record {
        goes = subst (λ (ts : List (Option Table)). GoesInto (length ts) y.mode) tables goes;
        lists = subst (λ (n : ℕ). AreListed n y.items) (functions_count 9 s.filled w (omega arith) b) lists;
        names = subst (λ (n : ℕ). ItemsBelow n y.items) (types_count 9 s.filled w (omega arith) b) names;
        placed = subst (λ (ts : List (Option Table)). IsPlaced (table_wide ts) (known s) y.mode) tables (subst (λ (k : Known). IsPlaced (table_wide w.tables) k y.mode) known_same placed);
        knows = subst (λ (k : Known). ItemsKnown k y.items) known_same items;
      } in
      let told : (after (element_flags s) (λ flags. element_form features s flags)).spells bytes x = room_spells _ spelled in
      let same = element_flag features s x.0 told.1 x.1 told.4 in (
        b,
        with_room s spaces.Element lower
            (subst (λ (n : ℕ). (element_flags s).rules n) same (flags_go s x.1 asked.goes), subst (λ (n : ℕ). (element_form features s n).rules x.1) same (form_go features s x.1 asked)),
      )

  pub data_back : (s : State) (bytes : List ℕ) (x : DataEntry) → (data_entry features s).spells bytes x → Fronts 12 (add_data s x).filled w → Fronts 12 s.filled w × (data_entry features s).rules x
  data_back s bytes x spelled f =
      let y = segment_of x.1 in
      let b = before_segment 12 s.filled w y (omega arith) f in
      let lt = front_longer 13 12 s.filled.segments w.segments (Some y) f.segments in
      let most = h.lists.segments in
      let lower : length s.filled.segments < 100000 = omega (arith, lt, most) in
      let memories = front_whole 5 12 s.filled.memories w.memories (omega arith) b.memories in
      let goes = item_is (λ (x : Segment). GoesInto (length w.memories) x.mode) 13 12 s.filled.segments w.segments y f.segments h.linked.segments_there in
      let placed = item_is (λ (x : Segment). IsPlaced (memory_wide w.memories) (knows w) x.mode) 13 12 s.filled.segments w.segments y f.segments h.expressed.segments in
      let goes_there = subst (λ (ms : List (Option Memory)). GoesInto (length ms) y.mode) memories goes in
      let placed_there = subst (λ (ms : List (Option Memory)). IsPlaced (memory_wide ms) (known s) y.mode) memories
      (subst (λ (k : Known). IsPlaced (memory_wide w.memories) k y.mode) (known_whole 12 s (omega arith) b) placed) in
      let told : (after (data_flags s) (λ flags. data_form features s flags)).spells bytes x = room_spells _ spelled in
      let same = data_flag features s x.0 told.1 x.1 told.4 in (
        b,
        with_room s spaces.Data lower
            (subst (λ (n : ℕ). (data_flags s).rules n) same (data_flags_go s x.1 goes_there), subst (λ (n : ℕ). (data_form features s n).rules x.1) same (data_form_go features s x.1 goes_there placed_there)),
      )
