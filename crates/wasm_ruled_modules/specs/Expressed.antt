-- Lemmas: constant expressions of a module that is read name what is known at their point of the file.
use Rattle.std.specs.Prelude.{ℕ, ◌+◌, ◌<◌, ◌≤◌, ◌≡◌, Bool, true, List, [], ◌∷◌, ◌++◌, length, filter, Option, Some, None, refl}
use Rattle.std.proofs.Common.{ap, sym, ◌∙◌, subst, arith, inl, inr}
use Rattle.std.proofs.lemmas.List.{append-nil, get_or_append_left}
use Rattle.std.proofs.lemmas.List.Elements.{filter-append}
use Rattle.wasm_features.specs.declared.WasmFeatures.{WasmFeatures}
use Rattle.walrus_forms.specs.declared.value.RefType.{RefType}
use Rattle.wasm_operators.specs.declared.op_code.OpCode.{OpCode}
use Rattle.wasm_operators.specs.Operators.{Seen}
use Rattle.wasm_formats.specs.Stops.{ConstExpr}
use Rattle.wasm_formats.specs.Joined.{after}
use Rattle.wasm_formats.specs.Lists.{SpellsEntries, EntryRules}
use Rattle.wasm_formats.specs.Until.{SpellsUntil, UntilRules}
use Rattle.wasm_formats.specs.Led.{led}
use Rattle.wasm_module_rules.specs.wasm_modules.wasm_body_grammar.wasm_grammar.Modules.{Expr, Own, Imported, Function, Table, Memory, Global, Mode, Passive, Declared, Active, Element, Segment, Module, empty}
use Rattle.wasm_module_rules.specs.wasm_modules.wasm_body_grammar.wasm_grammar.Exprs.{Known, is_constant, operator, end_apart, takes_some, read_wants, some_operators, expr, offset_test, offset}
use Rattle.wasm_module_rules.specs.wasm_modules.wasm_body_grammar.wasm_grammar.States.{State, types_of, known, type_count}
use Rattle.wasm_module_rules.specs.wasm_modules.wasm_sections.TypeSection.{GroupEntry, add_group}
use Rattle.wasm_module_rules.specs.wasm_modules.wasm_sections.Entities.{global_type, Entity, FunctionOf, TableOf, MemoryOf, GlobalOf, TagOf, add_entity, import_of, with_import, table_of, memory_of, global_of, with_function, with_table, with_memory, with_global, no_body, table_type, table_apart, table_some, table_wants, initialised, TableEntry, table_entry, add_table, GlobalEntry, global_entry, add_global, ImportEntry, add_import}
use Rattle.wasm_module_rules.specs.wasm_modules.wasm_sections.Segments.{wide_table, wide_memory, into_table, into_memory, named_table, named_memory, pass, functions, expressions, kind_of_functions, typed, contents, ElementForm, ActiveFunctions, PassiveFunctions, FunctionsInto, DeclaredFunctions, ActiveExpressions, PassiveExpressions, ExpressionsInto, DeclaredExpressions, once_0, once_2, once_4, once_5, once_6, once_7, element_flags, element_form, ElementEntry, element_entry, add_element, element_of, DataForm, ActiveData, PassiveData, DataInto, data_once_0, data_once_2, data_flags, data_form, DataEntry, data_entry, add_data, segment_of}
use Rattle.wasm_module_rules.specs.Linked.{Each, GoesInto}
use Rattle.wasm_module_rules.specs.Keeps.{each_push, each_later, goes_later, one_more, must_holds, room_rules}
use Rattle.wasm_module_rules.specs.Reading.{element_number, data_number, element_flag, data_flag, element_go, data_go}
use Rattle.wasm_ruled_modules.specs.Rules.{AreKnown, IsExpr, AreExprs, IsInit, knows, IsPlaced, table_wide, memory_wide, ItemsKnown, is_imported, knows_imported, AreExpressed, own_init}
use Rattle.wasm_ruled_modules.specs.Keeping.{EntriesKeepAt}
use Rattle.wasm_ruled_modules.specs.Counted.{types_more}
use Rattle.wasm_ruled_modules.specs.Named.{room_spells}
use Rattle.wasm_ruled_modules.specs.More.{Grows, tables_more, offsets_more, segments_more, lists_more, globals_more, globals_push}

-- ---- what reads as a constant expression

known_is : (features : WasmFeatures) (k : Known) (ops : Expr) (bytes : List ℕ) → SpellsUntil 0x0b (operator features k) (end_apart features) (takes_some features) (read_wants features k) bytes ops
    → UntilRules 0x0b (operator features k) (end_apart features) (takes_some features) (read_wants features k) ops → AreKnown k ops
known_is features k [] bytes h r = tt
known_is features k (op ∷ ops) bytes h r =
    let told = h.3 in
    let parts = told.2 in
    let first = parts.3 in
    let tests = r.0 in (
      subst (λ (code : OpCode). is_constant code ≡ true) (ap (λ (s : Seen). s.code) told.1) (must_holds (is_constant told.0.0) ConstExpr first.1),
      tests.1,
      known_is features k ops h.1 h.4 r.1,
    )

expr_is : (features : WasmFeatures) (k : Known) (bytes : List ℕ) (ops : Expr) → (expr features k).spells bytes ops → (expr features k).rules ops → IsExpr k ops
expr_is features k bytes ops h r = (known_is features k ops bytes h r.0, must_holds (some_operators ops) ConstExpr r.1)

offset_is : (features : WasmFeatures) (wide : Bool) (k : Known) (bytes : List ℕ) (ops : Expr) → (offset features wide k).spells bytes ops → (offset features wide k).rules ops
    → IsExpr k ops × (offset_test wide k ops ≡ None)
offset_is features wide k bytes ops h r = (expr_is features k bytes ops h r.0, r.1)

entries_are : (features : WasmFeatures) (s : State) (es : List Expr) (bytes : List ℕ) → SpellsEntries pass (λ _. expr features (known s)) tt bytes es → EntryRules pass (λ _. expr features (known s)) tt es
    → AreExprs (known s) es
entries_are features s [] bytes h r = tt
entries_are features s (e ∷ es) bytes h r = (expr_is features (known s) h.0 e h.3 r.0, entries_are features s es h.1 h.4 r.1)

exprs_are : (features : WasmFeatures) (s : State) (es : List Expr) (bytes : List ℕ) → (expressions features s).spells bytes es → (expressions features s).rules es → AreExprs (known s) es
exprs_are features s es bytes h r = entries_are features s es h.1 h.4 r

-- ---- segments

abbrev PlacedAndKnown : State → ElementForm → Type 0
PlacedAndKnown s e = IsPlaced (table_wide s.filled.tables) (known s) (element_of e).mode × ItemsKnown (known s) (element_of e).items

form_is : (features : WasmFeatures) (s : State) (bytes : List ℕ) (e : ElementForm) → (element_form features s (element_number e)).spells bytes e → (element_form features s (element_number e)).rules e → PlacedAndKnown s e
form_is features s bytes (ActiveFunctions x) h r =
    let k = subst (λ (y : Expr × List ℕ). (after (into_table features s 0) (λ _. functions s)).spells bytes y) (once_0 h.0 x h.1) h.2 in
    let q = r x refl in (offset_is features (table_wide s.filled.tables 0) (known s) k.0 x.0 k.3 q.0, tt)
form_is features s bytes (PassiveFunctions x) h r = (tt, tt)
form_is features s bytes (FunctionsInto x) h r =
    let k = subst (λ (y : (ℕ × Expr) × (Unit {0} × List ℕ)). (after (named_table features s) (λ _. kind_of_functions s)).spells bytes y) (once_2 h.0 x h.1) h.2 in
    let n = k.3 in let q = r x refl in let t = q.0 in (offset_is features (table_wide s.filled.tables x.0.0) (known s) n.1 x.0.1 n.4 t.1, tt)
form_is features s bytes (DeclaredFunctions x) h r = (tt, tt)
form_is features s bytes (ActiveExpressions x) h r =
    let k = subst (λ (y : Expr × List Expr). (after (into_table features s 0) (λ _. expressions features s)).spells bytes y) (once_4 h.0 x h.1) h.2 in
    let q = r x refl in (offset_is features (table_wide s.filled.tables 0) (known s) k.0 x.0 k.3 q.0, exprs_are features s x.1 k.1 k.4 q.1)
form_is features s bytes (PassiveExpressions x) h r =
    let k = subst (λ (y : RefType × List Expr). (typed features s).spells bytes y) (once_5 h.0 x h.1) h.2 in
    let q = r x refl in (tt, exprs_are features s x.1 k.1 k.4 q.1)
form_is features s bytes (ExpressionsInto x) h r =
    let k = subst (λ (y : (ℕ × Expr) × (RefType × List Expr)). (after (named_table features s) (λ _. typed features s)).spells bytes y) (once_6 h.0 x h.1) h.2 in
    let n = k.3 in let t = k.4 in let q = r x refl in let a = q.0 in let b = q.1 in
    (offset_is features (table_wide s.filled.tables x.0.0) (known s) n.1 x.0.1 n.4 a.1, exprs_are features s x.1.1 t.1 t.4 b.1)
form_is features s bytes (DeclaredExpressions x) h r =
    let k = subst (λ (y : RefType × List Expr). (typed features s).spells bytes y) (once_7 h.0 x h.1) h.2 in
    let q = r x refl in (tt, exprs_are features s x.1 k.1 k.4 q.1)

segment_is : (features : WasmFeatures) (s : State) (bytes : List ℕ) (e : DataForm) → (data_form features s (data_number e)).spells bytes e → (data_form features s (data_number e)).rules e
    → IsPlaced (memory_wide s.filled.memories) (known s) (segment_of e).mode
segment_is features s bytes (ActiveData x) h r =
    let k = subst (λ (y : Expr × List ℕ). (after (into_memory features s 0) (λ _. contents)).spells bytes y) (data_once_0 h.0 x h.1) h.2 in
    let q = r x refl in offset_is features (memory_wide s.filled.memories 0) (known s) k.0 x.0 k.3 q.0
segment_is features s bytes (PassiveData x) h r = tt
segment_is features s bytes (DataInto x) h r =
    let k = subst (λ (y : (ℕ × Expr) × List ℕ). (after (named_memory features s) (λ _. contents)).spells bytes y) (data_once_2 h.0 x h.1) h.2 in
    let n = k.3 in let q = r x refl in let t = q.0 in offset_is features (memory_wide s.filled.memories x.0.0) (known s) n.1 x.0.1 n.4 t.1

-- ---- one more table or memory doesn't change what others are

each_both : {A : Type 0} (P Q : A → Type 0) (xs : List (Option A)) → Each P xs → Each Q xs → Each (λ x. P x × Q x) xs
each_both P Q [] h k = tt
each_both P Q (None ∷ xs) h k = each_both P Q xs h k
each_both P Q (Some x ∷ xs) h k = ((h.0, k.0), each_both P Q xs h.1 k.1)

placed_table : (tables : List (Option Table)) (x : Table) (k : Known) (mode : Mode) → GoesInto (length tables) mode → IsPlaced (table_wide tables) k mode → IsPlaced (table_wide (tables ++ Some x ∷ [])) k mode
placed_table tables x k (Active n offset) lt h =
    (h.0, subst (λ (t : Option Table). offset_test (wide_table t) k offset ≡ None) (sym (get_or_append_left tables (Some x ∷ []) None n lt)) h.1)
placed_table tables x k Passive lt h = tt
placed_table tables x k Declared lt h = tt

placed_memory : (memories : List (Option Memory)) (x : Memory) (k : Known) (mode : Mode) → GoesInto (length memories) mode → IsPlaced (memory_wide memories) k mode → IsPlaced (memory_wide (memories ++ Some x ∷ [])) k mode
placed_memory memories x k (Active n offset) lt h =
    (h.0, subst (λ (t : Option Memory). offset_test (wide_memory t) k offset ≡ None) (sym (get_or_append_left memories (Some x ∷ []) None n lt)) h.1)
placed_memory memories x k Passive lt h = tt
placed_memory memories x k Declared lt h = tt

-- active segments go into tables and memories that are there
pub record Into (m : Module) : Type 0 where
  pub elements : Each (λ (e : Element). GoesInto (length m.tables) e.mode) m.elements
  pub segments : Each (λ (x : Segment). GoesInto (length m.memories) x.mode) m.segments

abbrev Standing : Module → Type 0
Standing m = Into m × AreExpressed m

-- at a place of the order before that of globals all globals are imported
abbrev pub AllImported : ℕ → Module → Type 0
AllImported place m = place < 7 → filter is_imported m.globals ≡ m.globals

abbrev pub Stands : ℕ → Module → Type 0
Stands place m = Standing m × AllImported place m

pub stands_later : (a b : ℕ) (m : Module) → a ≤ b → Stands a m → Stands b m
stands_later a b m le h = (h.0, λ lt. h.1 (omega (arith, le, lt)))

-- ---- items

group_stands : (s : State) (x : GroupEntry) → Standing s.filled → Standing (add_group s x).filled
group_stands s x h =
    let i = h.0 in
    let e = h.1 in
    let le : length (types_of s.filled) ≤ length (types_of (add_group s x).filled) = omega (arith, types_more s x) in
    let t : Grows (knows_imported s.filled) (knows_imported (add_group s x).filled) = record { types = le; functions = omega arith; more = []; globals = sym (append-nil (filter is_imported s.filled.globals)) } in
    let g : Grows (knows s.filled) (knows (add_group s x).filled) = record { types = le; functions = omega arith; more = []; globals = sym (append-nil s.filled.globals) } in
    (record { elements = i.elements; segments = i.segments }, record { tables = tables_more (knows_imported s.filled) (knows_imported (add_group s x).filled) t s.filled.tables e.tables; globals = globals_more (length (types_of s.filled)) (length s.filled.functions) (length (types_of (add_group s x).filled)) (length s.filled.functions) le (omega arith) [] s.filled.globals e.globals; offsets = offsets_more (table_wide s.filled.tables) (knows s.filled) (knows (add_group s x).filled) g s.filled.elements e.offsets; items = lists_more (knows s.filled) (knows (add_group s x).filled) g s.filled.elements e.items; segments = segments_more (memory_wide s.filled.memories) (knows s.filled) (knows (add_group s x).filled) g s.filled.segments e.segments })

function_stands : (s : State) (x : Function) → Standing s.filled → Standing (with_function s x).filled
function_stands s x h =
    let i = h.0 in
    let e = h.1 in
    let le = one_more s.filled.functions (Some x) in
    let t : Grows (knows_imported s.filled) (knows_imported (with_function s x).filled) = record { types = omega arith; functions = le; more = []; globals = sym (append-nil (filter is_imported s.filled.globals)) } in
    let g : Grows (knows s.filled) (knows (with_function s x).filled) = record { types = omega arith; functions = le; more = []; globals = sym (append-nil s.filled.globals) } in
    (record { elements = i.elements; segments = i.segments }, record { tables = tables_more (knows_imported s.filled) (knows_imported (with_function s x).filled) t s.filled.tables e.tables; globals = globals_more (length (types_of s.filled)) (length s.filled.functions) (length (types_of s.filled)) (length (s.filled.functions ++ Some x ∷ [])) (omega arith) le [] s.filled.globals e.globals; offsets = offsets_more (table_wide s.filled.tables) (knows s.filled) (knows (with_function s x).filled) g s.filled.elements e.offsets; items = lists_more (knows s.filled) (knows (with_function s x).filled) g s.filled.elements e.items; segments = segments_more (memory_wide s.filled.memories) (knows s.filled) (knows (with_function s x).filled) g s.filled.segments e.segments })

global_stands : (s : State) (x : Global) → IsInit (knows s.filled) (own_init x.origin) → Standing s.filled → Standing (with_global s x).filled
global_stands s x p h =
    let i = h.0 in
    let e = h.1 in
    let t : Grows (knows_imported s.filled) (knows_imported (with_global s x).filled) =
    record { types = omega arith; functions = omega arith; more = filter is_imported (Some x ∷ []); globals = filter-append is_imported s.filled.globals (Some x ∷ []) } in
    let g : Grows (knows s.filled) (knows (with_global s x).filled) = record { types = omega arith; functions = omega arith; more = Some x ∷ []; globals = refl } in
    (record { elements = i.elements; segments = i.segments }, record { tables = tables_more (knows_imported s.filled) (knows_imported (with_global s x).filled) t s.filled.tables e.tables; globals = globals_push (length (types_of s.filled)) (length s.filled.functions) [] s.filled.globals (Some x) e.globals p; offsets = offsets_more (table_wide s.filled.tables) (knows s.filled) (knows (with_global s x).filled) g s.filled.elements e.offsets; items = lists_more (knows s.filled) (knows (with_global s x).filled) g s.filled.elements e.items; segments = segments_more (memory_wide s.filled.memories) (knows s.filled) (knows (with_global s x).filled) g s.filled.segments e.segments })

table_stands : (s : State) (x : Table) → IsInit (knows_imported s.filled) x.init → Standing s.filled → Standing (with_table s x).filled
table_stands s x p h =
    let tables = s.filled.tables in
    let elements = s.filled.elements in
    let i = h.0 in
    let e = h.1 in
    let both = each_both (λ (e : Element). GoesInto (length tables) e.mode) (λ (e : Element). IsPlaced (table_wide tables) (knows s.filled) e.mode) elements i.elements e.offsets in (
      record { elements = each_later (λ (e : Element). GoesInto (length tables) e.mode) (λ (e : Element). GoesInto (length (tables ++ Some x ∷ [])) e.mode) (λ e q. goes_later (length tables) (length (tables ++ Some x ∷ [])) e.mode (one_more tables (Some x)) q) elements i.elements; segments = i.segments },
      record { tables = each_push (λ (t : Table). IsInit (knows_imported s.filled) t.init) tables x e.tables p; globals = e.globals; offsets = each_later (λ (e : Element). GoesInto (length tables) e.mode × IsPlaced (table_wide tables) (knows s.filled) e.mode) (λ (e : Element). IsPlaced (table_wide (tables ++ Some x ∷ [])) (knows s.filled) e.mode) (λ e q. placed_table tables x (knows s.filled) e.mode q.0 q.1) elements both; items = e.items; segments = e.segments },
    )

memory_stands : (s : State) (x : Memory) → Standing s.filled → Standing (with_memory s x).filled
memory_stands s x h =
    let memories = s.filled.memories in
    let segments = s.filled.segments in
    let i = h.0 in
    let e = h.1 in
    let both = each_both (λ (e : Segment). GoesInto (length memories) e.mode) (λ (e : Segment). IsPlaced (memory_wide memories) (knows s.filled) e.mode) segments i.segments e.segments in (
      record { elements = i.elements; segments = each_later (λ (e : Segment). GoesInto (length memories) e.mode) (λ (e : Segment). GoesInto (length (memories ++ Some x ∷ [])) e.mode) (λ e q. goes_later (length memories) (length (memories ++ Some x ∷ [])) e.mode (one_more memories (Some x)) q) segments i.segments },
      record { tables = e.tables; globals = e.globals; offsets = e.offsets; items = e.items; segments = each_later (λ (e : Segment). GoesInto (length memories) e.mode × IsPlaced (memory_wide memories) (knows s.filled) e.mode) (λ (e : Segment). IsPlaced (memory_wide (memories ++ Some x ∷ [])) (knows s.filled) e.mode) (λ e q. placed_memory memories x (knows s.filled) e.mode q.0 q.1) segments both },
    )

-- ---- entries

entity_stands : (s : State) (n : ℕ) (e : Entity) → Standing s.filled → Standing (add_entity s n e).filled
entity_stands s n (FunctionOf ty) h = function_stands (record s { imported = s.imported + 1 }) (record { ty = ty; origin = Imported n }) h
entity_stands s n (TableOf ty) h = table_stands s (table_of ty None (Some n)) tt h
entity_stands s n (MemoryOf ty) h = memory_stands s (memory_of ty (Some n)) h
entity_stands s n (GlobalOf ty) h = global_stands s (global_of ty (Imported n)) tt h
entity_stands s n (TagOf ty) h = (let i = h.0 in let e = h.1 in (record { elements = i.elements; segments = i.segments }, record { tables = e.tables; globals = e.globals; offsets = e.offsets; items = e.items; segments = e.segments }))

table_entry_stands : (features : WasmFeatures) (s : State) (bytes : List ℕ) (x : TableEntry) → (table_entry features s).spells bytes x → (table_entry features s).rules x → Standing s.filled
    → filter is_imported s.filled.globals ≡ s.filled.globals → Standing (add_table s x).filled
table_entry_stands features s bytes (inl x) h r p is =
    let spelled : (led 0x40 (initialised features s) (table_type features s) (table_apart features s) (table_some features s) (table_wants features s)).spells bytes (inl x) = room_spells _ h in
    let one = spelled.2 in let two = one.4 in
    let q : (initialised features s).rules x = room_rules _ r in let t = q.1 in
    let e = expr_is features (known s) two.1 x.1.1 two.4 t.1 in
    table_stands s (table_of x.1.0 (Some x.1.1) None)
    (subst (λ (gs : List (Option Global)). IsExpr (record { types = type_count s; functions = length s.filled.functions; globals = gs }) x.1.1) (sym is) e) p
table_entry_stands features s bytes (inr ty) h r p is = table_stands s (table_of ty None None) tt p

global_entry_stands : (features : WasmFeatures) (s : State) (bytes : List ℕ) (x : GlobalEntry) → (global_entry features s).spells bytes x → (global_entry features s).rules x → Standing s.filled → Standing (add_global s x).filled
global_entry_stands features s bytes x h r p =
    let spelled : (after (global_type features s) (λ _. expr features (known s))).spells bytes x = room_spells _ h in
    let q : (after (global_type features s) (λ _. expr features (known s))).rules x = room_rules _ r in
    global_stands s (global_of x.0 (Own x.1)) (expr_is features (known s) spelled.1 x.1 spelled.4 q.1) p

element_entry_stands : (features : WasmFeatures) (s : State) (bytes : List ℕ) (x : ElementEntry) → (element_entry features s).spells bytes x → (element_entry features s).rules x → Standing s.filled → Standing (add_element s x).filled
element_entry_stands features s bytes x h r p =
    let spelled : (after (element_flags s) (λ flags. element_form features s flags)).spells bytes x = room_spells _ h in
    let q : (after (element_flags s) (λ flags. element_form features s flags)).rules x = room_rules _ r in
    let same = sym (element_flag features s x.0 spelled.1 x.1 spelled.4) in
    let rules = subst (λ (n : ℕ). (element_form features s n).rules x.1) same q.1 in
    let is = form_is features s spelled.1 x.1 (subst (λ (n : ℕ). (element_form features s n).spells spelled.1 x.1) same spelled.4) rules in
    let goes = element_go features s x.1 (subst (λ (n : ℕ). (element_flags s).rules n) same q.0) rules in
    let i = p.0 in
    let e = p.1 in (
      record { elements = each_push (λ (e : Element). GoesInto (length s.filled.tables) e.mode) s.filled.elements (element_of x.1) i.elements goes; segments = i.segments },
      record { tables = e.tables; globals = e.globals; offsets = each_push (λ (e : Element). IsPlaced (table_wide s.filled.tables) (knows s.filled) e.mode) s.filled.elements (element_of x.1) e.offsets is.0; items = each_push (λ (e : Element). ItemsKnown (knows s.filled) e.items) s.filled.elements (element_of x.1) e.items is.1; segments = e.segments },
    )

data_entry_stands : (features : WasmFeatures) (s : State) (bytes : List ℕ) (x : DataEntry) → (data_entry features s).spells bytes x → (data_entry features s).rules x → Standing s.filled → Standing (add_data s x).filled
data_entry_stands features s bytes x h r p =
    let spelled : (after (data_flags s) (λ flags. data_form features s flags)).spells bytes x = room_spells _ h in
    let q : (after (data_flags s) (λ flags. data_form features s flags)).rules x = room_rules _ r in
    let same = sym (data_flag features s x.0 spelled.1 x.1 spelled.4) in
    let rules = subst (λ (n : ℕ). (data_form features s n).rules x.1) same q.1 in
    let is = segment_is features s spelled.1 x.1 (subst (λ (n : ℕ). (data_form features s n).spells spelled.1 x.1) same spelled.4) rules in
    let goes = data_go features s x.1 (subst (λ (n : ℕ). (data_flags s).rules n) same q.0) rules in
    let i = p.0 in
    let e = p.1 in (
      record { elements = i.elements; segments = each_push (λ (e : Segment). GoesInto (length s.filled.memories) e.mode) s.filled.segments (segment_of x.1) i.segments goes },
      record { tables = e.tables; globals = e.globals; offsets = e.offsets; items = e.items; segments = each_push (λ (e : Segment). IsPlaced (memory_wide s.filled.memories) (knows s.filled) e.mode) s.filled.segments (segment_of x.1) e.segments is },
    )

-- ---- globals are imported before any is the module's own

import_imported : (s : State) (n : ℕ) (e : Entity) → filter is_imported s.filled.globals ≡ s.filled.globals → filter is_imported (add_entity s n e).filled.globals ≡ (add_entity s n e).filled.globals
import_imported s n (FunctionOf ty) h = h
import_imported s n (TableOf ty) h = h
import_imported s n (MemoryOf ty) h = h
import_imported s n (GlobalOf ty) h =
    filter-append is_imported s.filled.globals (Some (global_of ty (Imported n)) ∷ []) ∙ ap (λ (gs : List (Option Global)). gs ++ Some (global_of ty (Imported n)) ∷ []) h
import_imported s n (TagOf ty) h = h

table_imported : (s : State) (x : TableEntry) → AllImported 4 s.filled → AllImported 4 (add_table s x).filled
table_imported s (inl x) h = h
table_imported s (inr ty) h = h

import_stands : (s : State) (x : ImportEntry) → Standing s.filled → Standing (add_import s x).filled
import_stands s x h = entity_stands (with_import s (import_of s x)) (length s.filled.imports) x.1.1.1 (let i = h.0 in let e = h.1 in (record { elements = i.elements; segments = i.segments }, record { tables = e.tables; globals = e.globals; offsets = e.offsets; items = e.items; segments = e.segments }))

pub expressions_kept : (features : WasmFeatures) → EntriesKeepAt features Stands
expressions_kept features = record {
  customs = λ place s x h. ((let k = h.0 in (let i = k.0 in let e = k.1 in (record { elements = i.elements; segments = i.segments }, record { tables = e.tables; globals = e.globals; offsets = e.offsets; items = e.items; segments = e.segments }))), h.1);
  groups = λ s bytes x _ r h. (group_stands s x h.0, h.1);
  imports = λ s bytes x _ r h. (import_stands s x h.0, λ lt. import_imported (with_import s (import_of s x)) (length s.filled.imports) x.1.1.1 (h.1 lt));
  functions = λ s bytes x _ r h. (function_stands s (record { ty = x; origin = Own no_body }) h.0, h.1);
  tables = λ s bytes x w r h. (table_entry_stands features s bytes x w r h.0 (h.1 (omega arith)), table_imported s x h.1);
  memories = λ s bytes x _ r h. (memory_stands s (memory_of x None) h.0, h.1);
  tags = λ s bytes x _ r h. ((let k = h.0 in (let i = k.0 in let e = k.1 in (record { elements = i.elements; segments = i.segments }, record { tables = e.tables; globals = e.globals; offsets = e.offsets; items = e.items; segments = e.segments }))), h.1);
  globals = λ s bytes x w r h. (global_entry_stands features s bytes x w r h.0, λ lt. absurd (omega (arith, lt)));
  exports = λ s bytes x _ r h. ((let k = h.0 in (let i = k.0 in let e = k.1 in (record { elements = i.elements; segments = i.segments }, record { tables = e.tables; globals = e.globals; offsets = e.offsets; items = e.items; segments = e.segments }))), h.1);
  start = λ s n r h. ((let k = h.0 in (let i = k.0 in let e = k.1 in (record { elements = i.elements; segments = i.segments }, record { tables = e.tables; globals = e.globals; offsets = e.offsets; items = e.items; segments = e.segments }))), h.1);
  elements = λ s bytes x w r h. (element_entry_stands features s bytes x w r h.0, h.1);
  segments = λ s bytes x w r h. (data_entry_stands features s bytes x w r h.0, h.1);
}

pub none_stands : Stands 0 empty
none_stands = ((record { elements = tt; segments = tt }, record { tables = tt; globals = tt; offsets = tt; items = tt; segments = tt }), λ lt. refl)
