-- Lemmas: items within their limits have spellings.
use Rattle.std.specs.Prelude.{ℕ, ◌+◌, ◌<◌, ◌^◌, ◌≡◌, ◌==◌, ◌&&◌, Bool, true, false, not, List, [], ◌∷◌, ◌++◌, length, map, filter, Option, Some, None, refl, if◌then◌else◌}
use Rattle.std.specs.List.{AllByRecursion, cons_option, filter_map}
use Rattle.std.specs.Option.{is_some}
use Rattle.std.proofs.Common.{ap, sym, subst, arith}
use Rattle.walrus_forms.specs.declared.value.RefType.{RefType}
use Rattle.wasm_features.specs.declared.WasmFeatures.{WasmFeatures}
use Rattle.wasm_formats.specs.Bytes.{either_type}
use Rattle.wasm_formats.specs.Stops.{ConstExpr}
use Rattle.wasm_formats.specs.declared.fault.Space.{Space}
use Rattle.wasm_formats.specs.declared.fault.Space.TheVariants as spaces
use Rattle.wasm_format_bytes.specs.Lists.{EntriesFit}
use Rattle.wasm_operators.specs.declared.entry.Kind.{Kind as ItemKind}
use Rattle.wasm_operators.specs.Bytes.{operator_bytes, unsigned_bytes}
use Rattle.wasm_operators.specs.ItemSpellings.{SpellsForms}
use Rattle.wasm_operators.specs.Operators.{Seen}
use Rattle.wasm_operators.specs.Ranges.{OperatorFits}
use Rattle.wasm_operators.proofs.Operators.{operator_fits}
use Rattle.wasm_operators.specs.Vecs.{parts_small}
use Rattle.wasm_format_bytes.specs.Writers.{after_writer, u32_writer}
use Rattle.wasm_grammar.specs.Exprs.{Known, expr, forms_of, is_constant}
use Rattle.wasm_grammar.specs.Modules.{Active, Declared, Element, Elements, Expr, Expressions, Functions, Global, Imported, Memory, Mode, Origin, Own, Passive, Segment, Table, Tag}
use Rattle.wasm_grammar.specs.States.{has_room, known, nothing_yet}
use Rattle.wasm_grammar.specs.Values.{has_maximum, has_page_size, index, is_wide, must}
use Rattle.wasm_grammar_bytes.specs.Values.{optional_size_writer}
use Rattle.wasm_sections.specs.Segments.{ActiveData, ActiveExpressions, ActiveFunctions, DataEntry, DataInto, ElementEntry, ExpressionsInto, FunctionsInto, pass}
use Rattle.wasm_section_bytes.specs.Entries.{global_type_writer, global_writer, index_writer, initialised_writer, memory_writer, page_size_writer, table_type_writer, table_writer, tag_type_writer, tag_writer}
use Rattle.wasm_section_bytes.specs.Exprs.{constant_writer, expr_writer}
use Rattle.wasm_section_bytes.specs.Flags.{bytes_entry, entry_of_element, entry_of_segment, expressions_entry, functions_entry, is_funcref, items_entry}
use Rattle.wasm_section_bytes.specs.Segments.{contents_writer, data_flags_writer, data_form_writer, data_writer, element_flags_writer, element_form_writer, element_writer, sized_bytes}
use Rattle.wasm_module_bytes.specs.Due.{bit, global_from, memory_from, space_kind, table_from}
use Rattle.wasm_module_rules.specs.Linked.{Each}
use Rattle.wasm_ruled_modules.specs.Rules.{AreExprs, AreKnown, GlobalsSee, IsInit, IsPlaced, ItemsKnown, own_init}
use Rattle.wasm_spelled_modules.specs.Spelled.{InitIsSpelled, IsSpelled, ModeIsSpelled, OriginIsSpelled}
use Rattle.wasm_canonical.specs.Due.{global_entry, if_own, items_in, of_init, own_global, own_memory, own_table, own_tag}
use Rattle.wasm_spelled_parts_laws.specs.Items.{ElementIn, GlobalIn, ItemsIn, MaximumIn, MemoryIn, NumberIn, RefIn, SegmentIn, SizeIn, TableIn, ValueIn}
use Rattle.wasm_spelled_parts_laws.specs.Parts.{ItemsNumbered, ModeNumbered}
use Rattle.wasm_spelled_parts_laws.proofs.Small.{AreBytes, bytes_joined, operator_small, small_bytes, u32_bytes}
use Rattle.wasm_spelled_parts_laws.proofs.Values.{ref_spelled, value_spelled}

-- the same, whether there is room or not
pub in_room : {P : Type 0} (room : Bool) → P → either_type room P P
in_room true p = p
in_room false p = p

-- ---- lists

pub all_items : {A : Type 0} (P : A → Type 0) (xs : List (Option A)) → Each P xs → AllByRecursion P (items_in xs)
all_items P [] h = tt
all_items P (None ∷ xs) h = all_items P xs h
all_items P (Some x ∷ xs) h = (h.0, all_items P xs h.1)

pub all_filtered : {A : Type 0} (P : A → Type 0) (test : A → Bool) (xs : List A) → AllByRecursion P xs → AllByRecursion P (filter test xs)
all_filtered P test [] h = tt
all_filtered {A} P test (x ∷ xs) h = go (test x) (all_filtered P test xs h.1)
  where
    go : (b : Bool) → AllByRecursion P (filter test xs) → AllByRecursion P (if b then x ∷ filter test xs else filter test xs)
    go true rest = (h.0, rest)
    go false rest = rest

pub all_mapped : {A B : Type 0} (P : A → Type 0) (Q : B → Type 0) (f : A → B) → ((x : A) → P x → Q (f x)) → (xs : List A) → AllByRecursion P xs → AllByRecursion Q (map f xs)
all_mapped P Q f one [] h = tt
all_mapped P Q f one (x ∷ xs) h = (one x h.0, all_mapped P Q f one xs h.1)

-- what holds of what is made of an item holds of all that is
abbrev pub IsMade : {B : Type 0} → (B → Type 0) → Option B → Type 0
IsMade Q None = Unit {0}
IsMade Q (Some y) = Q y

pub all_own : {A B : Type 0} (P : A → Type 0) (Q : B → Type 0) (f : Option A → Option B) → IsMade Q (f None) → ((x : A) → P x → IsMade Q (f (Some x))) → (xs : List (Option A)) → Each P xs → AllByRecursion Q (filter_map f xs)
all_own P Q f none one [] h = tt
all_own {A} {B} P Q f none one (None ∷ xs) h = go (f None) none (all_own P Q f none one xs h)
  where
    go : (o : Option B) → IsMade Q o → AllByRecursion Q (filter_map f xs) → AllByRecursion Q (cons_option o (filter_map f xs))
    go None k rest = rest
    go (Some y) k rest = (k, rest)
all_own {A} {B} P Q f none one (Some x ∷ xs) h = go (f (Some x)) (one x h.0) (all_own P Q f none one xs h.1)
  where
    go : (o : Option B) → IsMade Q o → AllByRecursion Q (filter_map f xs) → AllByRecursion Q (cons_option o (filter_map f xs))
    go None k rest = rest
    go (Some y) k rest = (k, rest)

pub each_both : {A : Type 0} (P Q : A → Type 0) (xs : List (Option A)) → Each P xs → Each Q xs → Each (λ (x : A). P x × Q x) xs
each_both P Q [] h k = tt
each_both P Q (None ∷ xs) h k = each_both P Q xs h k
each_both P Q (Some x ∷ xs) h k = ((h.0, k.0), each_both P Q xs h.1 k.1)

-- ---- flags of limits

table_flags : (m w : Bool) → (bit 1 m + bit 4 w < 256) × (has_maximum (bit 1 m + bit 4 w) ≡ m) × (is_wide (bit 1 m + bit 4 w) ≡ w)
table_flags true true = (omega arith, refl, refl)
table_flags true false = (omega arith, refl, refl)
table_flags false true = (omega arith, refl, refl)
table_flags false false = (omega arith, refl, refl)

memory_flags : (m s w p : Bool) → (let flags = bit 1 m + bit 2 s + bit 4 w + bit 8 p in (flags < 256) × (has_maximum flags ≡ m) × (is_wide flags ≡ w) × (has_page_size flags ≡ p))
memory_flags true true true true = (omega arith, refl, refl, refl)
memory_flags true true true false = (omega arith, refl, refl, refl)
memory_flags true true false true = (omega arith, refl, refl, refl)
memory_flags true true false false = (omega arith, refl, refl, refl)
memory_flags true false true true = (omega arith, refl, refl, refl)
memory_flags true false true false = (omega arith, refl, refl, refl)
memory_flags true false false true = (omega arith, refl, refl, refl)
memory_flags true false false false = (omega arith, refl, refl, refl)
memory_flags false true true true = (omega arith, refl, refl, refl)
memory_flags false true true false = (omega arith, refl, refl, refl)
memory_flags false true false true = (omega arith, refl, refl, refl)
memory_flags false true false false = (omega arith, refl, refl, refl)
memory_flags false false true true = (omega arith, refl, refl, refl)
memory_flags false false true false = (omega arith, refl, refl, refl)
memory_flags false false false true = (omega arith, refl, refl, refl)
memory_flags false false false false = (omega arith, refl, refl, refl)

pub bit_small : (b : Bool) → bit 1 b < 256
bit_small true = omega arith
bit_small false = omega arith

pub kind_small : (space : Space) → space_kind space < 256
kind_small spaces.Function = omega arith
kind_small spaces.Table = omega arith
kind_small spaces.Memory = omega arith
kind_small spaces.Global = omega arith
kind_small spaces.Tag = omega arith
kind_small spaces.Type = omega arith
kind_small spaces.Element = omega arith
kind_small spaces.Data = omega arith
kind_small spaces.Local = omega arith
kind_small spaces.Label = omega arith

size_fits : (flags : ℕ) (wide : Bool) (n : ℕ) → is_wide flags ≡ wide → SizeIn wide n → SizeIn (is_wide flags) n
size_fits flags wide n e h = subst (λ (b : Bool). SizeIn b n) (sym e) h

maximum_fits : (flags : ℕ) (wide : Bool) (o : Option ℕ) → has_maximum flags ≡ is_some o → is_wide flags ≡ wide → MaximumIn wide o → (optional_size_writer (has_maximum flags) flags).fits o
maximum_fits flags wide o e f h = subst (λ (b : Bool). either_type b ((n : ℕ) × (Some n ≡ o) × SizeIn (is_wide flags) n) (None ≡ o)) (sym e) (go o h)
  where
    go : (o : Option ℕ) → MaximumIn wide o → either_type (is_some o) ((n : ℕ) × (Some n ≡ o) × SizeIn (is_wide flags) n) (None ≡ o)
    go None h = refl
    go (Some n) h = (n, refl, size_fits flags wide n f h)

page_fits : (there : Bool) (o : Option ℕ) → there ≡ is_some o → NumberIn o → (page_size_writer there).fits o
page_fits there o e h = subst (λ (b : Bool). either_type b ((n : ℕ) × (Some n ≡ o) × (n < 2 ^ 32)) (None ≡ o)) (sym e) (go o h)
  where
    go : (o : Option ℕ) → NumberIn o → either_type (is_some o) ((n : ℕ) × (Some n ≡ o) × (n < 2 ^ 32)) (None ≡ o)
    go None h = refl
    go (Some n) h = (n, refl, h)

pub memory_fits : (features : WasmFeatures) (x : Memory) → MemoryIn features x → (memory_writer nothing_yet).fits (memory_from x)
memory_fits features x h =
    let f = memory_flags (is_some x.maximum) x.shared x.wide (is_some x.page_size_log2) in
    let flags = bit 1 (is_some x.maximum) + bit 2 x.shared + bit 4 x.wide + bit 8 (is_some x.page_size_log2) in
    ((f.0, (size_fits flags x.wide x.initial f.2 h.0.0, maximum_fits flags x.wide x.maximum f.1 f.2 h.0.1)), page_fits (has_page_size flags) x.page_size_log2 f.3 h.1)

-- ---- constant expressions

abbrev AllConstant : Expr → Type 0
AllConstant ops = AllByRecursion (λ (op : Seen). is_constant op.code ≡ true) ops

known_constant : (k : Known) (ops : Expr) → AreKnown k ops → AllConstant ops
known_constant k [] h = tt
known_constant k (op ∷ ops) h = (h.0, known_constant k ops h.2)

exprs_constant : (k : Known) (es : List Expr) → AreExprs k es → AllByRecursion AllConstant es
exprs_constant k [] h = tt
exprs_constant k (e ∷ es) h = (known_constant k e h.0.0, exprs_constant k es h.1)

module _ (features : WasmFeatures) where
  constant_fits : (op : Seen) → OperatorFits features op → is_constant op.code ≡ true → (constant_writer features).fits op
  constant_fits op h e =
      let sp = (operator_fits features).has op h in
      let parts = parts_small (operator_bytes op) sp.first sp.later sp.joined (small_bytes (operator_bytes op) (operator_small features op h)) in
      let items = subst (λ (o : Option ItemKind). SpellsForms features (forms_of o) sp.later op.items) (sym sp.listed) sp.items in
      ((op.code, op.items), refl, (((sp.first, parts.0, sp.code), ap (λ (b : Bool). must b ConstExpr) e), (sp.later, parts.1, items)))

  expr_fits : (ops : Expr) → IsSpelled features ops → AllConstant ops → (expr_writer features (known nothing_yet)).fits ops
  expr_fits [] h k = tt
  expr_fits (op ∷ ops) h k = (constant_fits op h.0 k.0, expr_fits ops h.1 k.1)

  exprs_fit : (es : List Expr) → AllByRecursion (IsSpelled features) es → AllByRecursion AllConstant es → EntriesFit pass (λ _. expr features (known nothing_yet)) (λ _. expr_writer features (known nothing_yet)) tt es
  exprs_fit [] h k = tt
  exprs_fit (e ∷ es) h k = (expr_fits e h.0 k.0, exprs_fit es h.1 k.1)

  -- ---- tables, globals, tags

  pub table_type_fits : (t : Table) → TableIn features t → (table_type_writer features nothing_yet).fits (table_from t)
  table_type_fits t h =
      let f = table_flags (is_some t.maximum) t.wide in
      let flags = bit 1 (is_some t.maximum) + bit 4 t.wide in
      (ref_spelled features 0 t.element h.0.0, (f.0, (size_fits flags t.wide t.initial f.2 h.0.1.0, maximum_fits flags t.wide t.maximum f.1 f.2 h.0.1.1)))

  init_fits : (t : Table) (k : Known) (o : Option Expr) → (table_type_writer features nothing_yet).fits (table_from t) → InitIsSpelled features o → IsInit k o → (table_writer features nothing_yet).fits (of_init (table_from t) o)
  init_fits t k None ty h i = in_room (has_room nothing_yet spaces.Table) ty
  init_fits t k (Some e) ty h i = let f : (initialised_writer features nothing_yet).fits (tt, (table_from t, e)) = (tt, (ty, expr_fits e h (known_constant k e i.0))) in in_room (has_room nothing_yet spaces.Table) f

  pub table_made : (k : Known) (t : Table) → TableIn features t × IsInit k t.init → IsMade (table_writer features nothing_yet).fits (own_table (Some t))
  table_made k t h = go t.imported (init_fits t k t.init (table_type_fits t h.0) h.0.1 h.1)
    where
      go : (o : Option ℕ) → (table_writer features nothing_yet).fits (of_init (table_from t) t.init) → IsMade (table_writer features nothing_yet).fits (if_own o (of_init (table_from t) t.init))
      go None h = h
      go (Some n) h = tt

  pub memory_made : (x : Memory) → MemoryIn features x → IsMade (memory_writer nothing_yet).fits (own_memory (Some x))
  memory_made x h = go x.imported (memory_fits features x h)
    where
      go : (o : Option ℕ) → (memory_writer nothing_yet).fits (memory_from x) → IsMade (memory_writer nothing_yet).fits (if_own o (memory_from x))
      go None h = h
      go (Some n) h = tt

  pub tag_made : (t : Tag) → t.ty < 2 ^ 32 → IsMade (tag_writer nothing_yet).fits (own_tag (Some t))
  tag_made t h = go t.imported
    where
      go : (o : Option ℕ) → IsMade (tag_writer nothing_yet).fits (if_own o (tt, t.ty))
      go None = let f : (tag_type_writer nothing_yet).fits (tt, t.ty) = (tt, h) in in_room (has_room nothing_yet spaces.Tag) f
      go (Some n) = tt

  pub global_type_fits : (g : Global) → ValueIn features g.ty → (global_type_writer features nothing_yet).fits (global_from g)
  global_type_fits g h = (value_spelled features 0 g.ty h, bit_small g.mutable)

  abbrev pub OwnConstant : Origin Expr → Type 0
  OwnConstant (Imported n) = Unit {0}
  OwnConstant (Own e) = AllConstant e

  pub global_made : (g : Global) → GlobalIn features g × OwnConstant g.origin → IsMade (global_writer features nothing_yet).fits (own_global (Some g))
  global_made g h = go g.origin h.0.1 h.1
    where
      go : (o : Origin Expr) → OriginIsSpelled features o → OwnConstant o → IsMade (global_writer features nothing_yet).fits (global_entry g o)
      go (Imported n) s k = tt
      go (Own e) s k =
          let f : (after_writer (global_type_writer features nothing_yet) (λ _. expr_writer features (known nothing_yet))).fits (global_from g, e) = (global_type_fits g h.0.0, expr_fits e s k) in in_room (has_room nothing_yet spaces.Global) f

  seen_constant : (k : Known) (o : Origin Expr) → IsInit k (own_init o) → OwnConstant o
  seen_constant k (Imported n) h = tt
  seen_constant k (Own e) h = known_constant k e h.0

  pub globals_constant : (types functions : ℕ) (earlier gs : List (Option Global)) → GlobalsSee types functions earlier gs → Each (λ (g : Global). OwnConstant g.origin) gs
  globals_constant types functions earlier [] h = tt
  globals_constant types functions earlier (None ∷ gs) h = globals_constant types functions (earlier ++ None ∷ []) gs h.1
  globals_constant types functions earlier (Some g ∷ gs) h = (seen_constant _ g.origin h.0, globals_constant types functions (earlier ++ Some g ∷ []) gs h.1)

  -- ---- segments

  abbrev pub ModeConstant : Mode → Type 0
  ModeConstant (Active n e) = AllConstant e
  ModeConstant Passive = Unit {0}
  ModeConstant Declared = Unit {0}

  pub placed_constant : (wide : ℕ → Bool) (k : Known) (mode : Mode) → IsPlaced wide k mode → ModeConstant mode
  placed_constant wide k (Active n e) h = known_constant k e h.0.0
  placed_constant wide k Passive h = tt
  placed_constant wide k Declared h = tt

  abbrev pub ItemsConstant : Elements → Type 0
  ItemsConstant (Functions ns) = Unit {0}
  ItemsConstant (Expressions ty es) = AllByRecursion AllConstant es

  pub items_constant : (k : Known) (items : Elements) → ItemsKnown k items → ItemsConstant items
  items_constant k (Functions ns) h = tt
  items_constant k (Expressions ty es) h = exprs_constant k es h

  numbers_fit : (ns : List ℕ) → AllByRecursion (λ (n : ℕ). n < 2 ^ 32) ns → EntriesFit pass (λ _. index spaces.Function 0) (λ _. index_writer spaces.Function 0) tt ns
  numbers_fit [] h = tt
  numbers_fit (n ∷ ns) h = (h.0, numbers_fit ns h.1)

  abbrev Fits : ElementEntry → Type 0
  Fits x = (after_writer (element_flags_writer nothing_yet) (λ flags. element_form_writer features nothing_yet flags)).fits x

  abbrev DataFits : DataEntry → Type 0
  DataFits x = (after_writer (data_flags_writer nothing_yet) (λ flags. data_form_writer features nothing_yet flags)).fits x

  functions_fit : (wide : ℕ → Bool) (mode : Mode) (ns : List ℕ) → ModeIsSpelled features mode → ModeConstant mode → ModeNumbered mode → length ns < 2 ^ 32 → AllByRecursion (λ (n : ℕ). n < 2 ^ 32) ns → Fits (functions_entry wide mode ns)
  functions_fit wide Passive ns s c n few h = (omega arith, ((tt, ns), refl, (tt, (few, numbers_fit ns h))))
  functions_fit wide Declared ns s c n few h = (omega arith, ((tt, ns), refl, (tt, (few, numbers_fit ns h))))
  functions_fit wide (Active n e) ns s c lt few h = go (n == 0 && not (wide 0))
    where
      go : (b : Bool) → Fits (if b then (0, ActiveFunctions (e, ns)) else (2, FunctionsInto ((n, e), (tt, ns))))
      go true = (omega arith, ((e, ns), refl, (expr_fits e s c, (few, numbers_fit ns h))))
      go false = (omega arith, (((n, e), (tt, ns)), refl, ((lt, expr_fits e s c), (tt, (few, numbers_fit ns h)))))

  expressions_fit : (wide : ℕ → Bool) (mode : Mode) (ty : RefType) (es : List Expr) → ModeIsSpelled features mode → ModeConstant mode → ModeNumbered mode → RefIn features ty → length es < 2 ^ 32 → AllByRecursion (IsSpelled features) es → AllByRecursion AllConstant es
      → Fits (expressions_entry wide mode ty es)
  expressions_fit wide Passive ty es s c n r few h k = (omega arith, ((ty, es), refl, (ref_spelled features 0 ty r, (few, exprs_fit es h k))))
  expressions_fit wide Declared ty es s c n r few h k = (omega arith, ((ty, es), refl, (ref_spelled features 0 ty r, (few, exprs_fit es h k))))
  expressions_fit wide (Active n e) ty es s c lt r few h k = go (n == 0 && not (wide 0) && is_funcref ty)
    where
      go : (b : Bool) → Fits (if b then (4, ActiveExpressions (e, es)) else (6, ExpressionsInto ((n, e), (ty, es))))
      go true = (omega arith, ((e, es), refl, (expr_fits e s c, (few, exprs_fit es h k))))
      go false = (omega arith, (((n, e), (ty, es)), refl, ((lt, expr_fits e s c), (ref_spelled features 0 ty r, (few, exprs_fit es h k)))))

  abbrev pub ElementHas : Element → Type 0
  ElementHas e = ElementIn features e × ((ModeConstant e.mode × ItemsConstant e.items) × (ModeNumbered e.mode × ItemsNumbered e.items))

  pub element_fits : (wide : ℕ → Bool) (e : Element) → ElementHas e → (element_writer features nothing_yet).fits (entry_of_element wide e)
  element_fits wide e h = in_room (has_room nothing_yet spaces.Element) (go e.items h.0.1 h.1.0.1 h.1.1.1)
    where
      go : (items : Elements) → ItemsIn features items → ItemsConstant items → ItemsNumbered items → Fits (items_entry wide e.mode items)
      go (Functions ns) i c n = functions_fit wide e.mode ns h.0.0 h.1.0.0 h.1.1.0 i n
      go (Expressions ty es) i c n = expressions_fit wide e.mode ty es h.0.0 h.1.0.0 h.1.1.0 i.0 i.1.0 i.1.1 c

  contents_fit : (bytes : List ℕ) → (length bytes < 2 ^ 32) × AreBytes bytes → contents_writer.fits bytes
  contents_fit bytes h =
      (sized_bytes bytes, small_bytes (sized_bytes bytes) (bytes_joined (unsigned_bytes (length bytes)) bytes (u32_bytes (length bytes) h.0) h.1), record { size = unsigned_bytes (length bytes); spells = u32_writer.written (length bytes) h.0; joined = refl })

  abbrev pub SegmentHas : Segment → Type 0
  SegmentHas x = SegmentIn features x × (ModeConstant x.mode × ModeNumbered x.mode)

  pub segment_fits : (x : Segment) → SegmentHas x → (data_writer features nothing_yet).fits (entry_of_segment x)
  segment_fits x h = in_room (has_room nothing_yet spaces.Data) (go x.mode h.0.0 h.1.0 h.1.1)
    where
      go : (mode : Mode) → ModeIsSpelled features mode → ModeConstant mode → ModeNumbered mode → DataFits (bytes_entry mode x.bytes)
      go Passive s c n = (omega arith, (x.bytes, refl, contents_fit x.bytes h.0.1))
      go Declared s c n = (omega arith, (x.bytes, refl, contents_fit x.bytes h.0.1))
      go (Active n e) s c lt = active (n == 0)
        where
          active : (b : Bool) → DataFits (if b then (0, ActiveData (e, x.bytes)) else (2, DataInto ((n, e), x.bytes)))
          active true = (omega arith, ((e, x.bytes), refl, (expr_fits e s c, contents_fit x.bytes h.0.1)))
          active false = (omega arith, (((n, e), x.bytes), refl, ((lt, expr_fits e s c), contents_fit x.bytes h.0.1)))
