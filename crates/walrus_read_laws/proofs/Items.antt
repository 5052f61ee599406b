-- Lemmas: no item lacks anything, where what it names is found.
use Rattle.std.specs.Prelude.{ℕ, ◌+◌, ◌≤◌, ◌<◌, ◌≡◌, ◌⊎◌, ◌^◌, Bool, true, List, [], ◌∷◌, ◌++◌, length, map, Option, Some, None, IsSome, Ok, Err, slice_get, refl}
use Rattle.std.specs.List.{AllByRecursion}
use Rattle.std.specs.Option.{option_map}
use Rattle.std.specs.Global.{Vec}
use Rattle.std.proofs.Common.{arith, inl, inr}
use Rattle.std.proofs.lemmas.List.{length-append}
use Rattle.std.proofs.lemmas.Option.{slice_get_within}
use Rattle.walrus_tables_into.specs.walrus_sections_into.walrus_collections.walrus_local_function.walrus_body_locals.walrus_body_nesting.wasm_formats.wasm_features.declared.WasmFeatures.{WasmFeatures}
use Rattle.walrus_tables_into.specs.walrus_sections_into.walrus_collections.walrus_local_function.walrus_body_locals.walrus_body_nesting.wasm_formats.declared.fault.Space.{Space}
use Rattle.walrus_tables_into.specs.walrus_sections_into.walrus_collections.walrus_local_function.walrus_body_locals.walrus_body_nesting.wasm_formats.declared.fault.Space.TheVariants as spaces
use Rattle.walrus_tables_into.specs.walrus_sections_into.walrus_collections.walrus_local_function.walrus_body_locals.wasm_grammar.Exprs.{Known}
use Rattle.walrus_tables_into.specs.walrus_sections_into.walrus_collections.walrus_local_function.walrus_body_locals.wasm_grammar.Modules.{Module, Global as GrammarGlobal}
use Rattle.walrus_tables_into.specs.walrus_sections_into.walrus_collections.walrus_local_function.walrus_body_locals.wasm_grammar.States.{types_of, count_of, form_test}
use Rattle.wasm_spelled_modules.specs.wasm_module_rules.Linked.{Each, IsFunctionType, GoesInto, AllBelow, AreListed, IsBelow}
use Rattle.wasm_ruled_modules.specs.Rules.{IsCounted, ItemsBelow, AreKnown, IsExpr, AreExprs, IsInit, own_init, GlobalsSee, IsPlaced, ItemsKnown, knows}
use Rattle.wasm_spelled_modules.specs.wasm_section_bytes.Flags.{IsNotDeclared}
use Rattle.wasm_spelled_modules.specs.Spelled.{IsSpelled, InitIsSpelled, OriginIsSpelled, ModeIsSpelled, ItemsAreSpelled, is_external}
use Rattle.walrus_tables_into.specs.walrus_sections_into.walrus_forms.Records.{ref_of, value_of}
use Rattle.walrus_tables_into.specs.walrus_sections_into.walrus_forms.Renaming.{HeapBelow, RefBelow, ValueBelow}
use Rattle.walrus_tables_into.specs.walrus_sections_into.walrus_forms.declared.value.HeapType.{HeapType}
use Rattle.walrus_tables_into.specs.walrus_sections_into.walrus_forms.declared.value.HeapType.TheVariants.{Abstract, Shared, Concrete, Exact}
use Rattle.walrus_tables_into.specs.walrus_sections_into.walrus_forms.declared.value.RefType.{RefType}
use Rattle.walrus_tables_into.specs.walrus_sections_into.walrus_forms.declared.value.ValType.{ValType}
use Rattle.walrus_tables_into.specs.walrus_sections_into.walrus_forms.declared.value.ValType.TheVariants.{I32, I64, F32, F64, V128, Ref}
use Rattle.walrus_tables_into.specs.walrus_sections_into.walrus_operators.Operators.{seen}
use Rattle.walrus_tables_into.specs.walrus_sections_into.walrus_operators.declared.operator.Operator.{Operator}
use Rattle.walrus_tables_into.specs.walrus_sections_into.walrus_pairing.Looks.{Look}
use Rattle.walrus_tables_into.specs.walrus_sections_into.wasm_operators.Items as immediates
use Rattle.walrus_tables_into.specs.walrus_sections_into.declared.error.IntoError.TheVariants.{Unknown}
use Rattle.walrus_tables_into.specs.walrus_sections_into.Consts.{OpLacks}
use Rattle.walrus_tables_into.specs.walrus_sections_into.Lacks.{ItemLacks, StartLacks, PlaceLacks}
use Rattle.walrus_tables_into.specs.walrus_sections_into.walrus_known_sections.Items.{mode_of, items_of}
use Rattle.walrus_tables_into.specs.walrus_sections_into.walrus_known_sections.declared.items.Mode.{Mode}
use Rattle.walrus_tables_into.specs.walrus_sections_into.walrus_known_sections.declared.items.Mode.TheVariants as modes
use Rattle.walrus_tables_into.specs.walrus_sections_into.walrus_known_sections.declared.items.ElementItems.{ElementItems}
use Rattle.walrus_tables_into.specs.walrus_sections_into.walrus_known_sections.declared.items.ElementItems.TheVariants as listed
use Rattle.walrus_tables_into.specs.walrus_section_values.Globals.{expr_of, origin_of, global_of}
use Rattle.walrus_tables_into.specs.walrus_section_values.declared.globals.Global.{Global}
use Rattle.walrus_tables_into.specs.walrus_section_values.declared.globals.GlobalOrigin.{GlobalOrigin}
use Rattle.walrus_tables_into.specs.walrus_section_values.declared.globals.GlobalOrigin.TheVariants as origins
use Rattle.walrus_tables_into.specs.Elements.{ExprLacks, ModeLacks, NoFunction, ItemsLack}
use Rattle.walrus_tables_into.specs.Globals.{OriginLacks, GlobalLacks}
use Rattle.walrus_tables_into.specs.Tables.{InitLacks}
use Rattle.walrus_tables_into.specs.Types.{Or, heap_in, ref_in, value_in}
use Rattle.walrus_read_laws.specs.Numbered.{AllFound, Finds}
use Rattle.walrus_read_laws.proofs.Constants.{constant_gives}
use Rattle.walrus_read_laws.proofs.Lists.{NoneIs, not_any}

some_none : {A : Type 0} (x : A) (o : Option A) → o ≡ Some x → o ≡ None → ⊥
some_none x None e f = absurd cc
some_none x (Some y) e f = absurd cc

good_bad : {A : Type 0} (x : A) (r : Or A) → r ≡ Ok x → r ≡ Err Unknown → ⊥
good_bad x (Ok y) e f = absurd cc
good_bad x (Err d) e f = absurd cc

typed_there : (m : Module) (n : ℕ) → IsFunctionType m n → n < length (types_of m)
typed_there m n h = go (slice_get (types_of m) n) refl h
  where
    go : (o : Option _) → slice_get (types_of m) n ≡ o → form_test o ≡ None → n < length (types_of m)
    go None is e = absurd cc
    go (Some kind) is e = slice_get_within (types_of m) n kind is

-- a table that an import brings has no initialiser
pub not_both : (o : Option (Vec Operator)) (i : Option ℕ) → (option_map expr_of o ≡ None) ⊎ (i ≡ None) → IsSome o × IsSome i → ⊥
not_both None i h b = let b = b.0 in absurd cc
not_both (Some o) None h b = let b = b.1 in absurd cc
not_both (Some o) (Some i) (inl h) b = absurd cc
not_both (Some o) (Some i) (inr h) b = absurd cc

-- all items of a module are found
pub record FindsAll (look : Look) (m : Module) : Type 0 where
  pub types : AllFound look immediates.Types (length (types_of m))
  pub functions : AllFound look immediates.Functions (length m.functions)
  pub tables : AllFound look immediates.Tables (length m.tables)
  pub memories : AllFound look immediates.Memories (length m.memories)
  pub tags : AllFound look immediates.Tags (length m.tags)
  pub globals : AllFound look immediates.Globals (length m.globals)

module _ (look : Look) (m : Module) (found : FindsAll look m) where
  -- ---- names

  there : (space : immediates.Space) (count n : ℕ) → AllFound look space count → n < count → look space n ≡ None → ⊥
  there space count n all lt none = let f = all n lt in some_none f.0 (look space n) f.1 none

  -- what is known of some of it is found, too
  pub finds : (k : Known) → k.types ≡ length (types_of m) → k.functions ≡ length m.functions → length k.globals ≤ length m.globals → Finds look k
  finds k types functions globals = record {
    types = λ n lt. found.types n (omega (arith, types, lt));
    functions = λ n lt. found.functions n (omega (arith, functions, lt));
    globals = λ n lt. found.globals n (omega (arith, globals, lt));
  }

  pub tag_there : (n : ℕ) → IsFunctionType m n → look immediates.Types n ≡ None → ⊥
  tag_there n h = there immediates.Types (length (types_of m)) n found.types (typed_there m n h)

  pub start_there : (start : Option ℕ) → IsBelow (length m.functions) start → StartLacks look start → ⊥
  start_there None h lacks = lacks
  start_there (Some n) h lacks = there immediates.Functions (length m.functions) n found.functions h lacks

  pub item_there : (space : Space) (n : ℕ) → is_external space ≡ true → n < count_of m space → ItemLacks look space n → ⊥
  item_there spaces.Function n is lt lacks = there immediates.Functions (length m.functions) n found.functions lt lacks
  item_there spaces.Table n is lt lacks = there immediates.Tables (length m.tables) n found.tables lt lacks
  item_there spaces.Memory n is lt lacks = there immediates.Memories (length m.memories) n found.memories lt lacks
  item_there spaces.Global n is lt lacks = there immediates.Globals (length m.globals) n found.globals lt lacks
  item_there spaces.Tag n is lt lacks = there immediates.Tags (length m.tags) n found.tags lt lacks
  item_there spaces.Type n is lt lacks = absurd cc
  item_there spaces.Element n is lt lacks = absurd cc
  item_there spaces.Data n is lt lacks = absurd cc
  item_there spaces.Local n is lt lacks = absurd cc
  item_there spaces.Label n is lt lacks = absurd cc

  -- ---- types

  heap_there : (ty : HeapType) → HeapBelow (length (types_of m)) ty → (heap : HeapType) × (heap_in look ty ≡ Ok heap)
  heap_there (Abstract kind) h = (Abstract kind, refl)
  heap_there (Shared kind) h = (Shared kind, refl)
  heap_there (Concrete n) h = let f = found.types n h in (Concrete f.0, rw f.1 refl)
  heap_there (Exact n) h = let f = found.types n h in (Exact f.0, rw f.1 refl)

  ref_found : (ty : RefType) → RefBelow (length (types_of m)) ty → (out : RefType) × (ref_in look ty ≡ Ok out)
  ref_found ty h = let heap = heap_there ty.heap_type h in (record { nullable = ty.nullable; heap_type = heap.0 }, rw heap.1 refl)

  pub ref_there : (ty : RefType) → RefBelow (length (types_of m)) ty → ref_in look ty ≡ Err Unknown → ⊥
  ref_there ty h lacks = let f = ref_found ty h in good_bad f.0 (ref_in look ty) f.1 lacks

  pub value_there : (ty : ValType) → ValueBelow (length (types_of m)) ty → value_in look ty ≡ Err Unknown → ⊥
  value_there I32 h lacks = absurd cc
  value_there I64 h lacks = absurd cc
  value_there F32 h lacks = absurd cc
  value_there F64 h lacks = absurd cc
  value_there V128 h lacks = absurd cc
  value_there (Ref ty) h lacks = let f = ref_found ty h in good_bad (Ref f.0) (value_in look (Ref ty)) (rw f.1 refl) lacks

  module _ (features : WasmFeatures) where
    -- ---- constant expressions

    ops_there : (k : Known) → Finds look k → (ops : List Operator) → AreKnown k (map seen ops) → IsSpelled features (map seen ops) → NoneIs (OpLacks look) ops
    ops_there k f [] known spelled = tt
    ops_there k f (op ∷ ops) known spelled = (
      λ lacks. let g = constant_gives look k f features (seen op) spelled.0 known.0 known.1 in some_none g.0 _ g.1 lacks,
      ops_there k f ops known.2 spelled.1,
    )

    pub expr_there : (k : Known) → Finds look k → (ops : Vec Operator) → IsExpr k (expr_of ops) → IsSpelled features (expr_of ops) → ExprLacks look ops → ⊥
    expr_there k f ops h spelled = not_any (OpLacks look) ops.items (ops_there k f ops.items h.0 spelled)

    exprs_there : (k : Known) → Finds look k → (es : List (Vec Operator)) → AreExprs k (map expr_of es) → AllByRecursion (IsSpelled features) (map expr_of es) → NoneIs (ExprLacks look) es
    exprs_there k f [] h spelled = tt
    exprs_there k f (e ∷ es) h spelled = (expr_there k f e h.0 spelled.0, exprs_there k f es h.1 spelled.1)

    pub init_there : (k : Known) → Finds look k → (o : Option (Vec Operator)) → IsInit k (option_map expr_of o) → InitIsSpelled features (option_map expr_of o) → InitLacks look o → ⊥
    init_there k f None h spelled lacks = lacks
    init_there k f (Some ops) h spelled lacks = expr_there k f ops h spelled lacks

    -- ---- globals: each names those before it

    origin_there : (k : Known) → Finds look k → (o : GlobalOrigin) → IsInit k (own_init (origin_of o)) → OriginIsSpelled features (origin_of o) → OriginLacks look o → ⊥
    origin_there k f (origins.Import n) h spelled lacks = lacks
    origin_there k f (origins.Own ops) h spelled lacks = expr_there k f ops h spelled lacks

    abbrev slots : List Global → List (Option GrammarGlobal)
    slots gs = map (λ (g : Global). Some (global_of g)) gs

    pub globals_there : (earlier : List (Option GrammarGlobal)) (gs : List Global) → length earlier + length gs ≤ length m.globals
        → GlobalsSee (length (types_of m)) (length m.functions) earlier (slots gs) → Each (λ (g : GrammarGlobal). ValueBelow (length (types_of m)) g.ty × OriginIsSpelled features g.origin) (slots gs)
        → NoneIs (GlobalLacks look) gs
    globals_there earlier [] le see h = tt
    globals_there earlier (g ∷ gs) le see h =
        let k : Known = record { types = length (types_of m); functions = length m.functions; globals = earlier } in
        let size = length-append earlier (Some (global_of g) ∷ []) in
        let short : length earlier ≤ length m.globals = omega (arith, le) in
        let one = h.0 in (
          one_there k (finds k refl refl short) g see.0 one.0 one.1,
          globals_there (earlier ++ Some (global_of g) ∷ []) gs (omega (arith, le, size)) see.1 h.1,
        )
      where
        one_there : (k : Known) → Finds look k → (g : Global) → IsInit k (own_init (origin_of g.origin)) → ValueBelow (length (types_of m)) (value_of g.ty) → OriginIsSpelled features (origin_of g.origin) → GlobalLacks look g → ⊥
        one_there k f g init ty spelled (inl lacks) = value_there (value_of g.ty) ty lacks
        one_there k f g init ty spelled (inr lacks) = origin_there k f g.origin init spelled lacks

    -- ---- segments

    known_found : Finds look (knows m)
    known_found = let le : length m.globals ≤ length m.globals = omega arith in finds (knows m) refl refl le

    pub mode_there : (wide : ℕ → Bool) (mode : Mode) → GoesInto (length m.tables) (mode_of mode) → IsPlaced wide (knows m) (mode_of mode) → ModeIsSpelled features (mode_of mode) → ModeLacks look mode → ⊥
    mode_there wide modes.Passive goes placed spelled lacks = lacks
    mode_there wide modes.Declared goes placed spelled lacks = lacks
    mode_there wide (modes.Active n offset) goes placed spelled (inl none) = there immediates.Tables (length m.tables) n found.tables goes none
    mode_there wide (modes.Active n offset) goes placed spelled (inr lacks) = expr_there (knows m) known_found offset placed.0 spelled lacks

    pub place_there : (wide : ℕ → Bool) (mode : Mode) → GoesInto (length m.memories) (mode_of mode) → IsPlaced wide (knows m) (mode_of mode) → ModeIsSpelled features (mode_of mode)
        → IsNotDeclared (mode_of mode) → PlaceLacks look mode → ⊥
    place_there wide modes.Passive goes placed spelled told lacks = lacks
    place_there wide modes.Declared goes placed spelled told lacks = told
    place_there wide (modes.Active n offset) goes placed spelled told (inl none) = there immediates.Memories (length m.memories) n found.memories goes none
    place_there wide (modes.Active n offset) goes placed spelled told (inr lacks) = expr_there (knows m) known_found offset placed.0 spelled lacks

    functions_there : (ns : List ℕ) → AllBelow (length m.functions) ns → NoneIs (NoFunction look) ns
    functions_there [] h = tt
    functions_there (n ∷ ns) h = (there immediates.Functions (length m.functions) n found.functions h.0, functions_there ns h.1)

    pub items_there : (items : ElementItems) → AreListed (length m.functions) (items_of items) → ItemsBelow (length (types_of m)) (items_of items) → ItemsKnown (knows m) (items_of items)
        → ItemsAreSpelled features (items_of items) → ItemsLack look items → ⊥
    items_there (listed.Functions numbers) lists below known spelled lacks = not_any (NoFunction look) numbers.items (functions_there numbers.items lists) lacks
    items_there (listed.Expressions ty es) lists below known spelled (inl lacks) = ref_there (ref_of ty) below lacks
    items_there (listed.Expressions ty es) lists below known spelled (inr lacks) = not_any (ExprLacks look) es.items (exprs_there (knows m) known_found es.items known spelled) lacks

-- no number of an item is past 32 bits
pub number_small : (m : Module) → IsCounted m → (space : Space) (n : ℕ) → is_external space ≡ true → n < count_of m space → 2 ^ 32 ≤ n → ⊥
number_small m c spaces.Function n is lt past = let le = c.functions in absurd (omega (arith, le, lt, past))
number_small m c spaces.Table n is lt past = let le = c.tables in absurd (omega (arith, le, lt, past))
number_small m c spaces.Memory n is lt past = let le = c.memories in absurd (omega (arith, le, lt, past))
number_small m c spaces.Global n is lt past = let le = c.globals in absurd (omega (arith, le, lt, past))
number_small m c spaces.Tag n is lt past = let le = c.tags in absurd (omega (arith, le, lt, past))
number_small m c spaces.Type n is lt past = absurd cc
number_small m c spaces.Element n is lt past = absurd cc
number_small m c spaces.Data n is lt past = absurd cc
number_small m c spaces.Local n is lt past = absurd cc
number_small m c spaces.Label n is lt past = absurd cc
