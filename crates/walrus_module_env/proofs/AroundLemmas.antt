-- Lemmas: a body sees the file that its module was read from.
use Rattle.std.proofs.Common.{◌≡◌, ◌∙◌, ℕ, zero, suc, Bool, false, List, [], ◌∷◌, length, map, All, refl, sym, ap, subst, arith}
use Rattle.std.proofs.lemmas.List.Elements.{All-head}
use Rattle.std.proofs.lemmas.Option.{slice_get_within}
use Rattle.std.specs.Prelude.{Option, Some, None, Ok, unwrap_or, slice_get, slice_index_or}
use Rattle.std.specs.Option.{option_map, option_map_or, option_and_then, is_some}
use Rattle.walrus_functions_into.specs.walrus_collections.walrus_local_function.walrus_body_locals.walrus_body_nesting.wasm_formats.wasm_features.declared.WasmFeatures.{WasmFeatures}
use Rattle.walrus_arena.specs.Arena.{item_at}
use Rattle.walrus_forms.specs.declared.value.AbstractHeapType.{AbstractHeapType}
use Rattle.walrus_forms.specs.declared.value.AbstractHeapType.TheVariants as kinds
use Rattle.walrus_forms.specs.declared.value.HeapType.{HeapType}
use Rattle.walrus_forms.specs.declared.value.HeapType.TheVariants.{Abstract, Shared, Concrete, Exact}
use Rattle.walrus_forms.specs.declared.value.ValType.{ValType}
use Rattle.walrus_forms.specs.declared.value.ValType.TheVariants.{I32, I64, F32, F64, V128, Ref}
use Rattle.walrus_forms.specs.Forms.{Form, FunctionForm, StructForm, ArrayForm}
use Rattle.walrus_forms.specs.Kinds.{Kind}
use Rattle.walrus_forms.specs.Renaming.{FormBelow, HeapBelow, ValueBelow, at, renamed_form, renamed_value}
use Rattle.walrus_index_maps.specs.Maps.{Ids}
use Rattle.walrus_types.specs.Items.{Item}
use Rattle.walrus_types.proofs.LawLemmas.{latest-law}
use Rattle.walrus_body_env.specs.walrus_instr.declared.seq.InstrSeqType.{InstrSeqType}
use Rattle.walrus_body_env.specs.walrus_instr.declared.seq.InstrSeqType.TheVariants.{MultiValue}
use Rattle.walrus_functions_into.specs.walrus_collections.walrus_module_items.declared.memory.Memory.{Memory}
use Rattle.walrus_functions_into.specs.walrus_collections.walrus_local_function.walrus_body_locals.wasm_operators.declared.block_type.BlockType.{BlockType}
use Rattle.walrus_functions_into.specs.walrus_collections.walrus_local_function.walrus_body_locals.wasm_operators.declared.block_type.BlockType.TheVariants as blocks
use Rattle.walrus_functions_into.specs.walrus_collections.walrus_local_function.walrus_body_locals.wasm_operators.Items.{Space, Types, Functions, Tables, Memories, Tags, Globals, ElementSegments, DataSegments, Locals, Labels}
use Rattle.walrus_functions_into.specs.walrus_collections.walrus_local_function.walrus_body_locals.wasm_grammar.Modules as modules
use Rattle.walrus_functions_into.specs.walrus_collections.walrus_local_function.walrus_body_locals.wasm_grammar.States.{types_of}
use Rattle.walrus_functions_into.specs.walrus_collections.walrus_local_function.walrus_body_locals.wasm_grammar.TypeWords.{abstract_from, value_from}
use Rattle.walrus_functions_into.specs.walrus_collections.walrus_local_function.walrus_body_locals.wasm_grammar.Values.{must}
use Rattle.walrus_functions_into.specs.walrus_collections.walrus_local_function.walrus_body_locals.wasm_body_grammar.Rules as grammar
use Rattle.walrus_functions_into.specs.walrus_collections.walrus_local_function.walrus_body_locals.wasm_body_grammar.Rules.{Around, found_in, pick, form_test, kind_test}
use Rattle.walrus_functions_into.specs.walrus_collections.walrus_local_function.walrus_function_parser.walrus_body_rules.walrus_pairing.Types.{read_abstract, read_value}
use Rattle.walrus_functions_into.specs.walrus_collections.walrus_local_function.walrus_function_parser.walrus_body_rules.Sights.{Sight, block_of, function_block, room, written_block}
use Rattle.walrus_functions_into.specs.walrus_collections.walrus_local_function.walrus_function_parser.walrus_body_rules.Rules.{block_test, has_wide}
use Rattle.walrus_functions_into.specs.walrus_collections.walrus_local_function.walrus_function_parser.Parsed.{IsAround}
use Rattle.walrus_functions_into.specs.walrus_collections.walrus_local_function.walrus_body_locals.walrus_body_nesting.wasm_formats.Stops.{TypeForm}
use Rattle.wasm_run_names.specs.Picks.{form_pick, kind_pick, block_pick}
use Rattle.walrus_module_env.specs.declared.env.ModuleEnv.{ModuleEnv}
use Rattle.walrus_module_env.specs.Env.{form_params, form_results, own_found, own_pick}
use Rattle.walrus_module_env.specs.Filled.{AreFiled}
use Rattle.walrus_module_env.specs.Around.{sight_in, block_named, memory_named, IsFiled}
use Rattle.walrus_module_env.proofs.PickLemmas.{some_is, none_some, at_index, finds_own, found_serves}

-- what is no item of the one isn't of the other
none_in : {X Y : Type 0} (xs : List X) (ys : List Y) (n : ℕ) → length xs ≡ length ys → slice_get ys n ≡ None → slice_get xs n ≡ None
none_in [] ys n size e = refl
none_in (x ∷ xs) [] n size e = absurd (omega (arith, size))
none_in (x ∷ xs) (y ∷ ys) zero size e = absurd cc
none_in (x ∷ xs) (y ∷ ys) (suc n) size e = none_in xs ys n (omega (arith, size)) e

-- ---- a value type as it is read again

abstract_read : (ty : AbstractHeapType) → read_abstract (abstract_from ty) ≡ Ok ty
abstract_read kinds.Func = refl
abstract_read kinds.Extern = refl
abstract_read kinds.Any = refl
abstract_read kinds.None = refl
abstract_read kinds.NoExtern = refl
abstract_read kinds.NoFunc = refl
abstract_read kinds.Eq = refl
abstract_read kinds.Struct = refl
abstract_read kinds.Array = refl
abstract_read kinds.I31 = refl
abstract_read kinds.Exn = refl
abstract_read kinds.NoExn = refl

value_read : (ids : List ℕ) (ty : ValType) → ValueBelow (length ids) ty → read_value (slice_get ids) (value_from ty) ≡ Ok (renamed_value (at ids) ty)
value_read ids I32 below = refl
value_read ids I64 below = refl
value_read ids F32 below = refl
value_read ids F64 below = refl
value_read ids V128 below = refl
value_read ids (Ref ty) below = go ty.nullable ty.heap_type below
  where
    go : (nullable : Bool) (heap : HeapType) → HeapBelow (length ids) heap
        → (let own : ValType = Ref (record { nullable = nullable; heap_type = heap }) in read_value (slice_get ids) (value_from own) ≡ Ok (renamed_value (at ids) own))
    go nullable (Abstract ty) below = rw (abstract_read ty) refl
    go nullable (Shared ty) below = rw (abstract_read ty) refl
    go nullable (Concrete n) below = rw (at_index ids n below) refl
    go nullable (Exact n) below = rw (at_index ids n below) refl

-- ---- block types

some_mapped : {X Y : Type 0} (f : X → Y) (o : Option X) → is_some (option_map f o) ≡ is_some o
some_mapped f None = refl
some_mapped f (Some x) = refl

module _ (e : ModuleEnv) (function : ℕ) (i : Ids) (a : Around) (same : a.same ≡ at i.types) (h : AreFiled (types_of a.filled) i.types e.own_types e.types.now) where
  abbrev own : List ValType → List ValType → Option InstrSeqType
  own params results = own_pick e.own_types e.types.now (map (renamed_value (at i.types)) params) (map (renamed_value (at i.types)) results)

  abbrev sees : Sight
  sees = sight_in e function i

  -- what a function form's block type is
  abbrev form_block : Form → Option InstrSeqType
  form_block form = block_of sees (form_params (renamed_form (at i.types) form)) (form_results (renamed_form (at i.types) form))

  -- what the grammar finds in the file
  abbrev found : List ValType → List ValType → Option ℕ
  found params results = found_in a.same params results (types_of a.filled)

  pub finds : (params results : List ValType)
      → own_found e.own_types e.types.now (map (renamed_value (at i.types)) params) (map (renamed_value (at i.types)) results) ≡ option_map (λ n. MultiValue (at i.types n)) (found params results)
  finds params results =
      finds_own (types_of a.filled) i.types e.own_types e.types.now h params results (latest-law e.types.now _)
      ∙ ap (λ (f : ℕ → ℕ). option_map (λ n. MultiValue (at i.types n)) (found_in f params results (types_of a.filled))) (sym same)

  found_there : (params results : List ValType)
      → is_some (own_found e.own_types e.types.now (map (renamed_value (at i.types)) params) (map (renamed_value (at i.types)) results)) ≡ is_some (option_map blocks.Type (found params results))
  found_there params results =
      ap (λ (o : Option InstrSeqType). is_some o) (finds params results) ∙ some_mapped (λ n. MultiValue (at i.types n)) (found params results) ∙ sym (some_mapped blocks.Type (found params results))

  picks_there : (params results : List ValType) → is_some (own params results) ≡ is_some (pick a params results)
  picks_there [] [] = refl
  picks_there [] (x ∷ []) = refl
  picks_there [] (x ∷ (y ∷ ys)) = found_there [] (x ∷ (y ∷ ys))
  picks_there (x ∷ xs) results = found_there (x ∷ xs) results

  form_there : (form : Form) → must (is_some (form_block form)) TypeForm ≡ form_test a form
  form_there (FunctionForm params results) = ap (λ (b : Bool). must b TypeForm) (picks_there params results)
  form_there (StructForm fields) = refl
  form_there (ArrayForm field) = refl

  -- what a written type's block type is
  type_block : (n : ℕ) (kind : Kind) → slice_get (types_of a.filled) n ≡ Some kind → (id : ℕ) × (slice_get i.types n ≡ Some id) × (block_of sees (sees.params id) (sees.results id) ≡ form_block kind.form)
  type_block n kind there =
      let s = h.stand n kind there in (
        s.id,
        s.named,
        ap (λ (o : Option Item). block_of sees (option_and_then (λ (item : Item). form_params item.kind.form) o) (option_and_then (λ (item : Item). form_results item.kind.form) o)) s.live
            ∙ ap (λ (k : Kind). block_of sees (form_params k.form) (form_results k.form)) s.kind_is,
      )

  block_there : (n : ℕ) (o : Option Kind) → slice_get (types_of a.filled) n ≡ o → block_test sees (blocks.Type n) ≡ kind_test a o
  block_there n None none = rw (none_in i.types (types_of a.filled) n h.sized none) refl
  block_there n (Some kind) there =
      let b = type_block n kind there in
      rw b.1 (ap (λ (o : Option InstrSeqType). must (is_some o) TypeForm) b.2 ∙ form_there kind.form)

  pub blocks_are : (n : ℕ) → block_test sees (blocks.Type n) ≡ grammar.block_test a (blocks.Type n)
  blocks_are n = block_there n (slice_get (types_of a.filled) n) refl

  -- ---- and its pick's

  written_at : (n : ℕ) (kind : Kind) → slice_get (types_of a.filled) n ≡ Some kind → written_block sees (blocks.Type n) ≡ form_block kind.form
  written_at n kind there = let b = type_block n kind there in rw b.1 b.2

  abbrev Picks : ℕ → Option BlockType → Type 0
  Picks n o = written_block sees (unwrap_or o (blocks.Type n)) ≡ written_block sees (blocks.Type n)

  found_picks : (n : ℕ) (params results : List ValType) → written_block sees (blocks.Type n) ≡ own params results
      → Picks n (option_map blocks.Type (found params results))
  found_picks n params results own_is =
      subst (λ (f : ℕ → ℕ). Picks n (option_map blocks.Type (found_in f params results (types_of a.filled)))) (sym same)
      (found_serves (types_of a.filled) i.types e.own_types e.types.now h params results (λ (o : Option ℕ). Picks n (option_map blocks.Type o)) refl
      (λ index kind there is. written_at index kind there ∙ ap (λ (k : Kind). block_of sees (form_params k.form) (form_results k.form)) is ∙ sym own_is))

  form_picks : (n : ℕ) (params results : List ValType) → All (ValueBelow (length i.types)) results → written_block sees (blocks.Type n) ≡ own params results → Picks n (pick a params results)
  form_picks n [] [] below own_is = sym own_is
  form_picks n [] (x ∷ []) below own_is = rw (value_read i.types x (All-head (ValueBelow (length i.types)) x [] below)) (sym own_is)
  form_picks n [] (x ∷ (y ∷ ys)) below own_is = found_picks n [] (x ∷ (y ∷ ys)) own_is
  form_picks n (x ∷ xs) results below own_is = found_picks n (x ∷ xs) results own_is

  kind_picks : (n : ℕ) (form : Form) → FormBelow (length i.types) form → written_block sees (blocks.Type n) ≡ form_block form
      → written_block sees (form_pick a (blocks.Type n) form) ≡ written_block sees (blocks.Type n)
  kind_picks n (FunctionForm params results) below is = form_picks n params results below.1 is
  kind_picks n (StructForm fields) below is = refl
  kind_picks n (ArrayForm field) below is = refl

  type_picks : (n : ℕ) (o : Option Kind) → slice_get (types_of a.filled) n ≡ o → written_block sees (kind_pick a (blocks.Type n) o) ≡ written_block sees (blocks.Type n)
  type_picks n None none = refl
  type_picks n (Some kind) there = kind_picks n kind.form (h.names n kind there).0 (written_at n kind there)

  pub picks_are : (ty : BlockType) → written_block sees (block_pick a ty) ≡ written_block sees ty
  picks_are blocks.Empty = refl
  picks_are (blocks.Value ty) = refl
  picks_are (blocks.Type n) = type_picks n (slice_get (types_of a.filled) n) refl

  -- ---- and names its id

  abbrev Named : ℕ → InstrSeqType → Option BlockType → Type 0
  Named n ty o = block_named sees (unwrap_or o (blocks.Type n)) ≡ Some ty

  abbrev OfFound : ℕ → InstrSeqType → Option ℕ → Type 0
  OfFound n ty o = option_map (λ n. MultiValue (at i.types n)) o ≡ Some ty → Named n ty (option_map blocks.Type o)

  found_named : (n : ℕ) (params results : List ValType) (ty : InstrSeqType)
      → own_found e.own_types e.types.now (map (renamed_value (at i.types)) params) (map (renamed_value (at i.types)) results) ≡ Some ty → Named n ty (option_map blocks.Type (found params results))
  found_named n params results ty is =
      subst (λ (f : ℕ → ℕ). OfFound n ty (found_in f params results (types_of a.filled))) (sym same)
      (found_serves (types_of a.filled) i.types e.own_types e.types.now h params results (OfFound n ty) (λ e. none_some ty e) (λ index kind there serves e. named index kind there e)) (sym (finds params results) ∙ is)
    where
      named : (index : ℕ) (kind : Kind) → slice_get (types_of a.filled) index ≡ Some kind → Some (MultiValue (at i.types index)) ≡ Some ty → option_map MultiValue (slice_get i.types index) ≡ Some ty
      named index kind there e =
          let within = slice_get_within (types_of a.filled) index kind there in
          let size = h.sized in
          ap (λ (o : Option ℕ). option_map MultiValue o) (at_index i.types index (omega (arith, within, size))) ∙ e

  form_named : (n : ℕ) (params results : List ValType) (ty : InstrSeqType) → All (ValueBelow (length i.types)) results → own params results ≡ Some ty → Named n ty (pick a params results)
  form_named n [] [] ty below is = is
  form_named n [] (x ∷ []) ty below is = rw (value_read i.types x (All-head (ValueBelow (length i.types)) x [] below)) is
  form_named n [] (x ∷ (y ∷ ys)) ty below is = found_named n [] (x ∷ (y ∷ ys)) ty is
  form_named n (x ∷ xs) results ty below is = found_named n (x ∷ xs) results ty is

  kind_named : (n : ℕ) (form : Form) (ty : InstrSeqType) → FormBelow (length i.types) form → form_block form ≡ Some ty → block_named sees (form_pick a (blocks.Type n) form) ≡ Some ty
  kind_named n (FunctionForm params results) ty below is = form_named n params results ty below.1 is
  kind_named n (StructForm fields) ty below is = none_some ty is
  kind_named n (ArrayForm field) ty below is = none_some ty is

  type_named : (n : ℕ) (ty : InstrSeqType) (o : Option Kind) → slice_get (types_of a.filled) n ≡ o → written_block sees (blocks.Type n) ≡ Some ty → block_named sees (kind_pick a (blocks.Type n) o) ≡ Some ty
  type_named n ty None none is = none_some ty (sym (ap (λ (o : Option ℕ). function_block sees o) (none_in i.types (types_of a.filled) n h.sized none)) ∙ is)
  type_named n ty (Some kind) there is = kind_named n kind.form ty (h.names n kind there).0 (sym (written_at n kind there) ∙ is)

  pub blocks_are_named : (w : BlockType) (ty : InstrSeqType) → written_block sees w ≡ Some ty → block_named sees (block_pick a w) ≡ Some ty
  blocks_are_named blocks.Empty ty is = is
  blocks_are_named (blocks.Value v) ty is = is
  blocks_are_named (blocks.Type n) ty is = type_named n ty (slice_get (types_of a.filled) n) refl is

-- ---- memories

wide_is : (x : Option Memory) (g : Option modules.Memory) → option_map (λ (m : Memory). m.memory64) x ≡ option_map (λ (m : modules.Memory). m.wide) g
    → option_map_or (λ (m : Memory). m.memory64) x false ≡ grammar.has_wide g
wide_is None None e = refl
wide_is None (Some m) e = absurd cc
wide_is (Some x) None e = absurd cc
wide_is (Some x) (Some m) e = some_is x.memory64 m.wide e

-- ---- the file

pub is_around : (e : ModuleEnv) (i : Ids) (function locals : ℕ) (features : WasmFeatures) (a : Around) → IsFiled e i function locals features a → IsAround (sight_in e function i) features locals a
is_around e i function locals features a h = record {
  features_are = h.features_are;
  sees = record { rooms = rooms; blocks = blocks_are e function i a h.same_is h.types_are; wide = λ n. looked (slice_get i.memories n) ∙ wide_is (memory_named e i n) (slice_index_or a.filled.memories n None) (h.wide_are n); counted = h.counted_is };
}
  where
    looked : (o : Option ℕ) → has_wide (sight_in e function i) o ≡ option_map_or (λ (m : Memory). m.memory64) (option_and_then (item_at e.memories.now) o) false
    looked None = refl
    looked (Some id) = refl

    rooms : (labels : ℕ) (space : Space) → room (sight_in e function i) labels space ≡ grammar.room a locals labels space
    rooms labels Types = h.types_are.sized
    rooms labels Functions = h.functions_are
    rooms labels Tables = h.tables_are
    rooms labels Memories = h.memories_are
    rooms labels Tags = h.tags_are
    rooms labels Globals = h.globals_are
    rooms labels ElementSegments = h.elements_are
    rooms labels DataSegments = h.segments_are
    rooms labels Locals = h.locals_are
    rooms labels Labels = refl
