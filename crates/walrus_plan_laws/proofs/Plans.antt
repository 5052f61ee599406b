-- Lemmas: emission's numbers are those of its plan.
use Rattle.std.specs.Prelude.{ℕ, zero, suc, ◌+◌, ◌<◌, ◌≡◌, Bool, List, [], ◌∷◌, ◌++◌, map, fold, Contains, Option, Some, None, IsSome, slice_get, slice_index_or, refl, if◌then◌else◌}
use Rattle.std.specs.List.{AllByRecursion}
use Rattle.std.specs.Option.{unwrap_or}
use Rattle.std.proofs.Common.{ap, sym, ◌∙◌, subst, arith, append-nil}
use Rattle.std.proofs.lemmas.Bool.{eq-eqb, ne_eqb}
use Rattle.std.proofs.lemmas.Option.{none-some, same_Some}
use Rattle.wasm_operators.specs.Items.{Space, Types, Functions, Tables, Memories, Tags, Globals, ElementSegments, DataSegments, Locals, Labels}
use Rattle.wasm_grammar.specs.Modules as grammar
use Rattle.wasm_import_links.specs.Links.{ImportsLink, slot_import, table_brought}
use Rattle.wasm_canonical.specs.Dense.{IsOwnFunction}
use Rattle.wasm_part.specs.Closed.{IsListed}
use Rattle.wasm_part.specs.Order.{InOrder, OwnBefore, brought_by, import_of, size_of}
use Rattle.wasm_part.specs.Part.{Plan}
use Rattle.walrus_index_maps.specs.Maps.{Indices, Numbering, no_indices, unnumbered}
use Rattle.walrus_pairing.specs.Looks.{number_of}
use Rattle.walrus_forms.specs.Renaming.{index_at}
use Rattle.walrus_emit_due.specs.Slots.{live_at}
use Rattle.walrus_types.specs.declared.emit.EmittedTypes.{EmittedTypes}
use Rattle.walrus_module.specs.declared.module.Module.{Module}
use Rattle.walrus_module.specs.Parts.{parts, Module as Parts}
use Rattle.walrus_module.specs.walrus_collections.LookUps.{items}
use Rattle.walrus_module_items.specs.declared.data.Data.{Data}
use Rattle.walrus_meaning.specs.Meaning.{means}
use Rattle.walrus_emit_numbers.specs.declared.facts.BodyFacts.{BodyFacts}
use Rattle.walrus_emit_numbers.specs.Numbers.{data_from, element_numbered, function_in_turn, functions_at, import_in_turn, memory_in_turn, numbers_of, table_in_turn, tag_in_turn, global_in_turn, type_in_turn, own_global, own_memory, own_tag}
use Rattle.walrus_due_laws.specs.Listed.{LivingAreListed}
use Rattle.walrus_due_laws.specs.Spelled.{Follows}
use Rattle.walrus_plan_laws.specs.Plans.{living, new_numbers, own_in, own_of, place_in, plan_of}
use Rattle.walrus_plan_laws.specs.Emissions.{EmissionsHavePlans, IsReady}
use Rattle.walrus_plan_laws.proofs.Bodies.{own_told, told_fit, told_import, told_own, told_rise, told_sizes}
use Rattle.walrus_plan_laws.proofs.Lists.{Apart, In, all_in, apart_told, contains_at, rise_apart, rises}
use Rattle.walrus_plan_laws.proofs.Means.{links, none_brought}
use Rattle.walrus_plan_laws.proofs.Orders.{functions_ordered, in_ordered, ordered_apart, ordered_in}
use Rattle.walrus_plan_laws.proofs.Owns.{elements_own, globals_own, imports_bring, memories_own, segments_own, tables_own, tags_own}
use Rattle.walrus_plan_laws.proofs.Slots.{has_living, living_has, living_rises}
use Rattle.walrus_plan_laws.proofs.Spaces.{at_number, in_joined, is_filled, joined_apart, own_rises, space_apart, space_has, space_lives, space_own}
use Rattle.walrus_plan_laws.proofs.Turns.{AreNumbers, turn, turned}
use Rattle.walrus_plan_laws.proofs.Views.{elements_seen, functions_seen, given_numbers, globals_seen, memories_seen, no_locals, segments_seen, tables_seen, tags_seen, types_seen, view}

-- ---- places

same_option : (o q : Option ℕ) → ((n : ℕ) → o ≡ Some n → q ≡ Some n) → ((n : ℕ) → q ≡ Some n → o ≡ Some n) → o ≡ q
same_option None None to from = refl
same_option None (Some n) to from = from n refl
same_option (Some n) q to from = sym (to n refl)

place_is : (ns : List ℕ) → Apart ns → (i n : ℕ) → slice_get ns i ≡ Some n → place_in n ns ≡ i
place_is [] h i n e = absurd (none-some n e)
place_is (m ∷ ns) h zero n e = ap (λ (b : Bool). if b then 0 else suc (place_in n ns)) (eq-eqb m n (same_Some m n e))
place_is (m ∷ ns) h (suc i) n e =
    ap (λ (b : Bool). if b then 0 else suc (place_in n ns)) (ne_eqb m n (λ same. h.0 (i, e ∙ ap (λ (k : ℕ). Some k) (sym same))))
    ∙ ap (λ (k : ℕ). suc k) (place_is ns h.1 i n e)

slot_filled : {A : Type 0} (brings : A → Option ℕ) (xs : List (Option A)) (n k : ℕ) → slice_index_or (map (slot_import brings) xs) n None ≡ Some k → IsSome (live_at xs n)
slot_filled brings [] n k e = absurd (none-some k e)
slot_filled brings (None ∷ xs) zero k e = absurd (none-some k e)
slot_filled brings (Some x ∷ xs) zero k e = refl
slot_filled brings (x ∷ xs) (suc n) k e = slot_filled brings xs n k e

module _ {B : Type 0} (input : Module B) (facts : List BodyFacts) (order : List ℕ) (emitted : EmittedTypes) (ready : IsReady input facts order emitted) where
  abbrev a : Parts
  a = parts input

  abbrev m : grammar.Module
  m = means a

  abbrev types : List ℕ
  types = emitted.ids.items

  abbrev functions : List ℕ
  functions = functions_at facts order

  abbrev brings : Space → List ℕ
  brings space = brought_by m space (living m.imports)

  abbrev table_ids : List ℕ
  table_ids = own_of m Tables (living m.tables)

  abbrev memory_ids : List ℕ
  memory_ids = own_of m Memories (living m.memories)

  abbrev tag_ids : List ℕ
  tag_ids = own_of m Tags (living m.tags)

  abbrev global_ids : List ℕ
  global_ids = own_of m Globals (living m.globals)

  abbrev element_ids : List ℕ
  element_ids = living m.elements

  link : ImportsLink m
  link = links a ready.bound

  -- ---- emission's numbers are given one by one

  abbrev numbers : Indices
  numbers = numbers_of input types functions

  abbrev given : Indices
  given = given_numbers types functions table_ids memory_ids tag_ids global_ids element_ids (items input.imports) (items input.data_segments)

  numbers_given : numbers ≡ given
  numbers_given =
      let brought = fold import_in_turn (fold type_in_turn no_indices types) (items input.imports) in
      let e2 = fold function_in_turn brought functions in
      let e3 = fold table_in_turn e2 (own_of m Tables (living m.tables)) in
      let e4 = fold memory_in_turn e3 (own_of m Memories (living m.memories)) in
      let e5 = fold tag_in_turn e4 (own_of m Tags (living m.tags)) in
      let e6 = fold global_in_turn e5 (own_of m Globals (living m.globals)) in
      let on_elements = λ (i : Indices). data_from 0 (fold element_numbered i (items input.elements)) (items input.data_segments) in
      let on_globals = λ (i : Indices). on_elements (fold own_global i (items input.globals)) in
      let on_tags = λ (i : Indices). on_globals (fold own_tag i (items input.tags)) in
      let on_memories = λ (i : Indices). on_tags (fold own_memory i (items input.memories)) in
      ap on_memories (tables_own a ready.ids.tables e2)
      ∙ ap on_tags (memories_own a ready.ids.memories e3)
      ∙ ap on_globals (tags_own a ready.ids.tags e4)
      ∙ ap on_elements (globals_own a ready.ids.globals e5)
      ∙ ap (λ (i : Indices). data_from 0 i (items input.data_segments)) (elements_own a ready.ids.elements e6)

  in_view : (space : Space) (ids : List ℕ) → view space given ≡ fold turn unnumbered ids → Apart ids → AreNumbers ids (view space numbers).number
  in_view space ids same apart = subst (λ (n : Numbering). AreNumbers ids n.number) (sym (ap (view space) numbers_given ∙ same)) (turned ids apart)

  -- ---- functions

  own_functions : (n : ℕ) → In functions n → import_of m Functions n ≡ None
  own_functions n at = told_import a facts ready.known n (ordered_in facts order ready.sorted n at)

  functions_apart : Apart (brings Functions ++ functions)
  functions_apart = joined_apart m link Functions refl functions own_functions (ordered_apart facts order ready.sorted 0 (told_rise a facts ready.known))

  functions_have : (n : ℕ) (f : grammar.Function) → slice_index_or m.functions n None ≡ Some f → In (brings Functions ++ functions) n
  functions_have n f is =
      in_joined m link Functions refl functions own_functions n
      (λ none. in_ordered facts order ready.sorted n (own_told a facts ready.known ready.bound n f is none))

  -- ---- the numbers of each space

  functions_numbered : AreNumbers (brings Functions ++ functions) numbers.functions.number
  functions_numbered = in_view Functions (brings Functions ++ functions) (functions_seen types functions table_ids memory_ids tag_ids global_ids element_ids (items input.imports) (items input.data_segments) brings (imports_bring a)) functions_apart

  tables_numbered : AreNumbers (brings Tables ++ table_ids) numbers.tables.number
  tables_numbered =
      in_view Tables (brings Tables ++ table_ids) (tables_seen types functions table_ids memory_ids tag_ids global_ids element_ids (items input.imports) (items input.data_segments) brings (imports_bring a)) (space_apart m link Tables refl m.tables)

  memories_numbered : AreNumbers (brings Memories ++ memory_ids) numbers.memories.number
  memories_numbered =
      in_view Memories (brings Memories ++ memory_ids) (memories_seen types functions table_ids memory_ids tag_ids global_ids element_ids (items input.imports) (items input.data_segments) brings (imports_bring a))
      (space_apart m link Memories refl m.memories)

  tags_numbered : AreNumbers (brings Tags ++ tag_ids) numbers.tags.number
  tags_numbered =
      in_view Tags (brings Tags ++ tag_ids) (tags_seen types functions table_ids memory_ids tag_ids global_ids element_ids (items input.imports) (items input.data_segments) brings (imports_bring a)) (space_apart m link Tags refl m.tags)

  globals_numbered : AreNumbers (brings Globals ++ global_ids) numbers.globals.number
  globals_numbered =
      in_view Globals (brings Globals ++ global_ids) (globals_seen types functions table_ids memory_ids tag_ids global_ids element_ids (items input.imports) (items input.data_segments) brings (imports_bring a))
      (space_apart m link Globals refl m.globals)

  no_elements : brings ElementSegments ≡ []
  no_elements = none_brought m ElementSegments (λ s. refl) (living m.imports)

  no_segments : brings DataSegments ≡ []
  no_segments = none_brought m DataSegments (λ s. refl) (living m.imports)

  elements_apart : Apart (brings ElementSegments ++ living m.elements)
  elements_apart = subst (λ (l : List ℕ). Apart (l ++ living m.elements)) (sym no_elements) (rise_apart 0 (living m.elements) (living_rises m.elements))

  elements_numbered : AreNumbers (brings ElementSegments ++ living m.elements) numbers.elements.number
  elements_numbered =
      in_view ElementSegments (brings ElementSegments ++ living m.elements) (elements_seen types functions table_ids memory_ids tag_ids global_ids element_ids (items input.imports) (items input.data_segments) brings (imports_bring a)) elements_apart

  segments_numbered : AreNumbers (brings DataSegments ++ living m.segments) numbers.segments.number
  segments_numbered =
      let ids = map (λ (d : Data). d.id) (items input.data_segments) in
      let same : ids ≡ living m.segments = segments_own a ready.ids.segments in
      let apart : Apart ids = subst Apart (sym same) (rise_apart 0 (living m.segments) (living_rises m.segments)) in
      subst (λ (i : Indices). AreNumbers (brings DataSegments ++ living m.segments) i.segments.number) (sym numbers_given)
      (subst (λ (l : List ℕ). AreNumbers (l ++ living m.segments) given.segments.number) (sym no_segments)
      (subst (λ (l : List ℕ). AreNumbers l given.segments.number) same
      (segments_seen types functions table_ids memory_ids tag_ids global_ids element_ids (items input.imports) (items input.data_segments) brings (imports_bring a) no_segments apart)))

  -- ---- the plan

  abbrev p : Plan
  p = plan_of input facts order emitted

  locals_none : numbers.locals ≡ no_indices.locals
  locals_none = ap (λ (i : Indices). i.locals) numbers_given ∙ no_locals types functions table_ids memory_ids tag_ids global_ids element_ids (items input.imports) (items input.data_segments)

  value_is : (o : Option ℕ) (n : ℕ) → o ≡ Some n → unwrap_or o 0 ≡ n
  value_is o n e = ap (λ (o : Option ℕ). unwrap_or o 0) e

  names_follow : Follows (new_numbers numbers) (number_of numbers 0)
  names_follow Types id n e = value_is (numbers.types.number id) n e
  names_follow Functions id n e = value_is (numbers.functions.number id) n e
  names_follow Tables id n e = value_is (numbers.tables.number id) n e
  names_follow Memories id n e = value_is (numbers.memories.number id) n e
  names_follow Tags id n e = value_is (numbers.tags.number id) n e
  names_follow Globals id n e = value_is (numbers.globals.number id) n e
  names_follow ElementSegments id n e = value_is (numbers.elements.number id) n e
  names_follow DataSegments id n e = value_is (numbers.segments.number id) n e
  names_follow Locals id n e = absurd (none-some n (sym (ap (λ (l : ℕ → ℕ → Option ℕ). l 0 id) locals_none) ∙ e))
  names_follow Labels id n e = absurd (none-some n e)

  listed_is : (space : Space) → IsListed space → p.listed space ≡ brings space ++ own_in m functions space
  listed_is Types h = absurd h
  listed_is Functions h = refl
  listed_is Tables h = refl
  listed_is Memories h = refl
  listed_is Tags h = refl
  listed_is Globals h = refl
  listed_is ElementSegments h = refl
  listed_is DataSegments h = refl
  listed_is Locals h = absurd h
  listed_is Labels h = absurd h

  own_is : (space : Space) → IsListed space → AllByRecursion (λ n. import_of m space n ≡ None) (own_in m functions space)
  own_is Types h = absurd h
  own_is Functions h = all_in (λ n. import_of m Functions n ≡ None) functions own_functions
  own_is Tables h = space_own m link Tables refl m.tables
  own_is Memories h = space_own m link Memories refl m.memories
  own_is Tags h = space_own m link Tags refl m.tags
  own_is Globals h = space_own m link Globals refl m.globals
  own_is ElementSegments h = all_in (λ n. import_of m ElementSegments n ≡ None) (living m.elements) (λ n at. refl)
  own_is DataSegments h = all_in (λ n. import_of m DataSegments n ≡ None) (living m.segments) (λ n at. refl)
  own_is Locals h = absurd h
  own_is Labels h = absurd h

  ordered_is : (space : Space) → IsListed space → (i j k n : ℕ) → i < j → slice_get (own_in m functions space) i ≡ Some k → slice_get (own_in m functions space) j ≡ Some n → OwnBefore m space k n
  ordered_is Types h i j k n lt e f = absurd h
  ordered_is Functions h i j k n lt e f =
      functions_ordered facts order ready.sorted (size_of m) (told_sizes a facts ready.known) (told_fit a facts ready.known ready.fit) 0 (told_rise a facts ready.known) i j k n lt e f
  ordered_is Tables h i j k n lt e f = rises 0 table_ids (own_rises m link Tables refl m.tables) i j k n lt e f
  ordered_is Memories h i j k n lt e f = rises 0 memory_ids (own_rises m link Memories refl m.memories) i j k n lt e f
  ordered_is Tags h i j k n lt e f = rises 0 tag_ids (own_rises m link Tags refl m.tags) i j k n lt e f
  ordered_is Globals h i j k n lt e f = rises 0 global_ids (own_rises m link Globals refl m.globals) i j k n lt e f
  ordered_is ElementSegments h i j k n lt e f = rises 0 (living m.elements) (living_rises m.elements) i j k n lt e f
  ordered_is DataSegments h i j k n lt e f = rises 0 (living m.segments) (living_rises m.segments) i j k n lt e f
  ordered_is Locals h i j k n lt e f = absurd h
  ordered_is Labels h i j k n lt e f = absurd h

  abbrev order_is : InOrder m p
  order_is = record {
    imports = rises 0 (living m.imports) (living_rises m.imports);
    brings = λ i n e. place_is (living m.imports) (rise_apart 0 (living m.imports) (living_rises m.imports)) i n e;
    own = own_in m functions;
    listed = listed_is;
    are_own = own_is;
    ordered = ordered_is;
  }

  living_contains : {A : Type 0} (slots : List (Option A)) (n : ℕ) (x : A) → slice_index_or slots n None ≡ Some x → Contains (living slots) n
  living_contains slots n x e = let at = living_has slots n x e in contains_at (living slots) at.0 n at.1

  all_live : LivingAreListed p m
  all_live = record {
    imports = living_contains m.imports;
    functions = λ n f e. at_number (brings Functions ++ functions) numbers.functions.number functions_numbered n (functions_have n f e);
    tables = λ n t e. at_number (brings Tables ++ table_ids) numbers.tables.number tables_numbered n (space_has m link Tables refl m.tables n t e);
    memories = λ n x e. at_number (brings Memories ++ memory_ids) numbers.memories.number memories_numbered n (space_has m link Memories refl m.memories n x e);
    tags = λ n t e. at_number (brings Tags ++ tag_ids) numbers.tags.number tags_numbered n (space_has m link Tags refl m.tags n t e);
    globals = λ n g e. at_number (brings Globals ++ global_ids) numbers.globals.number globals_numbered n (space_has m link Globals refl m.globals n g e);
    exports = living_contains m.exports;
    elements = λ n x e. at_number (brings ElementSegments ++ living m.elements) numbers.elements.number elements_numbered n
        (subst (λ (l : List ℕ). In (l ++ living m.elements) n) (sym no_elements) (living_has m.elements n x e));
    segments = λ n x e. at_number (brings DataSegments ++ living m.segments) numbers.segments.number segments_numbered n
        (subst (λ (l : List ℕ). In (l ++ living m.segments) n) (sym no_segments) (living_has m.segments n x e));
  }

  tables_live : (id n : ℕ) → number_of numbers 0 Tables id ≡ Some n → IsSome (live_at m.tables id)
  tables_live id n e = space_lives m link Tables refl m.tables (λ id k e. slot_filled table_brought m.tables id k e) id (n, tables_numbered.told id n e)

  segments_live : AllByRecursion (λ (id : ℕ). IsSome (live_at m.segments id)) (p.listed DataSegments)
  segments_live =
      subst (λ (l : List ℕ). AllByRecursion (λ (id : ℕ). IsSome (live_at m.segments id)) (l ++ living m.segments)) (sym no_segments)
      (all_in (λ (id : ℕ). IsSome (live_at m.segments id)) (living m.segments) (λ id at. let h = has_living m.segments id at in is_filled (live_at m.segments id) h.0 h.1))

  -- ---- types

  no_types : brings Types ≡ []
  no_types = none_brought m Types (λ s. refl) (living m.imports)

  types_apart : Apart types
  types_apart = apart_told (λ (id : ℕ). slice_index_or emitted.indices id None) 0 types
      (λ i id e. let same : i ≡ 0 + i = omega arith in (ready.types i id).0 e ∙ ap (λ (n : ℕ). Some n) same)

  types_numbered : AreNumbers types numbers.types.number
  types_numbered =
      let same : types ++ brings Types ≡ types = ap (λ (l : List ℕ). types ++ l) no_types ∙ append-nil types in
      subst (λ (l : List ℕ). AreNumbers l numbers.types.number) same
      (in_view Types (types ++ brings Types) (types_seen types functions table_ids memory_ids tag_ids global_ids element_ids (items input.imports) (items input.data_segments) brings (imports_bring a))
      (subst Apart (sym same) types_apart))

  types_renamed : (id : ℕ) → p.renames Types id ≡ index_at emitted.indices id
  types_renamed id =
      ap (λ (o : Option ℕ). unwrap_or o 0)
      (same_option (numbers.types.number id) (slice_index_or emitted.indices id None) (λ n e. (ready.types n id).0 (types_numbered.told id n e)) (λ n e. types_numbered.has id n ((ready.types n id).1 e)))

pub emissions_have_plans : {B : Type 0} → EmissionsHavePlans B
emissions_have_plans input facts order emitted ready = record {
  serves = record {
    follows = names_follow input facts order emitted ready;
    numbered = tables_live input facts order emitted ready;
    linked = link input facts order emitted ready;
    order = order_is input facts order emitted ready;
    lives = all_live input facts order emitted ready;
    exports = rises 0 (living (means (parts input)).exports) (living_rises (means (parts input)).exports);
    bodies = all_in (λ (id : ℕ). IsOwnFunction (live_at (means (parts input)).functions id)) (functions_at facts order) (λ n at. told_own (parts input) facts ready.known n (ordered_in facts order ready.sorted n at));
    segments = segments_live input facts order emitted ready;
    declared = refl;
  };
  own = refl;
  types = types_renamed input facts order emitted ready;
}
