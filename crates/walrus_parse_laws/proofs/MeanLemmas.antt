-- Lemmas: a module that was read means the module of its file.
use Rattle.std.specs.Prelude.{ℕ, ◌≡◌, ◌<◌, ◌+◌, Bool, false, List, [], ◌++◌, if◌then◌else◌, IfSome, length, map, Option, Some, None, slice_get, slice_index_or, refl}
use Rattle.std.specs.List.{flat_map}
use Rattle.std.specs.Option.{option_map, unwrap_or}
use Rattle.std.proofs.Common.{ap, sym, subst, ◌∙◌, arith}
use Rattle.walrus_named_bodies.specs.walrus_file_bodies.walrus_items_into.walrus_module_env.walrus_handler_types.walrus_body_steps.wasm_body_grammar.Codes.{Code, ReadsCodes, param_count}
use Rattle.walrus_named_bodies.specs.walrus_file_bodies.walrus_items_into.walrus_module_env.walrus_handler_types.walrus_body_steps.wasm_body_grammar.Laws.{BodiesReadOnce}
use Rattle.walrus_named_bodies.specs.walrus_file_bodies.walrus_items_into.walrus_module_env.walrus_handler_types.walrus_body_steps.wasm_body_grammar.Rules.{Around}
use Rattle.walrus_named_bodies.specs.walrus_file_bodies.walrus_items_into.walrus_module_env.walrus_handler_types.walrus_body_steps.wasm_body_grammar.wasm_grammar.Modules as grammar
use Rattle.walrus_named_bodies.specs.walrus_file_bodies.walrus_items_into.walrus_module_env.walrus_handler_types.walrus_body_steps.wasm_body_grammar.wasm_grammar.States.{types_of}
use Rattle.walrus_named_bodies.specs.walrus_file_bodies.walrus_items_into.walrus_module_env.walrus_handler_types.walrus_body_steps.wasm_body_grammar.wasm_grammar.walrus_forms.Forms.{params_of}
use Rattle.walrus_named_bodies.specs.walrus_file_bodies.walrus_items_into.walrus_module_env.walrus_handler_types.walrus_body_steps.wasm_body_grammar.wasm_grammar.walrus_forms.Kinds.{Kind}
use Rattle.walrus_named_bodies.specs.walrus_file_bodies.walrus_items_into.walrus_module_env.walrus_handler_types.walrus_body_steps.wasm_body_grammar.wasm_grammar.walrus_forms.Renaming.{at, renamed_kind, renamed_value}
use Rattle.walrus_named_bodies.specs.walrus_file_bodies.walrus_items_into.walrus_module_env.walrus_handler_types.walrus_body_steps.wasm_body_grammar.wasm_operators.Items.{Locals}
use Rattle.walrus_named_bodies.specs.walrus_file_bodies.walrus_items_into.walrus_module_env.walrus_handler_types.walrus_body_steps.wasm_body_grammar.wasm_operators.declared.block_type.BlockType.{BlockType}
use Rattle.walrus_named_bodies.specs.wasm_name_payloads.Names.{Given, local_count, names_of}
use Rattle.wasm_import_links.specs.wasm_ruled_modules.Rules.{ReadModulesAreRuled}
use Rattle.walrus_named_bodies.specs.walrus_file_bodies.Laws.{BodiesReadFiles}
use Rattle.walrus_named_bodies.specs.walrus_file_bodies.Ready.{bodies_in}
use Rattle.walrus_named_bodies.specs.walrus_file_bodies.walrus_items_into.Laws.{FilledFunctionsStand, FilledModulesAreFiled, NamedLocalsCount, NamesLocals}
use Rattle.walrus_named_bodies.specs.walrus_file_bodies.walrus_items_into.Numbers.{AreNumbersOf, numbers_of, types_in}
use Rattle.walrus_named_bodies.specs.walrus_file_bodies.walrus_items_into.walrus_functions_into.Bodies.{bodiless_from}
use Rattle.walrus_named_bodies.specs.walrus_file_bodies.walrus_items_into.walrus_functions_into.declared.bodies.FunctionBody.{FunctionBody}
use Rattle.walrus_named_bodies.specs.walrus_file_bodies.walrus_items_into.walrus_module_env.wasm_run_names.Picks.{block_pick}
use Rattle.walrus_named_bodies.specs.walrus_file_bodies.walrus_items_into.walrus_tables_into.walrus_sections_into.Becomes.{look_of}
use Rattle.walrus_named_bodies.specs.walrus_file_bodies.walrus_items_into.walrus_tables_into.walrus_sections_into.Numbers.{upto}
use Rattle.walrus_named_bodies.specs.walrus_file_bodies.walrus_items_into.walrus_tables_into.walrus_section_values.Globals.{global_of}
use Rattle.walrus_named_bodies.specs.walrus_file_bodies.walrus_items_into.walrus_tables_into.walrus_sections_into.walrus_known_sections.Items.{data_of, element_of, function_of, memory_of, table_of, tag_of}
use Rattle.walrus_named_bodies.specs.walrus_file_bodies.walrus_items_into.walrus_tables_into.walrus_sections_into.walrus_known_sections.State.{state_of}
use Rattle.walrus_named_bodies.specs.walrus_file_bodies.walrus_items_into.walrus_tables_into.walrus_sections_into.walrus_known_sections.Types.{kinds_in}
use Rattle.walrus_named_bodies.specs.walrus_file_bodies.walrus_items_into.walrus_tables_into.walrus_sections_into.walrus_known_sections.declared.sections.Sections.{Sections}
use Rattle.walrus_named_bodies.specs.walrus_file_bodies.walrus_items_into.wasm_module_rules.Linked.{Each, IsFunctionType}
use Rattle.walrus_named_bodies.specs.walrus_file_bodies.walrus_items_into.wasm_module_rules.wasm_modules.Modules.{around, codes, module_of}
use Rattle.walrus_named_bodies.specs.walrus_file_bodies.Read.{steps_grow}
use Rattle.walrus_named_bodies.specs.walrus_file_bodies.walrus_module_bodies.Steps.{state}
use Rattle.walrus_function_types.specs.Growth.{EntryTypesGrow, FoundTypesStay, Grows, TablesGrowOn}
use Rattle.walrus_named_bodies.specs.walrus_file_bodies.walrus_items_into.walrus_functions_into.walrus_types_into.Into.{NewTypesStand, TypesNameBelow}
use Rattle.walrus_named_bodies.specs.walrus_file_bodies.walrus_items_into.walrus_module_bodies.walrus_body_trees.walrus_meaning.Meaning.{means, own_function, own_origin, slots_of, type_ids}
use Rattle.walrus_body_laws.specs.walrus_pairing.walrus_index_maps.Maps.{Ids}
use Rattle.walrus_named_bodies.specs.walrus_file_bodies.walrus_items_into.walrus_module_bodies.walrus_body_trees.walrus_meaning.walrus_linked.Linked.{IsLinked, IsWhole}
use Rattle.walrus_named_bodies.specs.walrus_item_names.walrus_module.walrus_module_items.Functions.{type_of}
use Rattle.walrus_named_bodies.specs.walrus_item_names.walrus_module.walrus_module_items.declared.function.FunctionKind.TheVariants as kinds
use Rattle.walrus_named_bodies.specs.walrus_file_bodies.walrus_items_into.walrus_module_env.walrus_handler_types.walrus_body_steps.wasm_normal_form.Bodies.{used_keys}
use Rattle.walrus_named_bodies.specs.walrus_file_bodies.walrus_items_into.walrus_module_env.walrus_handler_types.walrus_body_steps.wasm_normal_form.Normal.{normal_ops}
use Rattle.walrus_named_bodies.specs.walrus_item_names.walrus_module.Parts.{Module, parts}
use Rattle.walrus_named_bodies.specs.walrus_item_names.walrus_module.walrus_types.Table.{Table, next_id, type_at}
use Rattle.walrus_arena.specs.Arena.{Arena}
use Rattle.walrus_named_bodies.specs.walrus_item_names.walrus_module.walrus_module_items.declared.tag.Tag.{Tag}
use Rattle.walrus_parse_laws.specs.Added.{Signature, added, single}
use Rattle.walrus_parse_laws.specs.Files.{ReadModulesHaveHandlers, bodies_handle, sent}
use Rattle.walrus_parse_laws.specs.Groups.{ReadModulesHaveGroups, handlers_of}
use Rattle.walrus_parse_laws.specs.Handlers.{signatures}
use Rattle.walrus_parse_laws.specs.Items.{ReadModulesHaveItems}
use Rattle.walrus_parse_laws.specs.FilledGroups.{GroupsMean, ReadTypesAreDeclared, kept}
use Rattle.walrus_parse_laws.specs.Meaning.{CustomsMean, OrderedStay, OthersStay, own_custom, type_id}
use Rattle.walrus_parse_laws.specs.Renamed.{retyped_table}
use Rattle.walrus_named_bodies.specs.Named.{all_names}
use Rattle.walrus_named_bodies.specs.Parsed.{named_in, read_features}
use Rattle.walrus_named_bodies.specs.walrus_item_names.Holder.{Holder}
use Rattle.walrus_named_bodies.specs.walrus_item_names.Names.{bare_function, bare_global, bare_local, bare_tag, bare_type}
use Rattle.walrus_named_bodies.specs.walrus_item_names.Sent.{sent_names}
use Rattle.walrus_parse_laws.specs.Linked.{ReadModulesAreLinked}
use Rattle.walrus_parse_laws.proofs.WholeLemmas.{bodies_are_due, bodies_lie}
use Rattle.walrus_named_bodies.proofs.walrus_file_bodies.StopLemmas.{count_in}
use Rattle.walrus_parse_laws.proofs.ItemsSlotLemmas.{each_at, seen_at}
use Rattle.walrus_parse_laws.specs.Locals.{ReadBodiesHaveTheirLocals, kept_numbers, typed}
use Rattle.walrus_parse_laws.specs.BodiesTexts.{ReadBodiesMeanTheirs, naming, text_of}
use Rattle.walrus_parse_laws.specs.Meant.{body_meant, picks}
use Rattle.walrus_parse_laws.specs.Means.{AreApart, AreLocals, AreSized, HasIndices, HasLocals, HasNames, HasSequences, HasTypedLocals, HasTypesInOrder, ReadModulesMeanFiles, TypeIs, function_bodies, has_local, holder_of, kind_types, names_in, section_if}
use Rattle.walrus_parse_laws.proofs.MeaningBodyLemmas.{BodyOf, all_have}
use Rattle.walrus_parse_laws.proofs.MeaningFileLemmas.{picks_same, plain_same}
use Rattle.walrus_parse_laws.proofs.MeaningFunctionLemmas.{BodyAt, EachHas, at_start, bodies_are, bodies_have, functions_same, has_at, has_from, heads_at, own_are, own_numbers}
use Rattle.walrus_parse_laws.proofs.MeaningIndexLemmas.{IsUnshared, as_many_bodied, codes_once, slots_many, unshared, unshared_bare}
use Rattle.walrus_parse_laws.proofs.MeaningNameLemmas.{filled_bare, named_so, steps_bare, synthetic_same}
use Rattle.walrus_parse_laws.proofs.OwnLemmas.{AreFresh, IsGiven, all_fresh, all_given, none_fresh, owned_there}
use Rattle.walrus_parse_laws.proofs.SizeLemmas.{MemorySmall, TableSmall, files_are_sized, tables_stay}
use Rattle.walrus_parse_laws.proofs.StandLemmas.{IsStood, all_stood, sequences_stand}
use Rattle.walrus_parse_laws.proofs.TypeIdLemmas.{MoreGroups, more_stepped, own_ids}
use Rattle.walrus_parse_laws.proofs.MeaningTypeLemmas.{as_many, kind_stands, some_kind}

-- ---- one function

module _ (m : Module) (found : Ids) (pick : BlockType → BlockType) (file : grammar.Module) (n : ℕ) (g : grammar.Function) (x : grammar.Body) (b : BodyOf m found pick file n x) where
  -- as it is seen in what the module means
  slot_at : slice_index_or (slots_of (own_function m.locals) m.funcs) n None ≡ Some (own_function m.locals b.function)
  slot_at = seen_at (own_function m.locals) m.funcs.slots n ∙ ap (option_map (own_function m.locals)) b.there

  -- it is whole, and its type has as many parameters as that of the file's function
  counts : IsWhole m.types b.function.kind → (ty : ℕ) → type_of b.function.kind ≡ ty → (kind : Kind) → slice_get (types_of file) g.ty ≡ Some kind → TypeIs m.types ty (renamed_kind (at found.types) kind)
      → length b.local.args.items ≡ param_count file g.ty
  counts whole ty same_type kind there stands =
      let own = subst (IsWhole m.types) b.kind whole in
      let typed_so : type_of (kinds.Local b.local) ≡ ty = sym (ap type_of b.kind) ∙ same_type in
      as_many (at found.types) m.types ty (slice_get (types_of file) g.ty) kind (length b.local.args.items) there stands
      (subst (λ (k : ℕ). IfSome (type_at m.types k) (λ y. length b.local.args.items ≡ length (params_of y.kind.form))) typed_so own.0.counted)

  body_at : length b.local.args.items ≡ param_count file g.ty → BodyAt found pick file (slots_of (own_function m.locals) m.funcs) n g x
  body_at count = (
    own_function m.locals b.function,
    slot_at,
    ap (own_origin m.locals) b.kind
        ∙ ap (λ (y : grammar.Body). (let o : grammar.Origin grammar.Body = grammar.Own y in o)) (b.body ∙ ap (λ (c : ℕ). body_meant found pick file n c x) count),
  )

  locals_at : length b.local.args.items ≡ param_count file g.ty → HasLocals m found pick n (param_count file g.ty) x
  locals_at count = record {
    function = b.function;
    there = b.there;
    local = b.local;
    kind = b.kind;
    ids = b.ids ∙ ap (λ (c : ℕ). map (naming found n Locals) (kept_numbers c (used_keys c (typed found x).locals (normal_ops pick (text_of x))))) count;
  }

-- ---- the whole

-- the names that are given, by the synthetic ones
abbrev made_by : Bool → Ids → List Given → List Given → List Given
made_by wanted ids made names = sent_names false ids (if wanted then made else []) ++ sent_names wanted ids names

-- but for locals each index of another space than types is its own id
others_in : OrderedStay → (found numbers : Ids) (s : Sections) → AreNumbersOf s numbers → found ≡ record numbers { locals = found.locals } → OthersStay (look_of (record found { locals = λ function. [] }))
others_in ordered found numbers s is same_but = ordered (record found { locals = λ function. [] }) (record {
  functions = (length s.functions.items, ap (λ (j : Ids). j.functions) all);
  tables = (length s.tables.items, ap (λ (j : Ids). j.tables) all);
  memories = (length s.memories.items, ap (λ (j : Ids). j.memories) all);
  tags = (length s.tags.items, ap (λ (j : Ids). j.tags) all);
  globals = (length s.globals.items, ap (λ (j : Ids). j.globals) all);
  elements = (length s.elements.items, ap (λ (j : Ids). j.elements) all);
  segments = (length s.segments.items, ap (λ (j : Ids). j.segments) all);
  locals = refl;
})
  where
    all : record found { locals = λ (function : ℕ). (let none : List ℕ = [] in none) } ≡ record (numbers_of s) { locals = λ (function : ℕ). (let none : List ℕ = [] in none); all_locals = numbers.all_locals }
    all = ap (λ (j : Ids). record j { locals = λ (function : ℕ). (let none : List ℕ = [] in none) }) (same_but ∙ ap (λ (j : Ids). record j { locals = found.locals }) is)

-- each index has an id
indices_in : (found numbers : Ids) (s : Sections) (bodies : List grammar.Body) → AreNumbersOf s numbers → found ≡ record numbers { locals = found.locals }
    → ((f : ℕ) → f < length s.functions.items → length (found.locals f) ≡ local_count (module_of (state_of s) bodies) f) → AreApart found → HasIndices (module_of (state_of s) bodies) found
indices_in found numbers s bodies is same_but counted apart = record {
  functions = ap (λ (j : Ids). j.functions) all ∙ ap upto (sym many);
  tables = ap (λ (j : Ids). j.tables) all ∙ ap upto (sym (slots_many table_of s.tables.items));
  memories = ap (λ (j : Ids). j.memories) all ∙ ap upto (sym (slots_many memory_of s.memories.items));
  tags = ap (λ (j : Ids). j.tags) all ∙ ap upto (sym (slots_many tag_of s.tags.items));
  globals = ap (λ (j : Ids). j.globals) all ∙ ap upto (sym (slots_many global_of s.globals.items));
  elements = ap (λ (j : Ids). j.elements) all ∙ ap upto (sym (slots_many element_of s.elements.items));
  segments = ap (λ (j : Ids). j.segments) all ∙ ap upto (sym (slots_many data_of s.segments.items));
  locals = λ f lt. counted f (omega (arith, lt, many));
  apart = apart;
}
  where
    all : found ≡ record (numbers_of s) { locals = found.locals; all_locals = numbers.all_locals }
    all = same_but ∙ ap (λ (j : Ids). record j { locals = found.locals }) is

    many : length (module_of (state_of s) bodies).functions ≡ length s.functions.items
    many = as_many_bodied (state_of s).filled.functions bodies ∙ slots_many function_of s.functions.items

pub mean_files : {B : Type 0} → ReadModulesHaveItems B → ReadBodiesMeanTheirs B → ReadBodiesHaveTheirLocals B → ReadModulesHaveGroups B → ReadModulesHaveHandlers B → ReadModulesAreLinked B → ReadModulesAreRuled
    → ((given : B → grammar.Custom) → CustomsMean given) → OrderedStay → FilledFunctionsStand B → BodiesReadFiles B → NewTypesStand → TypesNameBelow → FoundTypesStay → TablesGrowOn → EntryTypesGrow
    → FilledModulesAreFiled B → NamedLocalsCount B → BodiesReadOnce → GroupsMean → ReadTypesAreDeclared → ReadModulesMeanFiles B
mean_files {B} have_items mean have_locals have_groups have_handlers are_linked are_ruled customs_mean ordered stands bodies_read stand below stay on enter filed count_locals once groups_mean declared config bytes m found small is =
    let h = is.1 in
    let s = h.sections in
    let features = read_features config in
    let a : Around = around features (state_of s) in
    let file : grammar.Module = module_of (state_of s) h.bodies in
    let pick : BlockType → BlockType = picks features file in
    let r : ℕ → ℕ = type_id (look_of found) in
    let bs : List FunctionBody = bodies_in s h.filled.functions in
    let items = have_items config bytes m found small is in
    let linked : IsLinked (parts m) = are_linked config bytes m found small is in
    let ruled = are_ruled features bytes file items.0 in
    let read = bodies_read features bytes s m.start h.numbers h.filled h.file [] h.bodied h.reads.short small h.reads.sections h.are_filled h.is_file h.bodies_are in
    let same_but : found ≡ record h.numbers { locals = found.locals } =
    h.found_are ∙ read.3 ∙ ap (λ (l : ℕ → List ℕ). record h.numbers { locals = l }) (sym (ap (λ (j : Ids). j.locals) h.found_are)) in
    let types : found.types ≡ (types_in s).ids = ap (λ (j : Ids). j.types) same_but ∙ ap (λ (j : Ids). j.types) h.are_filled.numbers in
    let stand_so = stands features bytes s m.start h.numbers h.filled h.reads.sections h.are_filled in
    let numbers : map (λ (b : FunctionBody). b.number) bs ≡ own_numbers 0 (state_of s).filled.functions =
    stand_so.paired.functions_are ∙ ap (bodiless_from 0) h.are_filled.functions ∙ own_are h.numbers.types 0 s.functions.items in
    let zip = all_have (parts m) found a file bs h.bodies (mean config bytes m found small is) (have_locals config bytes m found small is) in
    let some = bodies_have (λ n x. BodyOf (parts m) found (block_pick a) file n x) 0 (state_of s).filled.functions bs h.bodies numbers zip in
    let all : EachHas (λ n g x. BodyOf (parts m) found pick file n x) 0 file.functions =
    subst (λ (p : BlockType → BlockType). EachHas (λ n g x. BodyOf (parts m) found p file n x) 0 file.functions) (sym (picks_same features (state_of s) h.bodies)) some in
    let types_there = kind_stands stand below stay on config bytes m found is types in
    let whole_at : (n : ℕ) (g : grammar.Function) (x : grammar.Body) → slice_get file.functions n ≡ Some (Some g) → g.origin ≡ grammar.Own x
    → (b : BodyOf (parts m) found pick file n x) × (type_of b.function.kind ≡ r g.ty) × (kind : Kind) × (slice_get (types_of file) g.ty ≡ Some kind) × TypeIs m.types (r g.ty) (renamed_kind (at found.types) kind) =
    λ n g x there o.
    let b = at_zero (λ k. BodyOf (parts m) found pick file k x) n (has_at (λ k f y. BodyOf (parts m) found pick file k y) 0 file.functions n g x all there o) in
    let f = own_function m.locals b.function in
    let ty : type_of b.function.kind ≡ r g.ty = heads_at r (means (parts m)).functions file.functions n f g items.1.functions (slot_at (parts m) found pick file n g x b) there in
    let kind = some_kind (slice_get (types_of file) g.ty) (each_at (λ (z : grammar.Function). IsFunctionType file z.ty) file.functions n g ruled.1.linked.functions_typed (at_start file.functions n g there)) in
    let stood = types_there g.ty kind.kind kind.is in
    let id : r g.ty ≡ stood.0 = ap (λ (o : Option ℕ). unwrap_or o g.ty) stood.1 in
    (b, ty, kind.kind, kind.is, subst (λ (k : ℕ). TypeIs m.types k (renamed_kind (at found.types) kind.kind)) (sym id) stood.2) in
    let own : (n : ℕ) (g : grammar.Function) (x : grammar.Body) → slice_get file.functions n ≡ Some (Some g) → g.origin ≡ grammar.Own x
    → (b : BodyOf (parts m) found pick file n x) × (length b.local.args.items ≡ param_count file g.ty) =
    λ n g x there o. (let t = whole_at n g x there o in let b = t.0 in (b, counts (parts m) found pick file n g x b (linked.whole n b.function b.there) (r g.ty) t.1 t.2 t.3 t.4)) in
    let start = state h.filled.types [] h.numbers h.filled.functions in
    let fit = bodies_lie stands config bytes m found small is in
    let waits = bodies_are_due filed config bytes m found is in
    let reads = subst (λ (cs : List Code). ReadsCodes a cs h.bodies) (sym stand_so.paired.codes_are) h.reads.codes_are in
    let given = all_given stay on enter once h.file features a (count_in s) s.code_start (length bytes) bs h.bodies start h.bodied fit waits reads h.bodies_are in
    let all_own : EachHas (λ n g x. IsGiven h.bodied n x) 0 file.functions = bodies_have (λ n x. IsGiven h.bodied n x) 0 (state_of s).filled.functions bs h.bodies numbers given in
    let stood = all_stood stay on enter once h.file features a (count_in s) s.code_start (length bytes) bs h.bodies start h.bodied fit waits reads h.bodies_are in
    let all_stand : EachHas (λ n g x. IsStood h.file a h.bodied n x) 0 file.functions = bodies_have (λ n x. IsStood h.file a h.bodied n x) 0 (state_of s).filled.functions bs h.bodies numbers stood in
    let bare_funcs : map (option_map bare_function) m.funcs.slots ≡ map (option_map bare_function) h.bodied.functions.slots = ap (λ (x : Holder). x.funcs.slots) h.names.same in
    let bare_types : map (option_map bare_type) m.types.types ≡ map (option_map bare_type) h.bodied.types.types = ap (λ (x : Holder). x.types.types) h.names.same in
    let bare_locals : map bare_local m.locals ≡ map bare_local h.bodied.locals = ap (λ (x : Holder). x.locals) h.names.same in
    let bare_globals : map (option_map bare_global) m.globals.slots ≡ map (option_map bare_global) h.filled.globals.slots = ap (λ (x : Holder). x.globals.slots) h.names.same in
    let bare_tags : map (option_map bare_tag) m.tags.slots ≡ map (option_map bare_tag) h.file.tags.now.slots =
    ap (λ (x : Holder). x.tags.slots) h.names.same ∙ ap (λ (z : Arena Tag). map (option_map bare_tag) z.slots) (sym h.is_file.tags_are) in
    let own_types : h.file.own_types ≡ next_id (types_in s).table = h.is_file.own_types ∙ ap next_id h.are_filled.types in
    let sequences : (n : ℕ) (g : grammar.Function) (x : grammar.Body) → slice_get file.functions n ≡ Some (Some g) → g.origin ≡ grammar.Own x → HasSequences file (parts m) found pick n x =
    λ n g x there o.
    sequences_stand h.file a h.bodied file (parts m) found h.found_are own_types bare_funcs bare_types bare_tags pick (sym (picks_same features (state_of s) h.bodies)) n x
    (at_zero (λ k. IsStood h.file a h.bodied k x) n (has_at (λ k f y. IsStood h.file a h.bodied k y) 0 file.functions n g x all_stand there o)) in
    let owned : (n : ℕ) (g : grammar.Function) (x : grammar.Body) → slice_get file.functions n ≡ Some (Some g) → g.origin ≡ grammar.Own x → HasTypedLocals file m.locals found n g.ty x =
    λ n g x there o.
    let k = at_zero (λ k. IsGiven h.bodied k x) n (has_at (λ k f y. IsGiven h.bodied k y) 0 file.functions n g x all_own there o) in
    let t = whole_at n g x there o in
    subst (λ (z : Option Kind). AreLocals m.locals (has_local found.all_locals (length (kind_types z)) x) (found.locals n) (map (renamed_value (at found.types)) (kind_types z ++ x.locals))) (sym t.3)
    (owned_there h.bodied found m.types m.locals m.funcs.slots h.found_are bare_funcs bare_types bare_locals n (r g.ty) t.0.function x t.2 t.4.item t.0.there t.1 t.4.there t.4.kind_is k) in
    let fresh : AreFresh h.bodied.locals h.bodied.ids =
    all_fresh stay on enter once h.file features a (count_in s) s.code_start (length bytes) bs start h.bodied fit waits h.bodies_are
    (none_fresh (ap (λ (j : Ids). j.locals) h.are_filled.numbers)) in
    let named : NamesLocals s h.filled h.bodies h.bodied.ids =
    subst (λ (xs : List grammar.Body). NamesLocals s h.filled xs h.bodied.ids) (codes_once once a (codes (state_of s)) read.0 h.bodies read.1 h.reads.codes_are) read.2 in
    let counted : (f : ℕ) → f < length s.functions.items → length (found.locals f) ≡ local_count file f =
    λ f lt. ap (λ (j : Ids). length (j.locals f)) h.found_are ∙ count_locals features bytes s m.start h.numbers h.bodied.ids h.filled h.bodies h.reads.sections h.are_filled named f lt in
    let own_order = own_ids groups_mean s.types (below features bytes (state_of s) h.reads.sections) (declared features bytes (state_of s) h.reads.sections) h.bodied.types m.types
    (subst (λ (t : Table). Grows t h.bodied.types) h.are_filled.types (steps_grow on h.file features bs start h.bodied h.bodies_are))
    (subst (λ (t : Table). MoreGroups t h.bodied.types) h.are_filled.types (more_stepped h.file features bs start h.bodied h.bodies_are))
    (ap (λ (x : Holder). x.types.groups) h.names.same) bare_types in
    let in_order : HasTypesInOrder file m.types found = subst (λ (ids : List ℕ). (later : List ℕ) × (type_ids m.types ≡ upto (length (kinds_in (kept ids 0 s.types))) ++ later)) (sym types) own_order in
    let X : List (Option grammar.Function) = (means (parts m)).functions in
    let each : EachHas (BodyAt found pick file X) 0 file.functions =
    has_from (BodyAt found pick file X) 0 file.functions (λ n g x there o. from_zero (λ k. BodyAt found pick file X k g x) n (let b = own n g x there o in body_at (parts m) found pick file n g x b.0 b.1)) in
    let functions = functions_same found pick file X 0 X file.functions (λ j. ap (λ (k : ℕ). slice_index_or X k None) (let z : j ≡ j + 0 = omega arith in z)) items.1.functions each in
    let of_file : AreSized file = files_are_sized features bytes file items.0 in
    let groups = have_groups config bytes m found small is in
    let own_bodies : flat_map function_bodies file.functions ≡ h.bodies = bodies_are (λ n x. BodyOf (parts m) found (block_pick a) file n x) 0 (state_of s).filled.functions bs h.bodies numbers zip in
    let handle : flat_map (signatures m.types) (handlers_of config bytes m found is) ≡ map (sent (at found.types)) (bodies_handle file (flat_map function_bodies file.functions)) =
    have_handlers config bytes m found small is ∙ ap (λ (xs : List grammar.Body). map (sent (at found.types)) (bodies_handle file xs)) (sym own_bodies) in
    let handled = handle ∙ ap (λ (ids : List ℕ). map (sent (at ids)) (bodies_handle file (flat_map function_bodies file.functions))) types in
    let grouped = groups.groups ∙ ap (λ (ss : List Signature). kept found.types 0 file.groups ++ map single (added (types_in s).table ss)) handled in
    let old : Holder = named_in h.filled h.bodied None in
    let bare = steps_bare h.file features bs (state h.filled.types [] h.numbers h.filled.functions) h.bodied h.bodies_are (filled_bare s m.start h.numbers h.filled h.are_filled) in
    let wanted : Bool = config.generate_synthetic_names_for_anonymous_items in
    let given_names : all_names wanted h.bodied.ids old (names_of file) ≡ names_in config file m found =
    ap (λ (l : List Given). made_by wanted h.bodied.ids l (names_of file)) (synthetic_same h.bodied.ids old (holder_of m) (sym (ap (λ (x : Holder). x.funcs.slots) h.names.same)))
    ∙ ap (λ (j : Ids). all_names wanted j (holder_of m) (names_of file)) (sym h.found_are) in
    let names = subst (λ (l : List Given). HasNames l (holder_of m)) given_names
    (named_so s m.start h.numbers h.filled h.are_filled h.bodied bare old refl refl refl refl refl refl refl refl refl refl (all_names wanted h.bodied.ids old (names_of file)) (holder_of m) h.names) in
    let sections : (given : B → grammar.Custom) → slots_of (own_custom given) m.customs ≡ flat_map section_if file.customs = λ given.
    ap (slots_of (own_custom given)) h.customs ∙ customs_mean given s h.filled.customs h.are_filled.customs ∙ sym (plain_same s.customs.items) in (
      file,
      items.0,
      record {
        types = types;
        others = others_in ordered found h.numbers s h.are_filled.numbers same_but;
        indices = indices_in found h.numbers s h.bodies h.are_filled.numbers same_but counted (subst AreApart (sym h.found_are) fresh.apart);
        types_stand = types_there;
        types_in_order = in_order;
        meant = λ i. record {
          groups = grouped i;
          imports = items.1.imports i;
          functions = functions i;
          tables = items.1.tables i;
          memories = items.1.memories i;
          tags = items.1.tags i;
          globals = items.1.globals i;
          exports = items.1.exports i;
          start = items.1.start i;
          elements = items.1.elements i;
          segments = items.1.segments i;
          customs = [];
        };
        locals = λ n g x there o. (let b = own n g x there o in locals_at (parts m) found pick file n g x b.0 b.1);
        wanted = ap (λ (j : Ids). j.all_locals) same_but ∙ h.wanted;
        typed_locals = owned;
        sequences = sequences;
        unshared = unshared_bare h.filled.globals.slots m.globals.slots (sym bare_globals)
            (subst (Each IsUnshared) (sym h.are_filled.globals.behind) (unshared (look_of h.numbers) s.globals.items h.are_filled.globals.more 0 h.are_filled.globals.become));
        linked = linked;
        sized = record {
          tables = subst (Each TableSmall) (sym items.1.tables) (tables_stay (retyped_table r) (λ t. refl) (λ t. refl) (λ t. refl) file.tables of_file.tables);
          memories = subst (Each MemorySmall) (sym items.1.memories) of_file.memories;
        };
        counted = ruled.0;
        ruled = ruled.1;
        customs = sections;
        producers = h.producers_are;
        names = names;
      },
    )
  where
    at_zero : (P : ℕ → Type 0) (n : ℕ) → P (n + 0) → P n
    at_zero P n p = let z : n + 0 ≡ n = omega arith in subst P z p

    from_zero : (P : ℕ → Type 0) (n : ℕ) → P n → P (n + 0)
    from_zero P n p = let z : n ≡ n + 0 = omega arith in subst P z p
