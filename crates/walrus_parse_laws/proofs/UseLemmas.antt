-- Lemmas: what the bodies of a module that was read name lives.
use Rattle.std.specs.Prelude.{ℕ, ◌≡◌, ◌≢◌, ◌<◌, List, [], ◌∷◌, length, map, Option, Some, None, slice_get, refl}
use Rattle.std.specs.List.{AllByRecursion, AllZip}
use Rattle.std.specs.Option.{unwrap_or}
use Rattle.std.proofs.Common.{ap, sym, ◌∙◌, subst}
use Rattle.walrus_named_bodies.specs.walrus_file_bodies.walrus_body_trees.walrus_body_nesting.wasm_body_grammar.Codes.{Code, ReadsCodes}
use Rattle.walrus_named_bodies.specs.walrus_file_bodies.walrus_body_trees.walrus_body_nesting.wasm_body_grammar.Rules.{Around}
use Rattle.walrus_named_bodies.specs.walrus_file_bodies.walrus_body_trees.walrus_body_nesting.wasm_body_grammar.wasm_formats.declared.fault.Space.TheVariants as spaces
use Rattle.walrus_named_bodies.specs.walrus_file_bodies.walrus_body_trees.walrus_body_nesting.wasm_body_grammar.wasm_grammar.Modules as grammar
use Rattle.walrus_named_bodies.specs.walrus_file_bodies.walrus_body_trees.walrus_body_nesting.wasm_body_grammar.wasm_grammar.States.{State, types_of}
use Rattle.wasm_operators.specs.Items.{Space, Types, Functions, Tables, Memories, Tags, Globals, ElementSegments, DataSegments, Locals, Labels}
use Rattle.wasm_import_links.specs.Full.{AreFull, ReadModulesAreFull}
use Rattle.walrus_named_bodies.specs.walrus_file_bodies.walrus_items_into.wasm_module_rules.Reading.{bodies_length}
use Rattle.walrus_named_bodies.specs.walrus_file_bodies.walrus_items_into.wasm_module_rules.wasm_modules.Modules.{around, codes, module_of}
use Rattle.walrus_named_bodies.specs.walrus_file_bodies.walrus_items_into.walrus_module_bodies.walrus_body_trees.walrus_meaning.walrus_linked.walrus_local_function.walrus_body_locals.wasm_normal_form.Normal.{normal_ops}
use Rattle.walrus_named_bodies.specs.walrus_file_bodies.walrus_items_into.walrus_module_bodies.walrus_body_trees.walrus_meaning.walrus_linked.walrus_local_function.walrus_body_locals.wasm_normal_form.Roles.{Placed, placed}
use Rattle.wasm_operators.specs.NameLaws.{NamesAreRenamed, renamed_name}
use Rattle.wasm_operators.specs.Names.{Name, operator_names}
use Rattle.wasm_import_links.specs.wasm_ruled_modules.Bodied.{body_is}
use Rattle.wasm_import_links.specs.wasm_ruled_modules.Rules.{GroupsBelow, IsBody, ReadModulesAreRuled}
use Rattle.walrus_named_bodies.specs.walrus_file_bodies.walrus_items_into.walrus_module_env.wasm_run_names.Picks.{block_pick}
use Rattle.walrus_named_bodies.specs.walrus_file_bodies.walrus_body_trees.Laws.{meant, renamed}
use Rattle.walrus_named_bodies.specs.walrus_file_bodies.Laws.{BodiesReadFiles}
use Rattle.walrus_named_bodies.specs.walrus_file_bodies.Ready.{bodies_in}
use Rattle.walrus_function_types.specs.Growth.{FoundTypesStay, TablesGrowOn}
use Rattle.walrus_named_bodies.specs.walrus_file_bodies.walrus_items_into.walrus_functions_into.declared.bodies.FunctionBody.{FunctionBody}
use Rattle.walrus_parse_laws.specs.FilledGroups.{ReadTypesAreDeclared}
use Rattle.walrus_named_bodies.specs.walrus_file_bodies.walrus_body_trees.walrus_pairing.walrus_index_maps.Maps.{Ids}
use Rattle.walrus_parse_laws.specs.Meaning.{OrderedStay, OthersStay}
use Rattle.walrus_parse_laws.specs.Renamed.{retyped_element, retyped_global, retyped_segment, retyped_table, retyped_tag}
use Rattle.walrus_named_bodies.specs.walrus_file_bodies.walrus_items_into.Numbers.{AreNumbersOf, types_in}
use Rattle.walrus_named_bodies.specs.walrus_file_bodies.walrus_items_into.walrus_tables_into.walrus_sections_into.walrus_known_sections.State.{state_of}
use Rattle.walrus_named_bodies.specs.walrus_file_bodies.walrus_items_into.walrus_tables_into.walrus_sections_into.walrus_known_sections.declared.sections.Sections.{Sections}
use Rattle.walrus_named_bodies.specs.walrus_file_bodies.walrus_items_into.walrus_module_bodies.walrus_body_trees.walrus_meaning.Bodies.{own_operators}
use Rattle.walrus_named_bodies.specs.walrus_file_bodies.walrus_items_into.walrus_module_bodies.walrus_body_trees.walrus_meaning.Meaning.{means, own_element, own_global, own_segment, own_table, own_tag}
use Rattle.walrus_named_bodies.specs.walrus_item_names.walrus_module.Items.{LivesIn}
use Rattle.walrus_named_bodies.specs.walrus_item_names.walrus_module.Parts.{Module, parts}
use Rattle.walrus_named_bodies.specs.walrus_file_bodies.walrus_body_trees.walrus_pairing.Looks.{id_of}
use Rattle.walrus_named_bodies.specs.Parsed.{read_features}
use Rattle.walrus_named_bodies.specs.walrus_file_bodies.walrus_items_into.walrus_tables_into.walrus_sections_into.Becomes.{look_of}
use Rattle.walrus_named_bodies.specs.walrus_file_bodies.walrus_items_into.walrus_functions_into.walrus_types_into.Into.{NewTypesStand, TypesNameBelow}
use Rattle.walrus_parse_laws.specs.Items.{HasItems, ReadModulesHaveItems, file_of}
use Rattle.walrus_parse_laws.proofs.LinkLemmas.{function_flags}
use Rattle.walrus_parse_laws.proofs.ItemsSlotLemmas.{flags, flags_seen, live_at}
use Rattle.walrus_parse_laws.proofs.ListLemmas.{AllOf}
use Rattle.walrus_parse_laws.proofs.ItemsTypeLemmas.{types_live}
use Rattle.walrus_parse_laws.specs.BodiesTexts.{MeansBody, ReadBodiesMeanTheirs, naming, text_of}
use Rattle.walrus_parse_laws.specs.Uses.{IsThere, NamesLiving, NamesOfReadBodiesLive, NamesThere}
use Rattle.walrus_parse_laws.proofs.BodiesNormalLemmas.{normal_ops_in}
use Rattle.walrus_parse_laws.proofs.BodiesRuleLemmas.{InRange, NameInRange, operators_in_range, picks_in_range}

-- ---- the bodies of the file

-- each meets the rules, beside some number of parameters
abbrev RuledBody : Around → grammar.Body → Type 0
RuledBody a x = (params : ℕ) × IsBody a params x

ruled_bodies : (a : Around) (cs : List Code) (xs : List grammar.Body) → ReadsCodes a cs xs → AllOf (RuledBody a) xs
ruled_bodies a [] [] h = tt
ruled_bodies a [] (x ∷ xs) h = absurd h
ruled_bodies a (c ∷ cs) [] h = absurd h
ruled_bodies a (c ∷ cs) (x ∷ xs) h = ((c.params, body_is a c.params c.chunk.place c.chunk.bytes x h.0), ruled_bodies a cs xs h.1)

-- the module has as many functions with its bodies as without
pub in_file : (s : State) (bodies : List grammar.Body) (space : Space) (n : ℕ) → InRange s.filled space n → InRange (module_of s bodies) space n
in_file s bodies Types n h = h
in_file s bodies Functions n h = subst (λ (k : ℕ). n < k) (sym (bodies_length s.filled.functions bodies)) h
in_file s bodies Tables n h = h
in_file s bodies Memories n h = h
in_file s bodies Tags n h = h
in_file s bodies Globals n h = h
in_file s bodies ElementSegments n h = h
in_file s bodies DataSegments n h = h
in_file s bodies Locals n h = tt
in_file s bodies Labels n h = tt

text_in : (Q : Name → Type 0) (ops : List grammar.Placed) → AllOf (λ (o : grammar.Placed). AllOf Q (operator_names o.op)) ops
    → AllOf (λ (o : Placed). AllOf Q (operator_names o.op)) (map (λ (o : grammar.Placed). placed o.op (Some o.place)) ops)
text_in Q [] h = tt
text_in Q (o ∷ ops) h = (h.0, text_in Q ops h.1)

normal_in_range : (a : Around) → GroupsBelow 0 a.filled.groups → (x : grammar.Body) → RuledBody a x
    → AllOf (λ (o : Placed). AllOf (NameInRange a.filled) (operator_names o.op)) (normal_ops (block_pick a) (text_of x))
normal_in_range a below x (params, ruled) =
    normal_ops_in (NameInRange a.filled) (block_pick a) (picks_in_range a below) (text_of x)
    (text_in (NameInRange a.filled) x.operators (operators_in_range a _ _ x.operators ruled.operators))

-- ---- ids

unwrapped : (o : Option ℕ) (n : ℕ) → ((id : ℕ) → o ≡ Some id → id ≡ n) → unwrap_or o n ≡ n
unwrapped None n h = refl
unwrapped (Some id) n h = h id refl

abbrev There : Module → Name → Type 0
There m n = IsThere m n.0 n.1

module _ (m : Module) (f : grammar.Module) (r : ℕ → ℕ) (h : HasItems r f (means m)) (full : AreFull f) (i found : Ids) (locals : ℕ → List ℕ) (numbered : found ≡ record i { locals = locals })
    (stay : OthersStay (look_of i)) (typed : (n : ℕ) → n < length (types_of f) → LivesIn m spaces.«Type» (unwrap_or (slice_get found.types n) n)) where
  -- an index is its own id
  own : (number : ℕ) (space : Space) (n : ℕ) → space ≢ Types → id_of found number space n ≡ id_of i 0 space n → naming found number space n ≡ n
  own number space n other same = unwrapped (id_of found number space n) n (λ id at. stay space n id other (sym same ∙ at))

  pub there : (number : ℕ) (space : Space) (n : ℕ) → InRange f space n → IsThere m space (naming found number space n)
  there number Types n lt = typed n lt
  there number Functions n lt =
      subst (LivesIn m spaces.Function) (sym (own number Functions n (λ e. absurd cc) (ap (λ (j : Ids). slice_get j.functions n) numbered)))
      (live_at m.funcs.slots f.functions n (function_flags r f m h) full.functions lt)
  there number Tables n lt =
      subst (LivesIn m spaces.Table) (sym (own number Tables n (λ e. absurd cc) (ap (λ (j : Ids). slice_get j.tables n) numbered)))
      (live_at m.tables.slots f.tables n (sym (flags_seen own_table m.tables.slots) ∙ ap flags h.tables ∙ flags_seen (retyped_table r) f.tables) full.tables lt)
  there number Memories n lt =
      subst (LivesIn m spaces.Memory) (sym (own number Memories n (λ e. absurd cc) (ap (λ (j : Ids). slice_get j.memories n) numbered)))
      (live_at m.memories.slots f.memories n (sym (flags_seen _ m.memories.slots) ∙ ap flags h.memories) full.memories lt)
  there number Tags n lt =
      subst (LivesIn m spaces.Tag) (sym (own number Tags n (λ e. absurd cc) (ap (λ (j : Ids). slice_get j.tags n) numbered)))
      (live_at m.tags.slots f.tags n (sym (flags_seen own_tag m.tags.slots) ∙ ap flags h.tags ∙ flags_seen (retyped_tag r) f.tags) full.tags lt)
  there number Globals n lt =
      subst (LivesIn m spaces.Global) (sym (own number Globals n (λ e. absurd cc) (ap (λ (j : Ids). slice_get j.globals n) numbered)))
      (live_at m.globals.slots f.globals n (sym (flags_seen own_global m.globals.slots) ∙ ap flags h.globals ∙ flags_seen (retyped_global r) f.globals) full.globals lt)
  there number ElementSegments n lt =
      subst (LivesIn m spaces.Element) (sym (own number ElementSegments n (λ e. absurd cc) (ap (λ (j : Ids). slice_get j.elements n) numbered)))
      (live_at m.elements.slots f.elements n (sym (flags_seen own_element m.elements.slots) ∙ ap flags h.elements ∙ flags_seen (retyped_element r) f.elements) full.elements lt)
  there number DataSegments n lt =
      subst (LivesIn m spaces.Data) (sym (own number DataSegments n (λ e. absurd cc) (ap (λ (j : Ids). slice_get j.segments n) numbered)))
      (live_at m.data_segments.slots f.segments n (sym (flags_seen own_segment m.data_segments.slots) ∙ ap flags h.segments ∙ flags_seen (retyped_segment r) f.segments) full.segments lt)
  there number Locals n lt = tt
  there number Labels n lt = tt

  -- ---- operators that are renamed to ids

  names_there : (number : ℕ) (names : List Name) → AllOf (NameInRange f) names → AllByRecursion (There m) (map (renamed_name (naming found number)) names)
  names_there number [] k = tt
  names_there number (n ∷ names) k = (there number n.0 n.1 k.0, names_there number names k.1)

  ops_there : NamesAreRenamed → (number : ℕ) (ops : List Placed) → AllOf (λ (o : Placed). AllOf (NameInRange f) (operator_names o.op)) ops
      → AllOf (λ (o : Placed). AllByRecursion (There m) (operator_names o.op)) (map (renamed (naming found number)) ops)
  ops_there again number [] k = tt
  ops_there again number (o ∷ ops) k =
      (subst (AllByRecursion (There m)) (sym (again (naming found number) o.op)) (names_there number (operator_names o.op) k.0), ops_there again number ops k.1)

unmeant : (m : Module) (ops : List grammar.Placed) → AllOf (λ (o : Placed). AllByRecursion (There m) (operator_names o.op)) (map meant ops) → AllByRecursion (NamesThere m) ops
unmeant m [] h = tt
unmeant m (o ∷ ops) h = (h.0, unmeant m ops h.1)

-- of indices of a file types alone have other ids
pub others_stay : OrderedStay → (s : Sections) (i : Ids) → AreNumbersOf s i → OthersStay (look_of i)
others_stay ordered s i numbers = ordered i (record {
  functions = (length s.functions.items, ap (λ (j : Ids). j.functions) numbers);
  tables = (length s.tables.items, ap (λ (j : Ids). j.tables) numbers);
  memories = (length s.memories.items, ap (λ (j : Ids). j.memories) numbers);
  tags = (length s.tags.items, ap (λ (j : Ids). j.tags) numbers);
  globals = (length s.globals.items, ap (λ (j : Ids). j.globals) numbers);
  elements = (length s.elements.items, ap (λ (j : Ids). j.elements) numbers);
  segments = (length s.segments.items, ap (λ (j : Ids). j.segments) numbers);
  locals = ap (λ (j : Ids). j.locals 0) numbers;
})

-- what holds of all of a list, by a weaker word
weaker : {A : Type 0} (P Q : A → Type 0) → ((x : A) → P x → Q x) → (xs : List A) → AllOf P xs → AllOf Q xs
weaker P Q f [] h = tt
weaker P Q f (x ∷ xs) h = (f x h.0, weaker P Q f xs h.1)

pub names_of_bodies : {B : Type 0} → ReadBodiesMeanTheirs B → BodiesReadFiles B → ReadModulesHaveItems B → ReadModulesAreFull → ReadModulesAreRuled → OrderedStay → NamesAreRenamed → NewTypesStand → TypesNameBelow
    → ReadTypesAreDeclared → FoundTypesStay → TablesGrowOn → NamesOfReadBodiesLive B
names_of_bodies {B} mean bodies items fulls ruled ordered again stand below declares stay on config bytes m found small is =
    let h = is.1 in
    let s = h.sections in
    let i = h.numbers in
    let features = read_features config in
    let a = around features (state_of s) in
    let all = items config bytes m found small is in
    let f = file_of config bytes m found is in
    let rules = ruled features bytes f all.0 in
    let read = bodies features bytes s m.start i h.filled h.file [] h.bodied h.reads.short small h.reads.sections h.are_filled h.is_file h.bodies_are in
    let numbered : found ≡ record i { locals = h.bodied.ids.locals } = h.found_are ∙ read.3 in
    let same : found.types ≡ (types_in s).ids = ap (λ (j : Ids). j.types) numbered ∙ ap (λ (j : Ids). j.types) h.are_filled.numbers in
    let others = others_stay ordered s i h.are_filled.numbers in
    let typed = λ (n : ℕ) (lt : n < length (types_of f)). types_live stand below declares stay on config bytes m found is n lt same in
    let one : (b : FunctionBody) (x : grammar.Body) → MeansBody (parts m) found a b x → RuledBody a x → NamesLiving (parts m) b = λ b x k rule.
    let normal = weaker (λ (o : Placed). AllOf (NameInRange a.filled) (operator_names o.op)) (λ (o : Placed). AllOf (NameInRange f) (operator_names o.op))
    (λ o names. weaker (NameInRange a.filled) (NameInRange f) (λ (n : Name) (lt : NameInRange a.filled n). in_file (state_of s) h.bodies n.0 n.1 lt) (operator_names o.op) names)
    (normal_ops (block_pick a) (text_of x)) (normal_in_range a rules.1.groups x rule) in
    let ids = ops_there (parts m) f _ all.1 (fulls features bytes f all.0) i found h.bodied.ids.locals numbered others typed again b.number (normal_ops (block_pick a) (text_of x)) normal in
    record {
      function = k.function;
      there = k.there;
      local = k.local;
      kind = k.kind;
      named = unmeant (parts m) (own_operators k.local) (subst (AllOf (λ (o : Placed). AllByRecursion (There (parts m)) (operator_names o.op))) (sym k.operators) ids);
    } in
    zipped (MeansBody (parts m) found a) (RuledBody a) (NamesLiving (parts m)) one (bodies_in s h.filled.functions) h.bodies (mean config bytes m found small is) (ruled_bodies a (codes (state_of s)) h.bodies h.reads.codes_are)
  where
    zipped : {A C : Type 0} (P : A → C → Type 0) (Q : C → Type 0) (R : A → Type 0) → ((x : A) (y : C) → P x y → Q y → R x) → (xs : List A) (ys : List C) → AllZip P xs ys → AllOf Q ys → AllByRecursion R xs
    zipped P Q R f [] ys h k = tt
    zipped P Q R f (x ∷ xs) [] h k = absurd h
    zipped P Q R f (x ∷ xs) (y ∷ ys) h k = (f x y h.0 k.0, zipped P Q R f xs ys h.1 k.1)
