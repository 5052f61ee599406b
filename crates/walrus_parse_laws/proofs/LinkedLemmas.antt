-- Lemmas: a module that was read is linked.
use Rattle.std.specs.Prelude.{ℕ, zero, suc, ◌≡◌, ◌<◌, Bool, true, false, List, [], ◌∷◌, Contains, length, map, Option, Some, None, IsSome, slice_get, slice_index_or, refl, if◌then◌else◌}
use Rattle.std.specs.Option.{option_map}
use Rattle.std.proofs.Common.{ap, sym, ◌∙◌, subst, arith, inl, inr}
use Rattle.std.proofs.lemmas.List.{length-map}
use Rattle.std.proofs.lemmas.Option.{get_or_from_slice_get, slice_get_within}
use Rattle.walrus_named_bodies.specs.walrus_file_bodies.walrus_items_into.walrus_module_env.walrus_handler_types.walrus_body_steps.wasm_body_grammar.Rules.{Around, space_of}
use Rattle.walrus_named_bodies.specs.walrus_file_bodies.walrus_items_into.walrus_module_env.walrus_handler_types.walrus_body_steps.walrus_body_nesting.wasm_formats.declared.fault.Space.{Space}
use Rattle.walrus_named_bodies.specs.walrus_file_bodies.walrus_items_into.walrus_module_env.walrus_handler_types.walrus_body_steps.walrus_body_nesting.wasm_formats.declared.fault.Space.TheVariants as spaces
use Rattle.walrus_named_bodies.specs.walrus_file_bodies.walrus_items_into.walrus_module_env.walrus_handler_types.walrus_body_steps.wasm_grammar.States.{types_of}
use Rattle.walrus_named_bodies.specs.walrus_file_bodies.walrus_items_into.walrus_module_bodies.walrus_body_trees.walrus_meaning.walrus_linked.walrus_body_writer.walrus_pairing.wasm_operators.Items.{Space as Numbered, Types, Functions, Tables, Memories, Tags, Globals, ElementSegments, DataSegments, Locals, Labels}
use Rattle.walrus_named_bodies.specs.walrus_file_bodies.walrus_items_into.wasm_module_rules.wasm_modules.Modules.{around}
use Rattle.walrus_named_bodies.specs.walrus_file_bodies.walrus_items_into.wasm_sections.Within.{ChunksFit}
use Rattle.walrus_named_bodies.specs.walrus_file_bodies.walrus_items_into.walrus_module_bodies.walrus_body_trees.walrus_meaning.walrus_linked.walrus_body_writer.walrus_pairing.wasm_operators.wasm_features.declared.WasmFeatures.{WasmFeatures}
use Rattle.walrus_arena.specs.Arena.{item_at}
use Rattle.walrus_body_laws.specs.Answers.{AllAre}
use Rattle.walrus_body_laws.specs.WalkingLaws.{HandlersHaveAnswers, WalksNameAnswers}
use Rattle.walrus_named_bodies.specs.walrus_file_bodies.walrus_items_into.walrus_module_bodies.walrus_body_trees.walrus_meaning.walrus_linked.walrus_module.walrus_builder.Functions.{seqs_of}
use Rattle.walrus_named_bodies.proofs.walrus_file_bodies.StopLemmas.{count_in}
use Rattle.walrus_named_bodies.specs.walrus_file_bodies.Laws.{BodiesReadFiles}
use Rattle.walrus_named_bodies.specs.walrus_file_bodies.Read.{Waits, env_is, env_of, grows_none, step_on, steps_grow}
use Rattle.walrus_named_bodies.specs.walrus_file_bodies.Ready.{bodies_in}
use Rattle.walrus_forms.specs.Kinds.{Kind, kind_names}
use Rattle.walrus_forms.specs.Renaming.{at, renamed_kind}
use Rattle.walrus_forms.proofs.RenamingLemmas.{In, kinds-below, kinds-names}
use Rattle.walrus_function_types.specs.Growth.{EntryTypesGrow, FoundTypesStay, TablesGrowOn}
use Rattle.walrus_named_bodies.specs.walrus_file_bodies.walrus_items_into.walrus_functions_into.Functions.{kind_of}
use Rattle.walrus_named_bodies.specs.walrus_file_bodies.walrus_items_into.walrus_functions_into.declared.bodies.FunctionBody.{FunctionBody}
use Rattle.walrus_named_bodies.specs.walrus_file_bodies.walrus_items_into.walrus_module_bodies.walrus_body_trees.walrus_meaning.walrus_linked.walrus_body_writer.walrus_pairing.walrus_index_maps.Maps.{Ids}
use Rattle.walrus_named_bodies.specs.walrus_file_bodies.walrus_items_into.walrus_module_bodies.walrus_body_trees.walrus_meaning.walrus_linked.walrus_body_writer.walrus_pairing.walrus_index_maps.Runs.{nowhere}
use Rattle.walrus_named_bodies.specs.walrus_item_names.Holder.{Holder}
use Rattle.walrus_named_bodies.specs.walrus_item_names.Names.{bare_function, bare_local, bare_type}
use Rattle.walrus_types.specs.walrus_items.declared.local.Local.{Local}
use Rattle.walrus_named_bodies.specs.walrus_file_bodies.walrus_items_into.Laws.{FilledFunctionsStand, FilledModulesAreFiled}
use Rattle.walrus_named_bodies.specs.walrus_file_bodies.walrus_items_into.walrus_tables_into.walrus_sections_into.walrus_known_sections.State.{state_of}
use Rattle.walrus_named_bodies.specs.walrus_file_bodies.walrus_items_into.walrus_tables_into.walrus_sections_into.walrus_known_sections.Items.{chunk_of}
use Rattle.walrus_named_bodies.specs.walrus_file_bodies.walrus_items_into.walrus_tables_into.walrus_sections_into.walrus_known_sections.declared.sections.Sections.{Sections}
use Rattle.walrus_parse_laws.specs.FilledGroups.{ReadTypesAreDeclared}
use Rattle.walrus_named_bodies.specs.walrus_file_bodies.walrus_items_into.walrus_module_bodies.walrus_body_trees.walrus_meaning.walrus_linked.Linked.{GroupsAreWritten}
use Rattle.walrus_named_bodies.specs.walrus_file_bodies.walrus_items_into.walrus_module_bodies.walrus_body_trees.walrus_meaning.walrus_linked.Names.{body_events, body_names, function_names, local_names, named_by, names, names_in, type_names, used_types}
use Rattle.walrus_named_bodies.specs.walrus_file_bodies.walrus_items_into.walrus_module_bodies.walrus_body_trees.walrus_meaning.walrus_linked.walrus_local_function.declared.local_function.LocalFunction.{LocalFunction}
use Rattle.walrus_body_laws.specs.walrus_marks.Named.{items_of}
use Rattle.walrus_body_laws.specs.walrus_marks.walrus_walks.Events.{Event, NamesLocal, events_of}
use Rattle.walrus_body_laws.specs.walrus_marks.walrus_walks.Walk.{body_walk}
use Rattle.walrus_named_bodies.specs.walrus_file_bodies.walrus_items_into.walrus_module_bodies.walrus_body_trees.walrus_meaning.walrus_linked.walrus_module.Items.{Lives, written}
use Rattle.walrus_named_bodies.specs.walrus_file_bodies.walrus_items_into.walrus_module_bodies.walrus_body_trees.walrus_meaning.walrus_linked.walrus_module.Parts.{Module, parts}
use Rattle.walrus_named_bodies.specs.walrus_file_bodies.walrus_module_bodies.Steps.{State, state}
use Rattle.walrus_named_bodies.specs.walrus_file_bodies.walrus_items_into.walrus_module_env.Filled.{AreFiled}
use Rattle.walrus_named_bodies.specs.walrus_file_bodies.walrus_items_into.walrus_module_bodies.walrus_body_trees.walrus_meaning.walrus_linked.walrus_module_items.declared.function.Function.{Function}
use Rattle.walrus_named_bodies.specs.walrus_file_bodies.walrus_items_into.walrus_module_bodies.walrus_body_trees.walrus_meaning.walrus_linked.walrus_module_items.declared.function.FunctionKind.{FunctionKind}
use Rattle.walrus_named_bodies.specs.walrus_file_bodies.walrus_items_into.walrus_module_bodies.walrus_body_trees.walrus_meaning.walrus_linked.walrus_module_items.declared.function.FunctionKind.TheVariants as kinds
use Rattle.walrus_named_bodies.specs.walrus_file_bodies.walrus_items_into.walrus_module_bodies.walrus_body_trees.walrus_meaning.walrus_linked.walrus_body_writer.walrus_pairing.Looks.{id_of}
use Rattle.walrus_named_bodies.specs.Parsed.{read_features}
use Rattle.walrus_named_bodies.specs.walrus_file_bodies.walrus_items_into.walrus_tables_into.walrus_sections.walrus_roots.Items.{item}
use Rattle.walrus_named_bodies.specs.walrus_file_bodies.walrus_items_into.walrus_tables_into.walrus_sections.walrus_roots.declared.item.Item.{Item}
use Rattle.walrus_types.specs.Items.{Item as TypeItem, Group}
use Rattle.walrus_types.specs.Table.{Table, next_id, type_at}
use Rattle.walrus_parse_laws.proofs.BodiesSlotLemmas.{read_kind}
use Rattle.walrus_parse_laws.proofs.BodiesStepLemmas.{steps_have}
use Rattle.walrus_parse_laws.proofs.WholeLemmas.{bare_same, bodies_are_due, bodies_lie, kind_at}
use Rattle.walrus_parse_laws.specs.Whole.{ReadFunctionsAreWhole}
use Rattle.walrus_parse_laws.specs.Links.{HasLinks, ReadModulesHaveLinks}
use Rattle.walrus_parse_laws.proofs.ListLemmas.{AllOf, all_contains, get_some, items_join, some_is}
use Rattle.walrus_parse_laws.proofs.ItemsTypeLemmas.{there_too}
use Rattle.walrus_parse_laws.specs.Named.{HasNoBodies, NamesLive, NamesOfReadItemsLive}
use Rattle.walrus_parse_laws.specs.Indices.{IndicesOfReadModulesLive}
use Rattle.walrus_parse_laws.specs.Linked.{ReadModulesAreLinked, WalksOfReadBodiesNameLocals}
use Rattle.walrus_parse_laws.proofs.LinkedGroupLemmas.{file_written, steps_written}
use Rattle.walrus_parse_laws.proofs.LinkedLocalLemmas.{GoodLocal}
use Rattle.walrus_parse_laws.proofs.LinkedStepLemmas.{Walk, Sound, all_of, step_sound, step_walk, steps_more, steps_sound}
use Rattle.walrus_parse_laws.proofs.LinkedValueLemmas.{Closed, GoodKind, GoodTypes}

-- ---- the types of a file

within : (xs : List (Option TypeItem)) (n : ℕ) (x : TypeItem) → slice_index_or xs n None ≡ Some x → n < length xs
within [] n x e = absurd cc
within (y ∷ ys) zero x e = omega arith
within (y ∷ ys) (suc n) x e = let lt = within ys n x e in omega (arith, lt)

module _ (Good : Item → Type 0) where
  named_good : (r : ℕ → ℕ) (ns : List ℕ) → ((n : ℕ) → In n ns → Good (item spaces.«Type» (r n))) → GoodTypes Good (map r ns)
  named_good r [] f = tt
  named_good r (n ∷ ns) f = (f n (inl refl), named_good r ns (λ k h. f k (inr h)))

  filed_closed : (of : List Kind) (ids : List ℕ) (own : ℕ) (t : Table) → AreFiled of ids own t → own ≡ next_id t → ((n id : ℕ) → slice_get ids n ≡ Some id → Good (item spaces.«Type» id)) → Closed Good t
  filed_closed of ids own t h is good id x there =
      let lt : id < own = subst (λ (n : ℕ). id < n) (sym is) (within t.types id x there) in
      let only = h.only id x lt there in
      let kind = get_some of only.0 (subst (λ (n : ℕ). only.0 < n) h.sized (slice_get_within ids only.0 id only.1)) in
      let stands = h.stand only.0 kind.0 kind.1 in
      let same : stands.id ≡ id = some_is stands.id id (sym stands.named ∙ only.1) in
      let alike : stands.item ≡ x = some_is stands.item x (sym stands.live ∙ ap (type_at t) same ∙ there) in
      let kind_is : renamed_kind (at ids) kind.0 ≡ x.kind = sym stands.kind_is ∙ ap (λ (z : TypeItem). z.kind) alike in
      let below = h.names only.0 kind.0 kind.1 in
      let each = λ (n : ℕ) (has : In n (kind_names kind.0)).
      let got = get_some ids n (kinds-below kind.0 (length ids) below n has) in
      subst (λ (k : ℕ). Good (item spaces.«Type» k)) (sym (get_or_from_slice_get ids n got.0 0 got.1)) (good n got.0 got.1) in
      subst (λ (k : Kind). GoodKind Good k) kind_is (subst (GoodTypes Good) (sym (kinds-names (at ids) kind.0)) (named_good (at ids) (kind_names kind.0) each))

  -- ---- without names

  locals_good : (ls ms : List Local) → map bare_local ls ≡ map bare_local ms → AllOf (GoodLocal Good) ms → AllOf (GoodLocal Good) ls
  locals_good [] [] e h = tt
  locals_good [] (m ∷ ms) e h = absurd cc
  locals_good (l ∷ ls) [] e h = absurd cc
  locals_good (l ∷ ls) (m ∷ ms) e h =
      let head : bare_local l ≡ bare_local m = cc in
      let tail : map bare_local ls ≡ map bare_local ms = cc in
      (subst (λ (ty : _). AllOf Good (items_of (local_names (Some (record l { ty = ty }))))) (sym (ap (λ (x : Local). x.ty) head)) h.0, locals_good ls ms tail h.1)

  local_at : (ls : List Local) (id : ℕ) → AllOf (GoodLocal Good) ls → AllOf Good (items_of (local_names (slice_get ls id)))
  local_at [] id h = tt
  local_at (l ∷ ls) zero h = h.0
  local_at (l ∷ ls) (suc id) h = local_at ls id h.1

  used_good : (ls : List Local) → AllOf (GoodLocal Good) ls → (es : List Event) → AllOf Good (items_of (events_of (used_types ls) es))
  used_good ls h [] = tt
  used_good ls h (e ∷ es) = items_join Good (used_types ls e) (events_of (used_types ls) es) (one e) (used_good ls h es)
    where
      one : (e : Event) → AllOf Good (items_of (used_types ls e))
      one (NamesLocal id) = local_at ls id h
      one _ = tt

  type_good : (o p : Option TypeItem) → option_map bare_type o ≡ option_map bare_type p → ((x : TypeItem) → p ≡ Some x → GoodKind Good x.kind) → AllOf Good (items_of (named_by type_names o))
  type_good None p e h = tt
  type_good (Some x) None e h = absurd cc
  type_good (Some x) (Some y) e h = subst (λ (k : Kind). GoodKind Good k) (sym (ap (λ (z : TypeItem). z.kind) (some_is (bare_type x) (bare_type y) e))) (h y refl)

-- a type that lives, and is no entry type
of_written : (o : Option TypeItem) → IsSome (written o) → (x : TypeItem) × (o ≡ Some x) × (x.kind.entry ≡ false)
of_written None h = absurd cc
of_written (Some x) h = (x, refl, by_entry x.kind.entry refl h)
  where
    by_entry : (b : Bool) → x.kind.entry ≡ b → IsSome (if b then None else Some x) → x.kind.entry ≡ false
    by_entry true e h = absurd cc
    by_entry false e h = e

-- a function of the file has no body by itself
no_body : (locals : List Local) (ty : ℕ) (import : Option ℕ) (kind : FunctionKind) → kind ≡ kind_of ty import → body_names locals kind ≡ []
no_body locals ty None kind e = ap (body_names locals) e
no_body locals ty (Some n) kind e = ap (body_names locals) e

pub linked : {B : Type 0} → ReadFunctionsAreWhole B → ReadModulesHaveLinks B → NamesOfReadItemsLive B → IndicesOfReadModulesLive B → FilledFunctionsStand B → FilledModulesAreFiled B → BodiesReadFiles B
    → ReadTypesAreDeclared → EntryTypesGrow → FoundTypesStay → TablesGrowOn → WalksNameAnswers → HandlersHaveAnswers → WalksOfReadBodiesNameLocals B → ReadModulesAreLinked B
linked {B} whole links live indices stands filed bodies declares enter stay on walks handled inner config bytes m found small is = record {
  imports = has.imports;
  imported = has.imported;
  whole = whole config bytes m found small is;
  named = λ x y lives c. all_contains Good (names n x) y (all_good x.space x.id) c;
  grouped = members_live;
  exported = has.exported;
  started = has.started;
}
  where
    n : Module
    n = parts m

    Good : Item → Type 0
    Good = Lives n

    has : HasLinks n
    has = links config bytes m found small is

    kept : NamesLive n
    kept = live config bytes m found small is

    s : Sections
    s = is.1.sections

    features : WasmFeatures
    features = read_features config

    a : Around
    a = around features (state_of s)

    bs : List FunctionBody
    bs = bodies_in s is.1.filled.functions

    i : Ids
    i = is.1.numbers

    old : State
    old = state is.1.filled.types [] i is.1.filled.functions

    final : Table
    final = is.1.bodied.types

    numbered : found ≡ record i { locals = is.1.bodied.ids.locals }
    numbered = is.1.found_are ∙ (bodies features bytes s m.start i is.1.filled is.1.file [] is.1.bodied is.1.reads.short small is.1.reads.sections is.1.are_filled is.1.is_file is.1.bodies_are).3

    fit : ChunksFit s.code_start (length bytes) (map (λ (b : FunctionBody). chunk_of b.chunk) bs)
    fit = bodies_lie stands config bytes m found small is

    waits : Waits is.1.file features a (count_in s) old bs
    waits = bodies_are_due filed config bytes m found is

    types_bare : map (option_map bare_type) m.types.types ≡ map (option_map bare_type) final.types
    types_bare = ap (λ (x : Holder). x.types.types) is.1.names.same

    locals_bare : map bare_local m.locals ≡ map bare_local is.1.bodied.locals
    locals_bare = ap (λ (x : Holder). x.locals) is.1.names.same

    funcs_bare : map (option_map bare_function) m.funcs.slots ≡ map (option_map bare_function) is.1.bodied.functions.slots
    funcs_bare = ap (λ (x : Holder). x.funcs.slots) is.1.names.same

    typed : (id : ℕ) (x : TypeItem) → type_at final id ≡ Some x → x.kind.entry ≡ false → Good (item spaces.«Type» id)
    typed id x there plain = there_too m.types.types final.types id x types_bare there plain

    final_written : GroupsAreWritten final
    final_written =
        let G : Table → Type 0 = λ t. GroupsAreWritten t in
        steps_written is.1.file features bs old is.1.bodied is.1.bodies_are (subst G (sym is.1.are_filled.types) (file_written s.types (declares features bytes (state_of s) is.1.reads.sections)))

    members_live : GroupsAreWritten m.types
    members_live place group there ex id c =
        let groups : m.types.groups ≡ final.groups = ap (λ (x : Holder). x.types.groups) is.1.names.same in
        let x = of_written (type_at final id) (final_written place group (ap (λ (gs : List (Option Group)). slice_index_or gs place None) (sym groups) ∙ there) ex id c) in
        typed id x.0 x.1 x.2

    no_locals : (function : ℕ) → i.locals function ≡ []
    no_locals function = ap (λ (j : Ids). j.locals function) is.1.are_filled.numbers

    named : (space : Numbered) (k id : ℕ) → id_of i 0 space k ≡ Some id → Good (item (space_of space) id)
    named Types k id e = indices config bytes m found small is 0 Types k id (ap (λ (j : Ids). slice_get j.types k) numbered ∙ e)
    named Functions k id e = indices config bytes m found small is 0 Functions k id (ap (λ (j : Ids). slice_get j.functions k) numbered ∙ e)
    named Tables k id e = indices config bytes m found small is 0 Tables k id (ap (λ (j : Ids). slice_get j.tables k) numbered ∙ e)
    named Memories k id e = indices config bytes m found small is 0 Memories k id (ap (λ (j : Ids). slice_get j.memories k) numbered ∙ e)
    named Tags k id e = indices config bytes m found small is 0 Tags k id (ap (λ (j : Ids). slice_get j.tags k) numbered ∙ e)
    named Globals k id e = indices config bytes m found small is 0 Globals k id (ap (λ (j : Ids). slice_get j.globals k) numbered ∙ e)
    named ElementSegments k id e = indices config bytes m found small is 0 ElementSegments k id (ap (λ (j : Ids). slice_get j.elements k) numbered ∙ e)
    named DataSegments k id e = indices config bytes m found small is 0 DataSegments k id (ap (λ (j : Ids). slice_get j.segments k) numbered ∙ e)
    named Locals k id e = absurd (let none = ap (λ (l : List ℕ). slice_get l k) (no_locals 0) in let both = sym none ∙ e in cc)
    named Labels k id e = absurd cc

    many : length m.locals ≡ length is.1.bodied.locals
    many = sym (length-map m.locals bare_local) ∙ ap length locals_bare ∙ length-map is.1.bodied.locals bare_local

    local_lives : (id : ℕ) → id < length is.1.bodied.locals → Good (item spaces.Local id)
    local_lives id lt = subst (λ (k : ℕ). id < k) (sym many) lt

    SoundNow : State → Type 0
    SoundNow = Sound stay on enter walks handled is.1.file features a (count_in s) final is.1.bodied.locals i Good typed named local_lives

    first : SoundNow old
    first = record {
      names = refl;
      below = λ function k id other e. absurd (let none = ap (λ (l : List ℕ). slice_get l k) (no_locals function) in let both = sym none ∙ e in cc);
      closed = filed_closed Good (types_of a.filled) i.types is.1.file.own_types is.1.filled.types (waits.filed is.1.filled.types (env_of is.1.file is.1.filled.types) (λ _. []) 0 (grows_none is.1.filled.types) (env_is is.1.file is.1.filled.types)).types_are is.1.is_file.own_types (λ k id e. named Types k id e);
      locals_good = tt;
    }

    last : SoundNow is.1.bodied
    last = steps_sound stay on enter walks handled is.1.file features a (count_in s) final is.1.bodied.locals i Good typed named local_lives s.code_start (length bytes) bs old is.1.bodied fit waits is.1.bodies_are (grows_none final) (omega arith) first

    Walked : LocalFunction → Type 0
    Walked local = AllAre (Walk Good) (items_of (body_walk (seqs_of local.builder) 0))

    -- the locals that a body's walk names are there
    walk_good : (f : ℕ) (function : Function) (local : LocalFunction) → item_at m.funcs f ≡ Some function → function.kind ≡ kinds.Local local → Walked local → AllAre Good (items_of (body_walk (seqs_of local.builder) 0))
    walk_good f function local there own walked y c = by (walked y c)
      where
        by : Walk Good y → Good y
        by (inl good) = good
        by (inr e) =
            let inside = inner config bytes m found small is f function local there own nowhere (subst (Contains (items_of (body_walk (seqs_of local.builder) 0))) e c) in
            subst Good (sym e) inside

    body_good : (kind : FunctionKind) (local : LocalFunction) → kind ≡ kinds.Local local → AllAre Good (items_of (body_walk (seqs_of local.builder) 0)) → AllOf Good (items_of (body_names m.locals kind))
    body_good kind local e walked = subst (λ (k : FunctionKind). AllOf Good (items_of (body_names m.locals k))) (sym e)
        (items_join Good (body_events local) (events_of (used_types m.locals) (body_events local)) (all_of Good (items_of (body_events local)) walked)
        (used_good Good m.locals (locals_good Good m.locals is.1.bodied.locals locals_bare last.locals_good) (body_events local)))

    function_good : (f : ℕ) (function : Function) → item_at m.funcs f ≡ Some function → AllOf Good (items_of (function_names m.locals function))
    function_good f function there =
        let ends = steps_have stay on enter is.1.file features a (count_in s) is.1.bodied SoundNow Walked
        (λ b bs old new small w step rest sound.
        let grows = steps_grow on is.1.file features bs new is.1.bodied rest in
        let on_new = step_on stay on enter is.1.file features a (count_in s) b bs old new w step in
        let le = steps_more stay on enter walks handled is.1.file features a (count_in s) final is.1.bodied.locals i Good typed named local_lives bs new is.1.bodied on_new rest in (
          step_walk stay on enter walks handled is.1.file features a (count_in s) final is.1.bodied.locals i Good typed named local_lives b bs old new small w step grows le sound last.closed,
          step_sound stay on enter walks handled is.1.file features a (count_in s) final is.1.bodied.locals i Good typed named local_lives b bs old new small w step grows le sound,
        ))
        s.code_start (length bytes) bs old fit waits is.1.bodies_are first f in
        let slot = slice_index_or is.1.bodied.functions.slots f None in
        let same = kind_at function slot (sym (ap (option_map bare_function) there) ∙ bare_same bare_function m.funcs.slots is.1.bodied.functions.slots f funcs_bare) in (
          kept.typed f function there,
          elim ends as (λ _. AllOf Good (items_of (body_names m.locals function.kind))) [
            | inl was ↦
                let read = read_kind i.types 0 f s.functions.items same.function
                (ap (λ (l : List (Option Function)). slice_index_or l f None) (sym is.1.are_filled.functions) ∙ sym was.0 ∙ same.there) in
                subst (λ (es : List Event). AllOf Good (items_of es)) (sym (no_body m.locals _ read.0.import function.kind (sym same.kind_is ∙ read.1))) tt
            | inr body ↦
                let alike : same.function ≡ body.function = some_is same.function body.function (sym same.there ∙ body.there) in
                let kind = sym same.kind_is ∙ ap (λ (x : Function). x.kind) alike ∙ body.kind in
                body_good function.kind body.local kind (walk_good f function body.local there kind body.good)
          ],
        )

    all_function : (f : ℕ) (o : Option Function) → item_at m.funcs f ≡ o → AllOf Good (items_of (named_by (function_names m.locals) o))
    all_function f None e = tt
    all_function f (Some function) e = function_good f function e

    all_type : (id : ℕ) → AllOf Good (items_of (named_by type_names (type_at m.types id)))
    all_type id = type_good Good (type_at m.types id) (type_at final id) (bare_same bare_type m.types.types final.types id types_bare) (λ x there. last.closed id x there)

    others : (space : Space) (id : ℕ) → HasNoBodies space → AllOf Good (names n (item space id))
    others space id bare = all_of Good (names n (item space id)) (λ y c. kept.named (item space id) y bare c)

    all_good : (space : Space) (id : ℕ) → AllOf Good (items_of (names_in n space id))
    all_good spaces.«Type» id = all_type id
    all_good spaces.Function id = all_function id (item_at m.funcs id) refl
    all_good spaces.Table id = others spaces.Table id tt
    all_good spaces.Memory id = tt
    all_good spaces.Tag id = others spaces.Tag id tt
    all_good spaces.Global id = others spaces.Global id tt
    all_good spaces.Element id = others spaces.Element id tt
    all_good spaces.Data id = others spaces.Data id tt
    all_good spaces.Local id = tt
    all_good spaces.Label id = tt
