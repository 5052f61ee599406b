-- Lemmas: what bodies that are read name is good, where what indices name and what lives is.
use Rattle.std.specs.Prelude.{ℕ, suc, ◌⊎◌, ◌≡◌, ◌<◌, ◌≤◌, ◌+◌, Bool, true, false, List, [], ◌∷◌, Contains, length, map, replicate, Option, Some, None, IfSome, slice_get, refl, if◌then◌else◌}
use Rattle.std.proofs.Common.{ap, sym, ◌∙◌, subst, arith, inl, inr}
use Rattle.std.proofs.lemmas.Bool.{cases_eq}
use Rattle.std.proofs.lemmas.List.{length-append}
use Rattle.std.proofs.lemmas.Option.{get_or_from_slice_get}
use Rattle.walrus_named_bodies.specs.walrus_file_bodies.walrus_items_into.walrus_module_env.walrus_handler_types.walrus_body_steps.wasm_body_grammar.Bodies.{Parts, body, body_of, declared}
use Rattle.walrus_named_bodies.specs.walrus_file_bodies.walrus_items_into.walrus_module_env.walrus_handler_types.walrus_body_steps.wasm_body_grammar.Rules.{Around, space_of}
use Rattle.walrus_named_bodies.specs.walrus_file_bodies.walrus_items_into.walrus_module_bodies.walrus_body_trees.walrus_meaning.walrus_linked.walrus_body_writer.walrus_pairing.wasm_operators.wasm_features.declared.WasmFeatures.{WasmFeatures}
use Rattle.walrus_named_bodies.specs.walrus_file_bodies.walrus_items_into.walrus_module_env.walrus_handler_types.walrus_body_steps.walrus_body_nesting.wasm_formats.Formats.{Small}
use Rattle.walrus_named_bodies.specs.walrus_file_bodies.walrus_items_into.walrus_module_env.walrus_handler_types.walrus_body_steps.walrus_body_nesting.wasm_formats.declared.fault.Space.TheVariants as spaces
use Rattle.walrus_named_bodies.specs.walrus_file_bodies.walrus_items_into.walrus_module_env.walrus_handler_types.walrus_body_steps.wasm_grammar.States.{types_of}
use Rattle.walrus_named_bodies.specs.walrus_file_bodies.walrus_items_into.walrus_module_bodies.walrus_body_trees.walrus_meaning.walrus_linked.walrus_body_writer.walrus_pairing.wasm_operators.Items.{Space, Types, Functions, Tables, Memories, Tags, Globals, ElementSegments, DataSegments, Locals, Labels}
use Rattle.wasm_import_links.specs.wasm_ruled_modules.Bodied.{body_is}
use Rattle.wasm_import_links.specs.wasm_ruled_modules.Rules.{LocalsBelow}
use Rattle.walrus_named_bodies.specs.walrus_file_bodies.walrus_items_into.walrus_module_env.wasm_run_names.Picks.{block_pick}
use Rattle.walrus_named_bodies.specs.walrus_file_bodies.walrus_items_into.wasm_sections.Within.{ChunksFit}
use Rattle.walrus_named_bodies.specs.walrus_file_bodies.walrus_items_into.walrus_module_env.walrus_handler_types.walrus_body_steps.walrus_body_nesting.Opens.{same}
use Rattle.walrus_named_bodies.specs.walrus_file_bodies.walrus_items_into.walrus_module_env.walrus_handler_types.walrus_body_steps.walrus_body_rules.Sights.{Sight}
use Rattle.walrus_body_laws.specs.Answers.{AllAre, AnswersAre, IsAnswer, block_items, value_items, without_handlers}
use Rattle.walrus_body_laws.specs.WalkingLaws.{HandlersHaveAnswers, IsRead as IsReadBy, WalksNameAnswers}
use Rattle.walrus_body_laws.proofs.Answers.{answers_are, other_answers_are}
use Rattle.walrus_named_bodies.specs.walrus_file_bodies.walrus_items_into.walrus_module_bodies.walrus_body_trees.walrus_meaning.walrus_linked.walrus_module.walrus_builder.Built.{contents, seq_of}
use Rattle.walrus_named_bodies.specs.walrus_file_bodies.walrus_items_into.walrus_module_bodies.walrus_body_trees.walrus_meaning.walrus_linked.walrus_module.walrus_builder.Functions.{seqs_of}
use Rattle.walrus_named_bodies.specs.walrus_file_bodies.Read.{Waits, env_is, env_of, grows_none, read_body_reads, step_filed, step_is_read, step_names, step_on, steps_grow, names_on}
use Rattle.walrus_forms.specs.Kinds.{entry_kind}
use Rattle.walrus_forms.specs.Renaming.{at, renamed_value}
use Rattle.walrus_forms.specs.declared.value.ValType.{ValType}
use Rattle.walrus_function_types.specs.FunctionTypes.{params_at, results_at}
use Rattle.walrus_function_types.specs.Growth.{EntryTypesGrow, FoundTypesStay, Grows, TablesGrowOn}
use Rattle.walrus_named_bodies.specs.walrus_file_bodies.walrus_items_into.walrus_functions_into.declared.bodies.FunctionBody.{FunctionBody}
use Rattle.walrus_named_bodies.proofs.walrus_handler_types.Growing.{tree_types_grow}
use Rattle.walrus_named_bodies.specs.walrus_file_bodies.walrus_items_into.walrus_module_env.walrus_handler_types.walrus_handler_laws.Handlers.{told_by, tree_ids}
use Rattle.walrus_named_bodies.specs.walrus_file_bodies.walrus_items_into.walrus_module_env.walrus_handler_types.walrus_handler_laws.declared.handler.Handler.{Handler}
use Rattle.walrus_named_bodies.specs.walrus_file_bodies.walrus_items_into.walrus_module_bodies.walrus_body_trees.walrus_meaning.walrus_linked.walrus_body_writer.walrus_pairing.walrus_index_maps.Maps.{Ids}
use Rattle.walrus_named_bodies.specs.walrus_file_bodies.walrus_items_into.walrus_module_bodies.walrus_body_trees.walrus_meaning.walrus_linked.walrus_body_writer.walrus_pairing.walrus_index_maps.Runs.{nowhere}
use Rattle.walrus_body_laws.specs.walrus_marks.walrus_instr.BlockTypes.{picked}
use Rattle.walrus_body_laws.specs.walrus_marks.walrus_instr.declared.seq.InstrSeqType.{InstrSeqType}
use Rattle.walrus_types.specs.walrus_items.declared.local.Local.{Local}
use Rattle.walrus_named_bodies.specs.walrus_file_bodies.walrus_items_into.walrus_tables_into.walrus_sections_into.walrus_known_sections.Items.{chunk_of}
use Rattle.walrus_body_laws.specs.walrus_marks.Named.{items_of}
use Rattle.walrus_body_laws.specs.walrus_marks.walrus_walks.Events.{val_names}
use Rattle.walrus_body_laws.specs.walrus_marks.walrus_walks.Walk.{body_walk}
use Rattle.walrus_named_bodies.specs.walrus_file_bodies.walrus_module_bodies.Reading.{AddsRuns, IsReadAside}
use Rattle.walrus_named_bodies.specs.walrus_file_bodies.walrus_module_bodies.Steps.{IsStep, State, Steps, cursor_of}
use Rattle.walrus_named_bodies.specs.walrus_file_bodies.walrus_module_bodies.declared.file.FileEnv.{FileEnv}
use Rattle.walrus_named_bodies.specs.walrus_file_bodies.walrus_items_into.walrus_module_env.Around.{IsFiled, sight_in}
use Rattle.walrus_named_bodies.specs.walrus_file_bodies.walrus_items_into.walrus_module_env.Parsed.{IsRead}
use Rattle.walrus_named_bodies.specs.walrus_file_bodies.walrus_items_into.walrus_module_env.Env.{if_own, is_own, own_pick, tag_type_at}
use Rattle.walrus_named_bodies.specs.walrus_file_bodies.walrus_items_into.walrus_module_env.declared.env.ModuleEnv.{ModuleEnv}
use Rattle.walrus_named_bodies.specs.walrus_file_bodies.walrus_items_into.walrus_module_bodies.walrus_body_trees.walrus_meaning.walrus_linked.walrus_module_items.Functions.{type_of}
use Rattle.walrus_named_bodies.specs.walrus_file_bodies.walrus_items_into.walrus_module_bodies.walrus_body_trees.walrus_meaning.walrus_linked.walrus_body_writer.walrus_pairing.Looks.{id_of}
use Rattle.walrus_named_bodies.specs.walrus_file_bodies.walrus_items_into.walrus_tables_into.walrus_sections.walrus_roots.Items.{item}
use Rattle.walrus_named_bodies.specs.walrus_file_bodies.walrus_items_into.walrus_tables_into.walrus_sections.walrus_roots.declared.item.Item.{Item}
use Rattle.walrus_types.specs.Items.{Item as TypeItem}
use Rattle.walrus_types.specs.Table.{Table, type_at}
use Rattle.walrus_parse_laws.proofs.ListLemmas.{AllOf, all_contains, get_some}
use Rattle.walrus_parse_laws.proofs.ItemsValueLemmas.{value_served}
use Rattle.walrus_named_bodies.specs.walrus_file_bodies.walrus_items_into.walrus_module_bodies.walrus_body_trees.walrus_meaning.walrus_linked.walrus_local_function.walrus_body_locals.Locals.{AddsKept}
use Rattle.walrus_named_bodies.specs.walrus_file_bodies.walrus_items_into.walrus_module_bodies.walrus_body_trees.walrus_meaning.walrus_linked.walrus_local_function.walrus_body_locals.Named.{kept_by}
use Rattle.walrus_named_bodies.specs.walrus_file_bodies.walrus_body_trees.walrus_body_nesting.wasm_body_grammar.wasm_operators.Operators.{Seen}
use Rattle.walrus_parse_laws.proofs.OwnLemmas.{adds_all}
use Rattle.walrus_parse_laws.proofs.LinkedLocalLemmas.{GoodLocal, NamesBelow, adds_below, adds_good, adds_many, values_good}
use Rattle.walrus_parse_laws.proofs.LinkedTableLemmas.{gives_closed, merges_closed, picked_good}
use Rattle.walrus_parse_laws.proofs.LinkedValueLemmas.{block_by, Closed, entry_good, GoodBlock, params_good, results_good, values_by}

pub all_of : {A : Type 0} (P : A → Type 0) (xs : List A) → ((y : A) → Contains xs y → P y) → AllOf P xs
all_of P [] f = tt
all_of P (x ∷ xs) f = (f x (0, omega arith, refl), all_of P xs (λ y c. f y (suc c.0, (let lt = c.1 in omega (arith, lt)), c.2)))

-- it is good, or the local of an index that names none
abbrev pub Walk : (Item → Type 0) → Item → Type 0
Walk Good x = Good x ⊎ (x ≡ item spaces.Local nowhere)

module _ (stay : FoundTypesStay) (on : TablesGrowOn) (enter : EntryTypesGrow) (walks : WalksNameAnswers) (handled : HandlersHaveAnswers) (file : FileEnv) (features : WasmFeatures) (a : Around) (count : ℕ → ℕ)
    (final : Table) (last : List Local) (i : Ids) (Good : Item → Type 0) (typed : (id : ℕ) (x : TypeItem) → type_at final id ≡ Some x → x.kind.entry ≡ false → Good (item spaces.«Type» id))
    (named : (space : Space) (n id : ℕ) → id_of i 0 space n ≡ Some id → Good (item (space_of space) id)) (local_lives : (id : ℕ) → id < length last → Good (item spaces.Local id)) where
  -- ---- what is seen

  type_good : (id : ℕ) → Walk Good (item spaces.«Type» id) → Good (item spaces.«Type» id)
  type_good id (inl good) = good
  type_good id (inr e) = absurd (let other : spaces.«Type» ≡ spaces.Local = ap (λ (x : Item). x.space) e in cc)

  looked : (j : Ids) → j ≡ record i { locals = j.locals } → (ls : List Local) → NamesBelow ls j → length ls ≤ length last → (function : ℕ) (space : Space) (n id : ℕ) → id_of j function space n ≡ Some id → Walk Good (item (space_of space) id)
  looked j has ls below le function Types n id e = inl (named Types n id (sym (ap (λ (k : Ids). slice_get k.types n) has) ∙ e))
  looked j has ls below le function Functions n id e = inl (named Functions n id (sym (ap (λ (k : Ids). slice_get k.functions n) has) ∙ e))
  looked j has ls below le function Tables n id e = inl (named Tables n id (sym (ap (λ (k : Ids). slice_get k.tables n) has) ∙ e))
  looked j has ls below le function Memories n id e = inl (named Memories n id (sym (ap (λ (k : Ids). slice_get k.memories n) has) ∙ e))
  looked j has ls below le function Tags n id e = inl (named Tags n id (sym (ap (λ (k : Ids). slice_get k.tags n) has) ∙ e))
  looked j has ls below le function Globals n id e = inl (named Globals n id (sym (ap (λ (k : Ids). slice_get k.globals n) has) ∙ e))
  looked j has ls below le function ElementSegments n id e = inl (named ElementSegments n id (sym (ap (λ (k : Ids). slice_get k.elements n) has) ∙ e))
  looked j has ls below le function DataSegments n id e = inl (named DataSegments n id (sym (ap (λ (k : Ids). slice_get k.segments n) has) ∙ e))
  looked j has ls below le function Locals n id e = elim (cases_eq id nowhere) as (λ _. Walk Good (item spaces.Local id)) [
    | inl none ↦ inr (ap (λ (k : ℕ). item spaces.Local k) none)
    | inr some ↦ inl (local_lives id (let lt = below function n id some e in omega (arith, lt, le)))
  ]
  looked j has ls below le function Labels n id e = absurd cc

  own_picked : (own : ℕ) (o : Option InstrSeqType) (ty : InstrSeqType) → if_own own o ≡ Some ty → o ≡ Some ty
  own_picked own None ty e = absurd cc
  own_picked own (Some t) ty e = go (is_own own t) e
    where
      go : (c : Bool) → (if c then Some t else None) ≡ Some ty → Some t ≡ Some ty
      go true e = e
      go false e = absurd cc

  abbrev sight_with : ModuleEnv → ℕ → Ids → (List ValType → List ValType → Option InstrSeqType) → Sight
  sight_with e function j handler = record (sight_in e function j) { handler_type = handler }

  pick_are : (t : Table) → Grows t final → (ps rs : List ValType) (ty : InstrSeqType) → picked ps rs t ≡ Some ty → AllAre (Walk Good) (value_items rs) → AllAre (Walk Good) (block_items ty)
  pick_are t grows ps rs ty e r = λ y c. inl (all_contains Good (block_items ty) y (picked_good Good final typed t grows ps rs ty e (values_by (Walk Good) Good type_good rs (all_of (Walk Good) (value_items rs) r))) c)

  answers : (e : ModuleEnv) (t : Table) → e.types.now ≡ t → Closed Good t → Grows t final → (j : Ids) → j ≡ record i { locals = j.locals } → (ls : List Local) → NamesBelow ls j → length ls ≤ length last → (function : ℕ)
      → (handler : List ValType → List ValType → Option InstrSeqType) → AnswersAre (sight_with e function j handler) (Walk Good)
  answers e t types closed grows j has ls below le function handler = record {
    looked = looked j has ls below le function;
    params = λ id tys is y c. inl (all_contains Good (value_items tys) y (params_good Good t closed id tys (ap (λ (v : Table). params_at v id) (sym types) ∙ is)) c);
    results = λ id tys is y c. inl (all_contains Good (value_items tys) y (results_good Good t closed id tys (ap (λ (v : Table). results_at v id) (sym types) ∙ is)) c);
    blocks = λ ps rs ty is p r y c. inl (all_contains Good (block_items ty) y
        (picked_good Good final typed t grows ps rs ty (own_picked e.own_types (picked ps rs t) ty (ap (λ (v : Table). own_pick e.own_types v ps rs) (sym types) ∙ is))
        (values_by (Walk Good) Good type_good rs (all_of (Walk Good) (value_items rs) r))) c);
  }

  -- ---- while bodies are read

  -- so far what the table's types and the types of locals name is good, and indices name locals that are there
  pub record Sound (s : State) : Type 0 where
    pub names : s.ids ≡ record i { locals = s.ids.locals }
    pub below : NamesBelow s.locals s.ids
    pub closed : Closed Good s.types
    pub locals_good : AllOf (GoodLocal Good) s.locals

  declared_good : (ids : List ℕ) (types : ℕ) → ((n : ℕ) → n < types → Good (item spaces.«Type» (at ids n))) → (tys : List ValType) → LocalsBelow types tys
      → AllOf (λ (ty : ValType). AllOf Good (items_of (val_names ty))) (map (renamed_value (at ids)) tys)
  declared_good ids types serves [] h = tt
  declared_good ids types serves (ty ∷ tys) h = (value_served types (at ids) Good serves (renamed_value (at ids) ty) ty refl h.0, declared_good ids types serves tys h.1)

  module _ (b : FunctionBody) (bs : List FunctionBody) (old new : State) (small : Small b.chunk.bytes.now) (w : Waits file features a count old (b ∷ bs)) (s : IsStep file features b old new) (grows : Grows new.types final)
      (le : length new.locals ≤ length last) (h : Sound old) where
    mid_names : s.numbered ≡ record i { locals = s.numbered.locals }
    mid_names = names_on i old.ids s.numbered h.names (s.arguments.named ∙ ap (λ (l : ℕ → List ℕ). record old.ids { locals = l }) (sym (ap (λ (k : Ids). k.locals) s.arguments.named)))

    new_names : new.ids ≡ record i { locals = new.ids.locals }
    new_names = names_on i old.ids new.ids h.names (step_names stay on enter file features a count b old new s)

    mid_closed : Closed Good s.mid
    mid_closed = merges_closed Good (entry_kind s.results) s.entry old.types s.mid s.entered (entry_good Good s.results (results_good Good old.types h.closed (type_of s.item.kind) s.results s.results_are)) h.closed

    abbrev given : AddsKept b.number (replicate (length s.params) true) s.params old.locals s.named old.ids s.numbered
    given = adds_all b.number s.params old.locals s.named old.ids s.numbered s.arguments

    mid_below : NamesBelow s.named s.numbered
    mid_below = adds_below b.number (replicate (length s.params) true) s.params old.locals s.named old.ids s.numbered given h.below

    mid_good : AllOf (GoodLocal Good) s.named
    mid_good = adds_good Good b.number (replicate (length s.params) true) s.params old.locals s.named old.ids s.numbered given (params_good Good old.types h.closed (type_of s.item.kind) s.params s.params_are) h.locals_good

    abbrev mid_env : ModuleEnv
    mid_env = env_of file s.mid

    it : (r : IsRead (env_of file new.types) b.number (length s.params) (cursor_of file features b) new.ids (contents s.body.builder.builder) a) × (length (new.ids.locals b.number) ≡ length s.params + length (declared r.runs))
        × AddsRuns b.number (length s.params) r.runs r.ops s.named new.locals s.numbered new.ids
    it = s.read mid_env (env_of file new.types) new.types (env_is file s.mid) (grows_none new.types) (env_is file new.types) a (step_filed stay on enter file features a count b bs old new w s mid_env (env_is file s.mid))

    abbrev kept : List Bool
    kept = kept_by s.numbered.all_locals (length s.params) (length (declared it.0.runs)) (map (λ (x : ℕ × Seen). x.1) it.0.ops)

    mid_filed : IsFiled mid_env s.numbered b.number (length s.params) features a
    mid_filed = step_filed stay on enter file features a count b bs old new w s mid_env (env_is file s.mid)

    serves : (n : ℕ) → n < length (types_of a.filled) → Good (item spaces.«Type» (at s.numbered.types n))
    serves n lt =
        let got = get_some s.numbered.types n (subst (λ (k : ℕ). n < k) (sym mid_filed.types_are.sized) lt) in
        subst (λ (id : ℕ). Good (item spaces.«Type» id)) (sym (get_or_from_slice_get s.numbered.types n got.0 0 got.1)) (named Types n got.0 (sym (ap (λ (k : Ids). slice_get k.types n) mid_names) ∙ got.1))

    locals_below : LocalsBelow (length (types_of a.filled)) (declared it.0.runs)
    locals_below = (body_is a (length s.params) b.chunk.place b.chunk.bytes.now (body_of ((it.0.place, it.0.runs), it.0.ops))
        (read_body_reads stay on enter file features a count b (env_of file new.types) (length s.params) new.ids (contents s.body.builder.builder) it.0 refl small)).named

    new_good : AllOf (GoodLocal Good) new.locals
    new_good = adds_good Good b.number kept (map (renamed_value (at s.numbered.types)) (declared it.0.runs)) s.named new.locals s.numbered new.ids it.2
        (values_good Good _ (declared_good s.numbered.types (length (types_of a.filled)) serves (declared it.0.runs) locals_below)) mid_good

    new_below : NamesBelow new.locals new.ids
    new_below = adds_below b.number kept (map (renamed_value (at s.numbered.types)) (declared it.0.runs)) s.named new.locals s.numbered new.ids it.2 mid_below

    -- the types of its handlers
    abbrev g : ModuleEnv
    g = s.handled.env

    aside : IsReadAside g b.number (length s.params) (cursor_of file features b) s.numbered new.ids s.named new.locals (map seq_of s.handled.own) a
    aside = s.handled.aside a (step_filed stay on enter file features a count b bs old new w s g s.handled.env_is)

    read_by : IsReadBy aside.sight s.handled.own
    read_by =
        let parts : Parts = ((aside.place, aside.runs), aside.ops) in
        let rules = (body a (length s.params) _).found b.chunk.bytes.now parts small aside.read in
        record { around = a; params = length s.params; place = _; bytes = b.chunk.bytes.now; parts = parts; is_body = (small, rules.0, rules.1); pick = same; stands = aside.stands same (λ ty. refl) }

    grows_mid : Grows s.mid final
    grows_mid = on s.mid new.types final (tree_types_grow (tag_type_at g.tags.now) s.handled.own s.handled.tree s.mid (contents s.body.builder.builder) new.types s.handled.given) grows

    seen : AnswersAre aside.sight (Walk Good)
    seen = subst (λ (x : Sight). AnswersAre x (Walk Good)) (sym aside.aside)
        (answers g s.mid s.handled.env_is.types_are mid_closed grows_mid new.ids new_names new.locals new_below le b.number aside.sight.handler_type)

    abbrev told : ℕ → Option Handler
    told = told_by (tag_type_at g.tags.now) s.handled.own (tree_ids s.handled.tree)

    handler_good : (k : ℕ) (x : Handler) → told k ≡ Some x → GoodBlock Good x.block
    handler_good k x is =
        let block : AllAre (IsAnswer (without_handlers aside.sight)) (block_items x.block) =
        subst (λ (o : Option Handler). IfSome o (λ h. AllAre (IsAnswer (without_handlers aside.sight)) (block_items h.block))) is (handled aside.sight s.handled.own read_by s.handled.tree (tag_type_at g.tags.now) k) in
        block_by (Walk Good) Good type_good x.block (all_of (Walk Good) (block_items x.block) (λ y c. other_answers_are aside.sight (Walk Good) seen y (block y c)))

    new_closed : Closed Good new.types
    new_closed = gives_closed Good told (tree_ids s.handled.tree) (map seq_of s.handled.own) s.mid (contents s.body.builder.builder) new.types handler_good s.handled.given mid_closed

    pub step_sound : Sound new
    step_sound = record { names = new_names; below = new_below; closed = new_closed; locals_good = new_good }

    -- once all types are there, what its walk names is good, or the local of no index
    pub step_walk : Closed Good final → AllAre (Walk Good) (items_of (body_walk (seqs_of s.body.builder) 0))
    step_walk closed y has =
        let e = env_of file final in
        let read = step_is_read stay on enter file features a count b bs old new w s e final grows (env_is file final) in
        let parts : Parts = ((read.place, read.runs), read.ops) in
        let rules = (body a (length s.params) _).found b.chunk.bytes.now parts small read.read in
        let sight = sight_in e b.number new.ids in
        let by : IsReadBy sight (seqs_of s.body.builder) =
        record { around = a; params = length s.params; place = _; bytes = b.chunk.bytes.now; parts = parts; is_body = (small, rules.0, rules.1); pick = block_pick a; stands = read.stands } in
        let whole = grows_none final in
        answers_are sight (Walk Good) (answers e final refl closed whole new.ids new_names new.locals new_below le b.number (λ ps rs. picked ps rs final))
        (λ ps rs ty is p r. pick_are final whole ps rs ty is r) y (walks sight (seqs_of s.body.builder) by y has)

  -- ---- all of them

  pub steps_more : (bs : List FunctionBody) (old new : State) → Waits file features a count old bs → Steps file features bs old new → length old.locals ≤ length new.locals
  steps_more [] old new w e = let same = ap (λ (s : State). length s.locals) e in omega (arith, same)
  steps_more (b ∷ bs) old new w (mid, s, more) =
      let later = steps_more bs mid new (step_on stay on enter file features a count b bs old mid w s) more in
      let first = adds_many b.number (replicate (length s.params) true) s.params old.locals s.named old.ids s.numbered (adds_all b.number s.params old.locals s.named old.ids s.numbered s.arguments) in
      let second = ap length s.left.added ∙ length-append s.named _ in
      omega (arith, later, first, second)

  pub steps_sound : (start end : ℕ) (bs : List FunctionBody) (old new : State) → ChunksFit start end (map (λ (b : FunctionBody). chunk_of b.chunk) bs) → Waits file features a count old bs → Steps file features bs old new
      → Grows new.types final → length new.locals ≤ length last → Sound old → Sound new
  steps_sound start end [] old new fit w e grows le h = subst Sound (sym e) h
  steps_sound start end (b ∷ bs) old new fit w (mid, s, more) grows le h =
      let on_mid = step_on stay on enter file features a count b bs old mid w s in
      let later = steps_more bs mid new on_mid more in
      steps_sound start end bs mid new fit.1 on_mid more grows le
      (step_sound b bs old mid fit.0.0 w s (on mid.types new.types final (steps_grow on file features bs mid new more) grows) (omega (arith, later, le)) h)
