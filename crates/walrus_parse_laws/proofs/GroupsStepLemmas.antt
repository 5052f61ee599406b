-- Lemmas: the bodies of a file add to the table of types what their handlers lack.
use Rattle.std.proofs.Common.{◌≡◌, ◌∙◌, ℕ, List, [], ◌∷◌, ◌++◌, length, map, Option, Some, None, refl, sym, ap, subst}
use Rattle.std.specs.Prelude.{IsSome}
use Rattle.std.specs.List.{AllByRecursion, flat_map}
use Rattle.std.proofs.lemmas.List.{append_assoc, append-nil}
use Rattle.std.proofs.lemmas.List.Concat.{flat_map-append}
use Rattle.walrus_body_laws.specs.walrus_pairing.wasm_operators.wasm_features.declared.WasmFeatures.{WasmFeatures}
use Rattle.walrus_named_bodies.specs.walrus_file_bodies.walrus_items_into.walrus_module_env.walrus_handler_types.walrus_handler_laws.walrus_body_steps.wasm_body_grammar.Bodies.{Parts, body}
use Rattle.walrus_named_bodies.specs.walrus_file_bodies.walrus_items_into.walrus_module_env.walrus_handler_types.walrus_handler_laws.walrus_body_steps.wasm_body_grammar.Rules.{Around}
use Rattle.walrus_named_bodies.specs.walrus_file_bodies.walrus_items_into.walrus_module_env.walrus_handler_types.walrus_handler_laws.walrus_body_steps.walrus_body_nesting.wasm_formats.Formats.{Small}
use Rattle.walrus_named_bodies.specs.walrus_file_bodies.walrus_items_into.walrus_module_env.walrus_handler_types.walrus_handler_laws.walrus_body_steps.wasm_normal_form.Normal.{normal}
use Rattle.walrus_named_bodies.specs.walrus_file_bodies.walrus_items_into.wasm_sections.Within.{ChunksFit}
use Rattle.walrus_named_bodies.specs.walrus_file_bodies.walrus_items_into.walrus_module_env.walrus_handler_types.walrus_handler_laws.walrus_body_steps.walrus_body_nesting.Opens.{same}
use Rattle.walrus_named_bodies.specs.walrus_file_bodies.walrus_items_into.walrus_module_env.Env.{tag_type_at}
use Rattle.walrus_named_bodies.specs.walrus_file_bodies.walrus_items_into.walrus_module_env.walrus_body_parser.Points.{place_at}
use Rattle.walrus_named_bodies.specs.walrus_file_bodies.walrus_items_into.walrus_module_env.walrus_handler_types.walrus_handler_laws.walrus_body_steps.walrus_body_rules.Sights.{Sight, results_of}
use Rattle.walrus_named_bodies.specs.walrus_item_names.walrus_module.walrus_builder.Built.{contents, seq_of}
use Rattle.walrus_named_bodies.specs.walrus_file_bodies.Read.{Waits, step_filed, step_on, steps_grow}
use Rattle.walrus_forms.specs.declared.value.ValType.{ValType}
use Rattle.walrus_function_types.specs.FunctionTypes.{params_at, results_at}
use Rattle.walrus_function_types.specs.Growth.{EntryTypesGrow, FoundTypesStay, Grows, TablesGrowOn}
use Rattle.walrus_named_bodies.specs.walrus_file_bodies.walrus_items_into.walrus_functions_into.declared.bodies.FunctionBody.{FunctionBody}
use Rattle.walrus_named_bodies.specs.walrus_file_bodies.walrus_items_into.walrus_module_env.walrus_handler_types.walrus_handler_laws.Handlers.{told_by, tree_ids}
use Rattle.walrus_named_bodies.specs.walrus_file_bodies.walrus_items_into.walrus_module_env.walrus_handler_types.walrus_handler_laws.Retyping.{handler_params}
use Rattle.walrus_named_bodies.specs.walrus_file_bodies.walrus_items_into.walrus_module_env.walrus_handler_types.walrus_handler_laws.declared.handler.Handler.{Handler}
use Rattle.walrus_named_bodies.proofs.walrus_handler_types.Growing.{tree_types_grow}
use Rattle.walrus_named_bodies.specs.walrus_file_bodies.walrus_items_into.walrus_module_env.walrus_handler_types.Giving.{block_results, caught, tree_handlers}
use Rattle.walrus_body_laws.specs.walrus_pairing.walrus_instr.declared.seq.InstrSeqType.{InstrSeqType}
use Rattle.walrus_body_laws.specs.walrus_pairing.walrus_instr.declared.seq.InstrSeqType.TheVariants.{Simple, MultiValue}
use Rattle.walrus_named_bodies.specs.walrus_file_bodies.walrus_items_into.walrus_tables_into.walrus_sections_into.walrus_known_sections.Items.{chunk_of}
use Rattle.walrus_named_bodies.specs.walrus_file_bodies.walrus_module_bodies.Steps.{IsStep, State, Steps, cursor_of}
use Rattle.walrus_named_bodies.specs.walrus_file_bodies.walrus_module_bodies.declared.file.FileEnv.{FileEnv}
use Rattle.walrus_body_laws.specs.walrus_pairing.Laws.{OperatorComesBack}
use Rattle.walrus_named_bodies.specs.walrus_item_names.walrus_module.walrus_types.Table.{Table}
use Rattle.walrus_parse_laws.specs.Added.{Signature}
use Rattle.walrus_parse_laws.specs.Groups.{handlers_in}
use Rattle.walrus_parse_laws.specs.Handlers.{HasTypes, signatures}
use Rattle.walrus_body_laws.proofs.walrus_body_trees.Bodies.{AreSpelled}
use Rattle.walrus_body_laws.proofs.Fitting.{spelled_fits}
use Rattle.walrus_parse_laws.proofs.FitLemmas.{body_tree}
use Rattle.walrus_parse_laws.proofs.GivenLemmas.{all_stay, stands_given}
use Rattle.walrus_parse_laws.proofs.GroupsTableLemmas.{Stands, stands_entered}
use Rattle.walrus_parse_laws.proofs.ToldLemmas.{IsSeen, all_join, each_seen}

-- ---- what a sight sees of a handler the table has

seen_caught : (s : Sight) (t : Table) → s.params ≡ params_at t → (tag : Option ℕ) → IsSome (handler_params s tag) → IsSome (caught t tag)
seen_caught s t e None is = is
seen_caught s t e (Some id) is = subst (λ (f : ℕ → Option (List ValType)). IsSome (f id)) e is

seen_results : (s : Sight) (t : Table) → s.results ≡ results_at t → (block : InstrSeqType) → IsSome (results_of s block) → IsSome (block_results t block)
seen_results s t e (Simple ty) is = is
seen_results s t e (MultiValue id) is = subst (λ (f : ℕ → Option (List ValType)). IsSome (f id)) e is

pub seen_types : (s : Sight) (t : Table) → s.params ≡ params_at t → s.results ≡ results_at t → (h : Option Handler) → IsSeen s h → HasTypes t h
seen_types s t p r None is = tt
seen_types s t p r (Some h) is = (seen_caught s t p h.tag_type is.0, seen_results s t r h.block is.1)

all_map : {X Y : Type 0} (P : Y → Type 0) (f : X → Y) → ((x : X) → P (f x)) → (xs : List X) → AllByRecursion P (map f xs)
all_map P f h [] = tt
all_map P f h (x ∷ xs) = (h x, all_map P f h xs)

-- ---- steps

module _ (back : OperatorComesBack) (spelled : AreSpelled) (stay : FoundTypesStay) (on : TablesGrowOn) (enter : EntryTypesGrow) (file : FileEnv) (features : WasmFeatures) (a : Around) (count : ℕ → ℕ) where
  -- the table that a body begins with has the types of its handlers' tags and blocks
  step_typed : (b : FunctionBody) (bs : List FunctionBody) (old new : State) → Small b.chunk.bytes.now → Waits file features a count old (b ∷ bs) → (s : IsStep file features b old new)
      → AllByRecursion (HasTypes s.mid) (tree_handlers (tag_type_at s.handled.env.tags.now) s.handled.own s.handled.tree)
  step_typed b bs old new small w s =
      let g = s.handled in
      let e = g.env in
      let filed = step_filed stay on enter file features a count b bs old new w s e g.env_is in
      let r = g.aside a filed in
      let parts : Parts = ((r.place, r.runs), r.ops) in
      let found = (body a (length s.params) (place_at e.code_start (cursor_of file features b))).found b.chunk.bytes.now parts small r.read in
      let fits = spelled_fits spelled a (length s.params) (place_at e.code_start (cursor_of file features b)) b.chunk.bytes.now parts same small found.0 in
      let p : r.sight.params ≡ params_at s.mid = ap (λ (x : Sight). x.params) r.aside ∙ ap params_at g.env_is.types_are in
      let q : r.sight.results ≡ results_at s.mid = ap (λ (x : Sight). x.results) r.aside ∙ ap results_at g.env_is.types_are in
      let told : ℕ → Option Handler = told_by r.sight.tag_type g.own (tree_ids g.tree) in
      let seen = each_seen back a.features r.sight g.own (normal same (body_tree parts)) fits (r.stands same (λ ty. refl)) g.tree in
      subst (λ (f : ℕ → Option ℕ). AllByRecursion (HasTypes s.mid) (tree_handlers f g.own g.tree)) (ap (λ (x : Sight). x.tag_type) r.aside)
      (all_map (HasTypes s.mid) told (λ j. seen_types r.sight s.mid p q (told j) (seen j)) (tree_ids g.tree))

  module _ (t : Table) where
    pub steps_stand : (start end : ℕ) (bs : List FunctionBody) (old new : State) → ChunksFit start end (map (λ (b : FunctionBody). chunk_of b.chunk) bs) → Waits file features a count old bs → (steps : Steps file features bs old new)
        → (later : Table) → Grows new.types later → (ss : List Signature) → Stands t ss old.types
        → Stands t (ss ++ flat_map (signatures later) (handlers_in file features bs old new steps)) new.types × AllByRecursion (HasTypes later) (handlers_in file features bs old new steps)
    steps_stand start end [] old new fit w e later grows ss h =
        (subst (λ (l : List Signature). Stands t l new.types) (sym (append-nil ss)) (subst (λ (s : State). Stands t ss s.types) (sym e) h), tt)
    steps_stand start end (b ∷ bs) old new fit w (mid, step, rest) later grows ss h =
        let g = step.handled in
        let tags : ℕ → Option ℕ = tag_type_at g.env.tags.now in
        let js : List ℕ = tree_ids g.tree in
        let hs : List (Option Handler) = tree_handlers tags g.own g.tree in
        let others = handlers_in file features bs mid new rest in
        let c = contents step.body.builder.builder in
        let typed = step_typed b bs old mid fit.0.0 w step in
        let grown : Grows mid.types later = on mid.types new.types later (steps_grow on file features bs mid new rest) grows in
        let all : Grows step.mid later = on step.mid mid.types later (tree_types_grow tags g.own g.tree step.mid c mid.types g.given) grown in
        let one = stands_given t later (told_by tags g.own js) js ss (map seq_of g.own) c step.mid mid.types (stands_entered t ss old.types h step.results step.entry step.mid step.entered) typed g.given grown in
        let done : List Signature = flat_map (signatures later) hs in
        let more = steps_stand start end bs mid new fit.1 (step_on stay on enter file features a count b bs old mid w step) rest later grows (ss ++ done) one in
        let same_list : (ss ++ done) ++ flat_map (signatures later) others ≡ ss ++ flat_map (signatures later) (hs ++ others) =
        append_assoc ss done (flat_map (signatures later) others) ∙ ap (λ (l : List Signature). ss ++ l) (sym (flat_map-append (signatures later) hs others)) in
        (subst (λ (l : List Signature). Stands t l new.types) same_list more.0, all_join (HasTypes later) hs others (all_stay step.mid later all hs typed) more.1)
