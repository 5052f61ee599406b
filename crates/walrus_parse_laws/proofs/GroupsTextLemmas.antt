-- Lemmas: the handlers of bodies that were read are those of their texts.
use Rattle.std.proofs.Common.{◌≡◌, ◌∙◌, ℕ, List, [], ◌∷◌, ◌++◌, length, map, Ok, Option, Some, None, refl, sym, ap, subst, arith}
use Rattle.std.specs.List.{flat_map}
use Rattle.std.specs.Option.{option_map, option_or}
use Rattle.walrus_named_bodies.specs.walrus_file_bodies.walrus_items_into.walrus_module_env.walrus_handler_types.walrus_handler_laws.walrus_body_steps.wasm_body_grammar.Bodies.{Parts, body, body_of}
use Rattle.walrus_named_bodies.specs.walrus_file_bodies.walrus_items_into.walrus_module_env.walrus_handler_types.walrus_handler_laws.walrus_body_steps.wasm_body_grammar.Rules.{Around}
use Rattle.walrus_body_laws.specs.walrus_pairing.wasm_operators.wasm_features.declared.WasmFeatures.{WasmFeatures}
use Rattle.walrus_named_bodies.specs.walrus_file_bodies.walrus_items_into.walrus_module_env.walrus_handler_types.walrus_handler_laws.walrus_body_steps.walrus_body_nesting.wasm_formats.Formats.{Small}
use Rattle.walrus_named_bodies.specs.walrus_file_bodies.walrus_items_into.walrus_module_env.walrus_handler_types.walrus_handler_laws.walrus_body_steps.wasm_grammar.Modules as grammar
use Rattle.walrus_named_bodies.specs.walrus_file_bodies.walrus_items_into.walrus_module_env.walrus_handler_types.walrus_handler_laws.walrus_body_steps.wasm_normal_form.Normal.{normal}
use Rattle.walrus_named_bodies.specs.walrus_file_bodies.walrus_items_into.walrus_module_env.walrus_handler_types.walrus_handler_laws.walrus_body_steps.wasm_normal_form.Roles.{placed}
use Rattle.walrus_named_bodies.specs.walrus_file_bodies.walrus_items_into.walrus_module_env.walrus_handler_types.walrus_handler_laws.walrus_body_steps.wasm_normal_form.Trees.{tree_of}
use Rattle.walrus_named_bodies.specs.walrus_file_bodies.walrus_items_into.wasm_sections.Within.{ChunksFit}
use Rattle.walrus_named_bodies.specs.walrus_file_bodies.walrus_items_into.walrus_module_env.walrus_handler_types.walrus_handler_laws.walrus_body_steps.walrus_body_nesting.Opens.{same}
use Rattle.walrus_named_bodies.specs.walrus_file_bodies.walrus_items_into.walrus_module_env.walrus_body_parser.Points.{place_at}
use Rattle.walrus_named_bodies.specs.walrus_file_bodies.walrus_items_into.walrus_module_env.walrus_handler_types.walrus_handler_laws.walrus_body_steps.walrus_body_rules.Sights.{Sight, results_of}
use Rattle.walrus_named_bodies.specs.walrus_file_bodies.Read.{Waits, env_of, step_filed, step_on, steps_grow}
use Rattle.walrus_forms.specs.declared.value.ValType.{ValType}
use Rattle.walrus_function_types.specs.FunctionTypes.{params_at, results_at}
use Rattle.walrus_function_types.specs.Growth.{EntryTypesGrow, FoundTypesStay, Grows, TablesGrowOn}
use Rattle.walrus_named_bodies.specs.walrus_file_bodies.walrus_items_into.walrus_functions_into.declared.bodies.FunctionBody.{FunctionBody}
use Rattle.walrus_named_bodies.specs.walrus_file_bodies.walrus_items_into.walrus_module_env.walrus_handler_types.walrus_handler_laws.Handlers.{TreesTell, told_by, tree_ids}
use Rattle.walrus_named_bodies.specs.walrus_file_bodies.walrus_items_into.walrus_module_env.walrus_handler_types.walrus_handler_laws.Retyping.{Widens, handler_params}
use Rattle.walrus_named_bodies.specs.walrus_file_bodies.walrus_items_into.walrus_module_env.walrus_handler_types.walrus_handler_laws.declared.handler.Handler.{Handler}
use Rattle.walrus_named_bodies.proofs.walrus_handler_types.Growing.{function_results_grow, params_grow, picks_grow, tree_types_grow}
use Rattle.walrus_named_bodies.specs.walrus_file_bodies.walrus_items_into.walrus_module_env.walrus_handler_types.Giving.{block_results, caught, tree_handlers}
use Rattle.walrus_body_laws.specs.walrus_pairing.walrus_index_maps.Maps.{Ids}
use Rattle.walrus_named_bodies.specs.walrus_item_names.Names.{bare_type}
use Rattle.walrus_body_laws.specs.walrus_pairing.walrus_instr.BlockTypes.{picked, short_form}
use Rattle.walrus_body_laws.specs.walrus_pairing.walrus_instr.declared.seq.InstrSeqType.{InstrSeqType}
use Rattle.walrus_body_laws.specs.walrus_pairing.walrus_instr.declared.seq.InstrSeqType.TheVariants.{Simple, MultiValue}
use Rattle.walrus_named_bodies.specs.walrus_file_bodies.walrus_items_into.walrus_tables_into.walrus_sections_into.walrus_known_sections.Items.{chunk_of}
use Rattle.walrus_named_bodies.specs.walrus_file_bodies.walrus_module_bodies.Envs.{IsEnv}
use Rattle.walrus_named_bodies.specs.walrus_file_bodies.walrus_module_bodies.Steps.{IsStep, State, Steps, cursor_of}
use Rattle.walrus_named_bodies.specs.walrus_file_bodies.walrus_module_bodies.declared.file.FileEnv.{FileEnv}
use Rattle.walrus_named_bodies.specs.walrus_file_bodies.walrus_items_into.walrus_module_env.Around.{sight_in}
use Rattle.walrus_named_bodies.specs.walrus_file_bodies.walrus_items_into.walrus_module_env.Env.{if_own, own_pick, tag_type_at}
use Rattle.walrus_named_bodies.specs.walrus_file_bodies.walrus_items_into.walrus_module_env.declared.env.ModuleEnv.{ModuleEnv}
use Rattle.walrus_body_laws.specs.walrus_pairing.Laws.{OperatorComesBack}
use Rattle.walrus_named_bodies.specs.walrus_item_names.walrus_module.walrus_builder.Built.{contents}
use Rattle.walrus_named_bodies.specs.walrus_item_names.walrus_module.walrus_types.Table.{Table}
use Rattle.walrus_parse_laws.specs.Added.{Signature}
use Rattle.walrus_parse_laws.specs.Catches.{catches}
use Rattle.walrus_parse_laws.specs.Handlers.{signature_of, signatures}
use Rattle.walrus_parse_laws.specs.GroupsTexts.{TellTexts, TellsText}
use Rattle.walrus_parse_laws.proofs.CatchLemmas.{body_catches, seen_signatures}
use Rattle.walrus_parse_laws.proofs.GroupsFileLemmas.{all_signatures, same_caught, same_found, same_results}
use Rattle.walrus_body_laws.proofs.walrus_body_trees.Bodies.{AreSpelled}
use Rattle.walrus_body_laws.proofs.Fitting.{spelled_fits}
use Rattle.walrus_parse_laws.proofs.FitLemmas.{body_tree}
use Rattle.walrus_parse_laws.proofs.GivenLemmas.{signatures_stay}
use Rattle.walrus_parse_laws.proofs.GroupsStepLemmas.{seen_types}
use Rattle.walrus_parse_laws.proofs.ToldLemmas.{each_seen}

-- ---- a later table, beside the same tags

own_stays : (own : ℕ) (t v : Table) → Grows t v → (ps rs : List ValType) (ty : InstrSeqType) → own_pick own t ps rs ≡ Some ty → own_pick own v ps rs ≡ Some ty
own_stays own t v g ps rs ty e = go (picked ps rs t) refl e
  where
    go : (o : Option InstrSeqType) → picked ps rs t ≡ o → if_own own o ≡ Some ty → own_pick own v ps rs ≡ Some ty
    go None is e = absurd cc
    go (Some x) is e = ap (if_own own) (picks_grow t v g ps rs x is) ∙ e

widens : (file : FileEnv) (t v : Table) (e : ModuleEnv) → IsEnv file t e → Grows t v → (function : ℕ) (i : Ids) (h : List ValType → List ValType → Option InstrSeqType)
    → Widens (record (sight_in e function i) { handler_type = h }) (sight_in (env_of file v) function i)
widens file t v e is g function i h = record {
  ids = refl;
  function = refl;
  params = λ id tys there. params_grow t v g id tys (ap (λ (x : Table). params_at x id) (sym is.types_are) ∙ there);
  results = λ id tys there. function_results_grow t v g id tys (ap (λ (x : Table). results_at x id) (sym is.types_are) ∙ there);
  blocks = λ ps rs ty there. own_stays file.own_types t v g ps rs ty
      (ap (λ (n : ℕ). own_pick n t ps rs) (sym is.own_are) ∙ ap (λ (x : Table). own_pick e.own_types x ps rs) (sym is.types_are) ∙ there);
  tags = λ tag ty there. ap (λ x. tag_type_at x tag) (sym is.tags_are) ∙ there;
}

-- a body's first byte has its place behind the beginning of the code section's contents
pub placed_there : (file : FileEnv) (features : WasmFeatures) (b : FunctionBody) (code : ℕ) → code ≡ file.code_start → place_at code (cursor_of file features b) ≡ b.chunk.place
placed_there file features b code is = omega (arith, is)

-- ---- what a sight sees of a handler the table has

pub seen_is : (s : Sight) (t : Table) → s.params ≡ params_at t → s.results ≡ results_at t → (h : Option Handler) → seen_signatures s h ≡ signatures t h
seen_is s t p r None = refl
seen_is s t p r (Some h) = ap (λ (o : Option (List ValType)). signature_of o (results_of s h.block)) (tag h.tag_type) ∙ ap (signature_of (caught t h.tag_type)) (block h.block)
  where
    tag : (o : Option ℕ) → handler_params s o ≡ caught t o
    tag None = refl
    tag (Some id) = ap (λ (f : ℕ → Option (List ValType)). f id) p

    block : (b : InstrSeqType) → results_of s b ≡ block_results t b
    block (Simple ty) = refl
    block (MultiValue id) = ap (λ (f : ℕ → Option (List ValType)). f id) r

pub each_is : (f g : ℕ → List Signature) → ((j : ℕ) → f j ≡ g j) → (js : List ℕ) → flat_map f js ≡ flat_map g js
each_is f g h [] = refl
each_is f g h (j ∷ js) = ap (λ (l : List Signature). l ++ flat_map f js) (h j) ∙ ap (λ (l : List Signature). g j ++ l) (each_is f g h js)

pub mapped : (f : Option Handler → List Signature) (g : ℕ → Option Handler) (js : List ℕ) → flat_map (λ j. f (g j)) js ≡ flat_map f (map g js)
mapped f g [] = refl
mapped f g (j ∷ js) = ap (λ (l : List Signature). f (g j) ++ l) (mapped f g js)

-- ---- steps

module _ (back : OperatorComesBack) (spelled : AreSpelled) (tell : TreesTell) (stay : FoundTypesStay) (on : TablesGrowOn) (enter : EntryTypesGrow) (file : FileEnv) (features : WasmFeatures) (a : Around) (count : ℕ → ℕ)
    (later : Table) where
  step_tells : (b : FunctionBody) (bs : List FunctionBody) (old new : State) → Small b.chunk.bytes.now → Waits file features a count old (b ∷ bs) → (s : IsStep file features b old new) → Grows new.types later
      → TellsText file features a later b old new s
  step_tells b bs old new small w s grows =
      let g = s.handled in
      let e = g.env in
      let js = tree_ids g.tree in
      let filed = step_filed stay on enter file features a count b bs old new w s e g.env_is in
      let r = g.aside a filed in
      let parts : Parts = ((r.place, r.runs), r.ops) in
      let read = subst (λ (n : ℕ). (body a (length s.params) n).parse b.chunk.bytes.now ≡ Ok parts) (placed_there file features b e.code_start g.env_is.begins) r.read in
      let found = (body a (length s.params) b.chunk.place).found b.chunk.bytes.now parts small read in
      let fits = spelled_fits spelled a (length s.params) b.chunk.place b.chunk.bytes.now parts same small found.0 in
      let first : Grows s.mid later = on s.mid new.types later (tree_types_grow (tag_type_at e.tags.now) g.own g.tree s.mid (contents s.body.builder.builder) new.types g.given) grows in
      let wide : Widens r.sight (sight_in (env_of file later) b.number new.ids) =
      subst (λ (x : Sight). Widens x (sight_in (env_of file later) b.number new.ids)) (sym r.aside) (widens file s.mid later e g.env_is first b.number new.ids r.sight.handler_type) in
      let tags : r.sight.tag_type ≡ tag_type_at e.tags.now = ap (λ (x : Sight). x.tag_type) r.aside in
      let told : ℕ → Option Handler = told_by r.sight.tag_type g.own js in
      let stands = r.stands same (λ ty. refl) in
      let p : r.sight.params ≡ params_at s.mid = ap (λ (x : Sight). x.params) r.aside ∙ ap params_at g.env_is.types_are in
      let q : r.sight.results ≡ results_at s.mid = ap (λ (x : Sight). x.results) r.aside ∙ ap results_at g.env_is.types_are in
      let seen = each_seen back a.features r.sight g.own (normal same (body_tree parts)) fits stands g.tree in
      let each = λ (j : ℕ). seen_is r.sight s.mid p q (told j) ∙ sym (signatures_stay s.mid later first (told j) (seen_types r.sight s.mid p q (told j) (seen j))) in
      record {
        body = body_of parts;
        reads = (parts, found, refl);
        told = body_catches back a.features r.sight (sight_in (env_of file later) b.number new.ids) g.own wide g.tree told (tell r.sight.tag_type g.own g.tree) (normal same (body_tree parts)) fits stands None
            ∙ each_is (λ j. seen_signatures r.sight (told j)) (λ j. signatures later (told j)) each js
            ∙ mapped (signatures later) told js
            ∙ ap (λ (f : ℕ → Option ℕ). flat_map (signatures later) (tree_handlers f g.own g.tree)) tags;
      }

  pub steps_tell : (start end : ℕ) (bs : List FunctionBody) (old new : State) → ChunksFit start end (map (λ (b : FunctionBody). chunk_of b.chunk) bs) → Waits file features a count old bs → (steps : Steps file features bs old new)
      → Grows new.types later → TellTexts file features a later bs old new steps
  steps_tell start end [] old new fit w e grows = tt
  steps_tell start end (b ∷ bs) old new fit w (mid, step, rest) grows = (
    step_tells b bs old mid fit.0.0 w step (on mid.types new.types later (steps_grow on file features bs mid new rest) grows),
    steps_tell start end bs mid new fit.1 (step_on stay on enter file features a count b bs old mid w step) rest grows,
  )

-- ---- tables that differ in names alone

module _ (file : FileEnv) (features : WasmFeatures) (a : Around) (t u : Table) (types : map (option_map bare_type) t.types ≡ map (option_map bare_type) u.types) where
  same_pick : (ps rs : List ValType) → picked ps rs t ≡ picked ps rs u
  same_pick ps rs = ap (λ (o : Option ℕ). option_or (short_form ps rs) (option_map MultiValue o)) (same_found t u types ps rs)

  same_sight : (function : ℕ) (i : Ids) → sight_in (env_of file t) function i ≡ sight_in (env_of file u) function i
  same_sight function i = λ k.
      record (sight_in (env_of file u) function i) {
        params = λ id. same_caught t u types (Some id) k;
        results = λ id. same_results t u types (MultiValue id) k;
        block_type = λ ps rs. ap (if_own file.own_types) (same_pick ps rs) k;
        handler_type = λ ps rs. same_pick ps rs k;
      }

  text_named : (b : FunctionBody) (old new : State) (s : IsStep file features b old new) → TellsText file features a u b old new s → TellsText file features a t b old new s
  text_named b old new s h = record {
    body = h.body;
    reads = h.reads;
    told = ap (λ (x : Sight). catches x None (normal same (tree_of (map (λ (o : grammar.Placed). placed o.op (Some o.place)) h.body.operators)))) (same_sight b.number new.ids)
        ∙ h.told ∙ sym (all_signatures t u types (tree_handlers (tag_type_at s.handled.env.tags.now) s.handled.own s.handled.tree));
  }

  pub texts_named : (bs : List FunctionBody) (old new : State) (steps : Steps file features bs old new) → TellTexts file features a u bs old new steps → TellTexts file features a t bs old new steps
  texts_named [] old new steps h = tt
  texts_named (b ∷ bs) old new (mid, step, steps) h = (text_named b old mid step h.0, texts_named bs mid new steps h.1)
