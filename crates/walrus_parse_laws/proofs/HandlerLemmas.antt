-- Lemmas: what the handlers of bodies take and give is what their file says, in its order.
use Rattle.std.proofs.Common.{◌≡◌, ◌∙◌, ◌⊎◌, inl, inr, ℕ, zero, suc, ◌<◌, List, [], ◌∷◌, ◌++◌, length, map, Ok, Option, Some, None, refl, sym, ap, subst, arith}
use Rattle.std.specs.Prelude.{slice_get, slice_index_or}
use Rattle.std.specs.List.{flat_map}
use Rattle.std.specs.Option.{option_map}
use Rattle.std.proofs.lemmas.List.{length-append, map-append}
use Rattle.std.proofs.lemmas.List.Concat.{flat_map-append}
use Rattle.walrus_arena.specs.Arena.{Arena, item_at}
use Rattle.walrus_named_bodies.proofs.walrus_file_bodies.PairLemmas.{are_apart, chunks_fit}
use Rattle.walrus_named_bodies.proofs.walrus_file_bodies.StopLemmas.{bodies_wait, chunks_fit_in, count_in}
use Rattle.walrus_named_bodies.specs.walrus_file_bodies.Laws.{BodiesReadFiles}
use Rattle.walrus_named_bodies.specs.walrus_file_bodies.Read.{HasLocals, Waits, coded_by, grows_none, names_on, step_filed, step_names, step_on, steps_grow}
use Rattle.walrus_named_bodies.specs.walrus_file_bodies.Ready.{bodies_in}
use Rattle.walrus_named_bodies.specs.walrus_file_bodies.walrus_items_into.Laws.{FilledFunctionsStand, FilledModulesAreFiled}
use Rattle.walrus_named_bodies.specs.walrus_file_bodies.walrus_items_into.walrus_functions_into.Laws.{read_bodies}
use Rattle.walrus_named_bodies.specs.walrus_file_bodies.walrus_items_into.walrus_functions_into.declared.bodies.FunctionBody.{FunctionBody}
use Rattle.walrus_named_bodies.specs.walrus_file_bodies.walrus_items_into.walrus_module_env.Env.{own_pick, tag_type_at}
use Rattle.walrus_named_bodies.specs.walrus_file_bodies.walrus_items_into.walrus_module_env.Filled.{AreFiled}
use Rattle.walrus_named_bodies.specs.walrus_file_bodies.walrus_items_into.walrus_tables_into.walrus_sections_into.Becomes.{look_of}
use Rattle.walrus_named_bodies.specs.walrus_file_bodies.walrus_items_into.walrus_tables_into.walrus_sections_into.Numbers.{upto}
use Rattle.walrus_named_bodies.specs.walrus_file_bodies.walrus_items_into.walrus_tables_into.walrus_sections_into.Slots.{Become, Filled}
use Rattle.walrus_named_bodies.specs.walrus_file_bodies.walrus_items_into.walrus_tables_into.walrus_sections_into.Tags.{IsTagOf}
use Rattle.walrus_named_bodies.specs.walrus_file_bodies.walrus_items_into.walrus_tables_into.walrus_sections_into.walrus_known_sections.Items.{chunk_of, tag_of}
use Rattle.walrus_named_bodies.specs.walrus_file_bodies.walrus_items_into.walrus_tables_into.walrus_sections_into.walrus_known_sections.State.{state_of}
use Rattle.walrus_named_bodies.specs.walrus_file_bodies.walrus_items_into.walrus_tables_into.walrus_sections_into.walrus_known_sections.declared.items.Tag.{Tag as ReadTag}
use Rattle.walrus_named_bodies.specs.walrus_file_bodies.walrus_items_into.wasm_module_rules.wasm_modules.Modules.{around}
use Rattle.walrus_named_bodies.specs.walrus_file_bodies.walrus_items_into.wasm_sections.Within.{ChunksFit, bodies_inside}
use Rattle.walrus_named_bodies.specs.walrus_file_bodies.walrus_module_bodies.Steps.{IsStep, State, Steps, state}
use Rattle.walrus_named_bodies.specs.walrus_file_bodies.walrus_module_bodies.declared.file.FileEnv.{FileEnv}
use Rattle.walrus_forms.specs.Renaming.{at}
use Rattle.walrus_function_types.specs.FunctionTypes.{params_at, results_at}
use Rattle.walrus_function_types.specs.Growth.{EntryTypesGrow, FoundTypesStay, Grows, TablesGrowOn}
use Rattle.walrus_named_bodies.specs.walrus_file_bodies.walrus_items_into.walrus_module_env.walrus_handler_types.walrus_handler_laws.Handlers.{TreesTell, told_by, tree_ids}
use Rattle.walrus_named_bodies.specs.walrus_file_bodies.walrus_items_into.walrus_module_env.walrus_handler_types.walrus_handler_laws.Retyping.{Widens}
use Rattle.walrus_named_bodies.specs.walrus_file_bodies.walrus_items_into.walrus_module_env.walrus_handler_types.walrus_handler_laws.declared.handler.Handler.{Handler}
use Rattle.walrus_named_bodies.specs.walrus_file_bodies.walrus_items_into.walrus_module_env.walrus_handler_types.walrus_handler_laws.walrus_body_steps.walrus_body_nesting.Opens.{same}
use Rattle.walrus_named_bodies.specs.walrus_file_bodies.walrus_items_into.walrus_module_env.walrus_handler_types.walrus_handler_laws.walrus_body_steps.walrus_body_nesting.wasm_formats.Formats.{Small}
use Rattle.walrus_named_bodies.specs.walrus_file_bodies.walrus_items_into.walrus_module_env.walrus_handler_types.walrus_handler_laws.walrus_body_steps.walrus_body_rules.Sights.{Sight}
use Rattle.walrus_named_bodies.specs.walrus_file_bodies.walrus_items_into.walrus_module_env.walrus_handler_types.walrus_handler_laws.walrus_body_steps.wasm_body_grammar.Bodies.{Parts, body, body_of}
use Rattle.walrus_named_bodies.specs.walrus_file_bodies.walrus_items_into.walrus_module_env.walrus_handler_types.walrus_handler_laws.walrus_body_steps.wasm_body_grammar.Codes.{Code, ReadsCodes}
use Rattle.walrus_named_bodies.specs.walrus_file_bodies.walrus_items_into.walrus_module_env.walrus_handler_types.walrus_handler_laws.walrus_body_steps.wasm_body_grammar.Laws.{BodiesReadOnce, ReadsBody}
use Rattle.walrus_named_bodies.specs.walrus_file_bodies.walrus_items_into.walrus_module_env.walrus_handler_types.walrus_handler_laws.walrus_body_steps.wasm_body_grammar.Rules.{Around}
use Rattle.walrus_named_bodies.specs.walrus_file_bodies.walrus_items_into.walrus_module_env.walrus_handler_types.walrus_handler_laws.walrus_body_steps.wasm_grammar.Modules as grammar
use Rattle.walrus_named_bodies.specs.walrus_file_bodies.walrus_items_into.walrus_module_env.walrus_handler_types.walrus_handler_laws.walrus_body_steps.wasm_grammar.States.{types_of}
use Rattle.walrus_named_bodies.specs.walrus_file_bodies.walrus_items_into.walrus_module_env.walrus_handler_types.walrus_handler_laws.walrus_body_steps.wasm_normal_form.Normal.{normal}
use Rattle.walrus_named_bodies.proofs.walrus_handler_types.Growing.{tree_types_grow}
use Rattle.walrus_named_bodies.specs.walrus_file_bodies.walrus_items_into.walrus_module_env.walrus_handler_types.Giving.{tree_handlers}
use Rattle.walrus_body_laws.specs.walrus_pairing.Laws.{OperatorComesBack}
use Rattle.walrus_body_laws.specs.walrus_pairing.walrus_index_maps.Maps.{Ids}
use Rattle.walrus_body_laws.specs.walrus_pairing.wasm_operators.wasm_features.declared.WasmFeatures.{WasmFeatures}
use Rattle.walrus_named_bodies.specs.Parsed.{read_features}
use Rattle.walrus_named_bodies.specs.walrus_item_names.Holder.{Holder}
use Rattle.walrus_named_bodies.specs.walrus_item_names.Names.{bare_type}
use Rattle.walrus_named_bodies.specs.walrus_item_names.walrus_module.walrus_builder.Built.{contents, seq_of}
use Rattle.walrus_named_bodies.specs.walrus_item_names.walrus_module.walrus_module_items.declared.tag.Tag.{Tag}
use Rattle.walrus_named_bodies.specs.walrus_item_names.walrus_module.walrus_types.Table.{Table}
use Rattle.walrus_parse_laws.specs.Added.{Signature}
use Rattle.walrus_parse_laws.specs.Catches.{catches}
use Rattle.walrus_parse_laws.specs.Files.{ReadModulesHaveHandlers, bodies_handle, body_handles, sent}
use Rattle.walrus_parse_laws.specs.Groups.{handlers_in, handlers_of}
use Rattle.walrus_parse_laws.specs.Handlers.{signatures}
use Rattle.walrus_parse_laws.proofs.CatchLemmas.{body_catches, seen_signatures}
use Rattle.walrus_parse_laws.proofs.GroupsFileLemmas.{all_signatures}
use Rattle.walrus_body_laws.proofs.walrus_body_trees.Bodies.{AreSpelled}
use Rattle.walrus_body_laws.proofs.Fitting.{spelled_fits}
use Rattle.walrus_parse_laws.proofs.FitLemmas.{body_tree}
use Rattle.walrus_parse_laws.proofs.GivenLemmas.{signatures_stay}
use Rattle.walrus_parse_laws.proofs.GroupsNamedLemmas.{SeesFile, body_sent, some_is}
use Rattle.walrus_parse_laws.proofs.GroupsStepLemmas.{seen_types}
use Rattle.walrus_parse_laws.proofs.GroupsTextLemmas.{each_is, mapped, placed_there, seen_is}
use Rattle.walrus_parse_laws.proofs.ToldLemmas.{each_seen}

-- ---- tags

upto_length : (n : ℕ) → length (upto n) ≡ n
upto_length zero = refl
upto_length (suc n) = let k = upto_length n in omega (arith, k, length-append (upto n) (n ∷ []))

last_at : (xs : List ℕ) (c n id : ℕ) → slice_get (xs ++ c ∷ []) n ≡ Some id → (slice_get xs n ≡ Some id) ⊎ ((n ≡ length xs) × (c ≡ id))
last_at [] c zero id e = inr (refl, some_is c id e)
last_at [] c (suc n) id e = absurd cc
last_at (x ∷ xs) c zero id e = inl e
last_at (x ∷ xs) c (suc n) id e = elim (last_at xs c n id e) as (λ _. (slice_get (x ∷ xs) (suc n) ≡ Some id) ⊎ ((suc n ≡ length (x ∷ xs)) × (c ≡ id))) [ inl h ↦ inl h | inr h ↦ inr (ap suc h.0, h.1) ]

upto_at : (count n id : ℕ) → slice_get (upto count) n ≡ Some id → (id ≡ n) × (n < count)
upto_at zero n id e = absurd cc
upto_at (suc count) n id e = go (last_at (upto count) count n id e) (upto_at count n id)
  where
    go : (slice_get (upto count) n ≡ Some id) ⊎ ((n ≡ length (upto count)) × (count ≡ id)) → (slice_get (upto count) n ≡ Some id → (id ≡ n) × (n < count)) → (id ≡ n) × (n < suc count)
    go (inl h) on = let r = on h in (r.0, (let lt = r.1 in omega (arith, lt)))
    go (inr h) on = let m = h.0 in let c = h.1 in let l = upto_length count in (omega (arith, m, c, l), omega (arith, m, l))

become_at : {X Y Z : Type 0} (R : ℕ → X → Y → Type 0) (v : X → Z) (xs : List X) (ys : List (Option Y)) (n first : ℕ) → Become R xs ys first → n < length xs
    → (x : X) × (y : Y) × (slice_index_or (map (λ z. Some (v z)) xs) n None ≡ Some (v x)) × (slice_index_or ys n None ≡ Some y) × (slot : ℕ) × R slot x y
become_at R v [] ys n first h lt = absurd (omega (arith, lt))
become_at R v (x ∷ xs) [] n first h lt = absurd h
become_at R v (x ∷ xs) (None ∷ ys) n first h lt = absurd h
become_at R v (x ∷ xs) (Some y ∷ ys) zero first h lt = (x, y, refl, refl, first, h.0)
become_at R v (x ∷ xs) (Some y ∷ ys) (suc n) first h lt = become_at R v xs ys n (suc first) h.1 (omega (arith, lt))

-- each index of a tag names a tag of the file's type
abbrev TagsNamed : grammar.Module → Ids → Arena Tag → Type 0
TagsNamed file i tags = (n tag : ℕ) → slice_get i.tags n ≡ Some tag
    → (x : grammar.Tag) × (slice_index_or file.tags n None ≡ Some x) × (id : ℕ) × (tag_type_at tags tag ≡ Some id) × (slice_get i.types x.ty ≡ Some id)

tags_named : (file : grammar.Module) (i : Ids) (reads : List ReadTag) (tags : Arena Tag) → i.tags ≡ upto (length reads) → file.tags ≡ map (λ x. Some (tag_of x)) reads → Filled (IsTagOf (look_of i)) reads [] tags.slots → TagsNamed file i tags
tags_named file i reads tags numbered there filled n tag e =
    let at_n = upto_at (length reads) n tag (ap (λ (l : List ℕ). slice_get l n) (sym numbered) ∙ e) in
    let b = become_at (IsTagOf (look_of i)) tag_of reads filled.more n 0 filled.become at_n.1 in
    let slot : item_at tags tag ≡ Some b.1 = ap (λ (k : ℕ). slice_index_or tags.slots k None) at_n.0 ∙ ap (λ (l : List (Option Tag)). slice_index_or l n None) filled.behind ∙ b.3 in (
      tag_of b.0,
      ap (λ (l : List (Option grammar.Tag)). slice_index_or l n None) there ∙ b.2,
      b.1.ty,
      ap (option_map (λ (t : Tag). t.ty)) slot,
      b.5.ty,
    )

-- ---- steps

module _ (back : OperatorComesBack) (spelled : AreSpelled) (tell : TreesTell) (once : BodiesReadOnce) (stay : FoundTypesStay) (on : TablesGrowOn) (enter : EntryTypesGrow) (file : FileEnv) (features : WasmFeatures) (a : Around)
    (count : ℕ → ℕ) (i0 : Ids) (named : TagsNamed a.filled i0 file.tags.now) (later : Table) where
  step_same : (b : FunctionBody) (bs : List FunctionBody) (old new : State) → Small b.chunk.bytes.now → Waits file features a count old (b ∷ bs) → (s : IsStep file features b old new) → Grows new.types later → HasLocals i0 new.ids
      → s.numbered.types ≡ i0.types → (x : grammar.Body) → ReadsBody a (count b.number) b.chunk.place b.chunk.bytes.now x
      → flat_map (signatures later) (tree_handlers (tag_type_at s.handled.env.tags.now) s.handled.own s.handled.tree) ≡ map (sent (at i0.types)) (body_handles (types_of a.filled) a.filled.tags x)
  step_same b bs old new small w s grows ids mid x reads =
      let g = s.handled in
      let e = g.env in
      let js = tree_ids g.tree in
      let filed = step_filed stay on enter file features a count b bs old new w s e g.env_is in
      let r = g.aside a filed in
      let parts : Parts = ((r.place, r.runs), r.ops) in
      let read = subst (λ (n : ℕ). (body a (length s.params) n).parse b.chunk.bytes.now ≡ Ok parts) (placed_there file features b e.code_start g.env_is.begins) r.read in
      let found = (body a (length s.params) b.chunk.place).found b.chunk.bytes.now parts small read in
      let fits = spelled_fits spelled a (length s.params) b.chunk.place b.chunk.bytes.now parts same small found.0 in
      let first : Grows s.mid later = on s.mid new.types later (tree_types_grow (tag_type_at e.tags.now) g.own g.tree s.mid (contents s.body.builder.builder) new.types g.given) grows in
      let tags : r.sight.tag_type ≡ tag_type_at e.tags.now = ap (λ (z : Sight). z.tag_type) r.aside in
      let told : ℕ → Option Handler = told_by r.sight.tag_type g.own js in
      let stands = r.stands same (λ ty. refl) in
      let p : r.sight.params ≡ params_at s.mid = ap (λ (z : Sight). z.params) r.aside ∙ ap params_at g.env_is.types_are in
      let q : r.sight.results ≡ results_at s.mid = ap (λ (z : Sight). z.results) r.aside ∙ ap results_at g.env_is.types_are in
      let seen = each_seen back a.features r.sight g.own (normal same (body_tree parts)) fits stands g.tree in
      let each = λ (j : ℕ). seen_is r.sight s.mid p q (told j) ∙ sym (signatures_stay s.mid later first (told j) (seen_types r.sight s.mid p q (told j) (seen j))) in
      let own_tells = tell r.sight.tag_type g.own g.tree in
      let wide : Widens r.sight r.sight = record { ids = refl; function = refl; params = λ id tys there. there; results = λ id tys there. there; blocks = λ ps rs ty there. there; tags = λ tag ty there. there } in
      let in_order : catches r.sight None (normal same (body_tree parts)) ≡ flat_map (λ j. signatures later (told j)) js =
      body_catches back a.features r.sight r.sight g.own wide g.tree told own_tells (normal same (body_tree parts)) fits stands None
      ∙ each_is (λ j. seen_signatures r.sight (told j)) (λ j. signatures later (told j)) each js in
      let seen_ids : r.sight.ids ≡ new.ids = ap (λ (z : Sight). z.ids) r.aside in
      let sees : SeesFile (types_of a.filled) a.filled.tags i0.types s.mid e.own_types r.sight = record {
        filed = subst (λ (u : Table). AreFiled (types_of a.filled) i0.types e.own_types u) g.env_is.types_are (subst (λ (l : List ℕ). AreFiled (types_of a.filled) l e.own_types e.types.now) mid filed.types_are);
        named = (let is = seen_ids ∙ ids in λ k n. slice_get (is k).types n);
        params = p;
        results = q;
        blocks = ap (λ (z : Sight). z.block_type) r.aside ∙ ap (own_pick e.own_types) g.env_is.types_are;
        tags_are = λ n tag there.
            let z = named n tag (ap (λ (l : List ℕ). slice_get l n) (sym (ap (λ (y : Ids). y.tags) (seen_ids ∙ ids))) ∙ there) in
            record { read = z.0; there = z.1; id = z.2; typed = ap (λ (f : ℕ → Option ℕ). f tag) tags ∙ ap (λ (y : Arena Tag). tag_type_at y tag) g.env_is.tags_are ∙ z.3; named = z.4 };
      } in
      let counted = w.counted b.number s.item s.was in
      let params : s.params ≡ counted.0 = some_is s.params counted.0 (sym s.params_are ∙ counted.1) in
      let many : length s.params ≡ count b.number = ap length params ∙ counted.2 in
      let is : body_of parts ≡ x = once a (length s.params) b.chunk.place b.chunk.bytes.now (body_of parts) x (parts, found, refl) (subst (λ (n : ℕ). ReadsBody a n b.chunk.place b.chunk.bytes.now x) (sym many) reads) in
      let in_words : flat_map (λ j. signatures later (told j)) js ≡ map (sent (at i0.types)) (body_handles (types_of a.filled) a.filled.tags x) =
      sym in_order ∙ body_sent (types_of a.filled) a.filled.tags i0.types s.mid e.own_types r.sight sees (map seq_of g.own) (normal same (body_tree parts)) stands
      ∙ ap (λ (y : grammar.Body). map (sent (at i0.types)) (body_handles (types_of a.filled) a.filled.tags y)) is in
      ap (λ (f : ℕ → Option ℕ). flat_map (signatures later) (tree_handlers f g.own g.tree)) (sym tags) ∙ sym (mapped (signatures later) told js) ∙ in_words

  pub steps_same : (start end : ℕ) (bs : List FunctionBody) (xs : List grammar.Body) (old new : State) → ChunksFit start end (map (λ (b : FunctionBody). chunk_of b.chunk) bs) → Waits file features a count old bs
      → ReadsCodes a (map (coded_by count) bs) xs → (steps : Steps file features bs old new) → Grows new.types later → HasLocals i0 old.ids
      → flat_map (signatures later) (handlers_in file features bs old new steps) ≡ map (sent (at i0.types)) (bodies_handle a.filled xs)
  steps_same start end [] [] old new fit w reads steps grows has = refl
  steps_same start end [] (x ∷ xs) old new fit w reads steps grows has = absurd reads
  steps_same start end (b ∷ bs) [] old new fit w reads steps grows has = absurd reads
  steps_same start end (b ∷ bs) (x ∷ xs) old new fit w reads (mid, step, rest) grows has =
      let g = step.handled in
      let hs : List (Option Handler) = tree_handlers (tag_type_at g.env.tags.now) g.own g.tree in
      let others = handlers_in file features bs mid new rest in
      let own : List Signature = body_handles (types_of a.filled) a.filled.tags x in
      let more : List Signature = bodies_handle a.filled xs in
      let has_mid : HasLocals i0 mid.ids = names_on i0 old.ids mid.ids has (step_names stay on enter file features a count b old mid step) in
      let types : step.numbered.types ≡ i0.types = ap (λ (z : Ids). z.types) step.arguments.named ∙ ap (λ (z : Ids). z.types) has in
      let first = step_same b bs old mid fit.0.0 w step (on mid.types new.types later (steps_grow on file features bs mid new rest) grows) has_mid types x reads.0 in
      let later_ones = steps_same start end bs xs mid new fit.1 (step_on stay on enter file features a count b bs old mid w step) reads.1 rest grows has_mid in
      flat_map-append (signatures later) hs others
      ∙ ap (λ (l : List Signature). l ++ flat_map (signatures later) others) first
      ∙ ap (λ (l : List Signature). map (sent (at i0.types)) own ++ l) later_ones
      ∙ sym (map-append (sent (at i0.types)) own more)

-- ---- the whole

pub have_handlers : {B : Type 0} → OperatorComesBack → AreSpelled → TreesTell → BodiesReadOnce → FilledFunctionsStand B → FilledModulesAreFiled B → BodiesReadFiles B → EntryTypesGrow → FoundTypesStay → TablesGrowOn → ReadModulesHaveHandlers B
have_handlers {B} back spelled tell once stands filed bodies enter stay on config bytes m found small is =
    let h = is.1 in
    let s = h.sections in
    let features = read_features config in
    let a : Around = around features (state_of s) in
    let bs : List FunctionBody = bodies_in s h.filled.functions in
    let old : State = state h.filled.types [] h.numbers h.filled.functions in
    let hs : List (Option Handler) = handlers_of config bytes m found is in
    let final : Table = h.bodied.types in
    let read = bodies features bytes s m.start h.numbers h.filled h.file [] h.bodied h.reads.short small h.reads.sections h.are_filled h.is_file h.bodies_are in
    let types : h.numbers.types ≡ found.types = sym (ap (λ (j : Ids). j.types) (h.found_are ∙ read.3)) in
    let stand = stands features bytes s m.start h.numbers h.filled h.reads.sections h.are_filled in
    let fit = chunks_fit_in s.code_start (length bytes) bs (read_bodies s.bodies) stand.paired.chunks_are (chunks_fit s.code_start (length bytes) s.bodies (bodies_inside features bytes (state_of s) small h.reads.sections)) in
    let waits = bodies_wait features bytes s m.start h.numbers h.filled h.file filed h.reads.sections h.are_filled h.is_file bs [] (are_apart h.filled.functions.slots 0 (read_bodies s.bodies)) in
    let reads = subst (λ (cs : List Code). ReadsCodes a cs h.bodies) (sym stand.paired.codes_are) h.reads.codes_are in
    let named : TagsNamed a.filled h.numbers h.file.tags.now =
    subst (TagsNamed a.filled h.numbers) (sym h.is_file.tags_are) (tags_named a.filled h.numbers s.tags.items h.filled.tags (ap (λ (j : Ids). j.tags) h.are_filled.numbers) refl h.are_filled.tags) in
    let ended = steps_same back spelled tell once stay on enter h.file features a (count_in s) h.numbers named final s.code_start (length bytes) bs h.bodies old h.bodied fit waits reads h.bodies_are (grows_none final) refl in
    let bare : map (option_map bare_type) m.types.types ≡ map (option_map bare_type) final.types = ap (λ (x : Holder). x.types.types) h.names.same in
    all_signatures m.types final bare hs ∙ ended ∙ ap (λ (l : List ℕ). map (sent (at l)) (bodies_handle a.filled h.bodies)) types
