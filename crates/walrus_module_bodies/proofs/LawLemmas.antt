-- Lemmas: bodies that were read are those of the file.
use Rattle.std.proofs.Common.{ℕ, ◌≡◌, ◌≢◌, ◌+◌, Bool, List, [], ◌∷◌, ◌++◌, length, refl, ap, sym, ◌∙◌, subst, if◌then◌else◌}
use Rattle.std.proofs.lemmas.Bool.{eq-eqb}
use Rattle.std.proofs.lemmas.List.Elements.{All-head, All-tail}
use Rattle.std.specs.Prelude.{All, Ok, Option, Some, ◌<◌}
use Rattle.wasm_features.specs.declared.WasmFeatures.{WasmFeatures}
use Rattle.wasm_reader.specs.Cursor.{rest}
use Rattle.walrus_arena.specs.Arena.{Arena, item_at}
use Rattle.walrus_arena.proofs.ArenaLemmas.{at-other}
use Rattle.walrus_body_trees.specs.Laws as trees
use Rattle.walrus_body_trees.specs.walrus_body_text.Visiting.{text_size}
use Rattle.walrus_forms.specs.declared.value.ValType.{ValType}
use Rattle.walrus_module_env.specs.walrus_body_parser.walrus_body_stack.walrus_instr.walrus_types.Table.{Table}
use Rattle.walrus_function_types.specs.Growth.{EntryTypesGrow, FoundTypesStay, TablesGrowOn}
use Rattle.walrus_function_types.proofs.GrowthLemmas.{grows_same}
use Rattle.walrus_module_env.proofs.walrus_handler_types.Growing.{params_grow}
use Rattle.walrus_module_env.specs.walrus_handler_types.walrus_tree.Text.{operators}
use Rattle.walrus_index_maps.specs.Maps.{Ids}
use Rattle.walrus_module_env.specs.walrus_body_parser.walrus_body_rules.wasm_body_grammar.Bodies.{Parts, body, body_of, declared}
use Rattle.walrus_module_env.specs.walrus_body_parser.walrus_body_rules.wasm_body_grammar.Codes.{Code}
use Rattle.walrus_module_env.specs.walrus_body_parser.walrus_body_rules.wasm_body_grammar.Laws.{ReadsBody}
use Rattle.walrus_module_env.specs.walrus_body_parser.walrus_body_rules.wasm_body_grammar.Rules.{Around}
use Rattle.walrus_module_env.specs.walrus_body_parser.walrus_body_rules.wasm_grammar.Modules.{Body}
use Rattle.walrus_module_env.specs.walrus_body_parser.walrus_body_stack.walrus_body_nesting.Stands.{total}
use Rattle.walrus_module_env.specs.walrus_body_parser.walrus_body_stack.walrus_builder.Built.{contents}
use Rattle.walrus_module_env.specs.walrus_body_parser.walrus_body_stack.walrus_builder.Functions.{seqs_of}
use Rattle.walrus_module_env.specs.declared.env.ModuleEnv.{ModuleEnv}
use Rattle.walrus_module_env.specs.Around.{IsFiled, sight_in}
use Rattle.walrus_module_env.specs.walrus_body_parser.Points.{place_at}
use Rattle.walrus_module_env.specs.walrus_collections.walrus_local_function.walrus_body_locals.Locals.{ids_from}
use Rattle.walrus_module_env.specs.walrus_collections.walrus_module_items.declared.function.Function.{Function}
use Rattle.walrus_module_env.specs.walrus_collections.walrus_module_items.declared.function.FunctionKind.TheVariants as kinds
use Rattle.walrus_module_env.specs.walrus_collections.walrus_module_items.Functions.{type_of}
use Rattle.walrus_module_env.specs.walrus_functions_into.declared.bodies.FunctionBody.{FunctionBody}
use Rattle.walrus_module_env.specs.wasm_run_names.Picks.{block_pick}
use Rattle.walrus_module_bodies.specs.declared.file.FileEnv.{FileEnv}
use Rattle.walrus_module_bodies.specs.Envs.{IsEnv}
use Rattle.walrus_module_bodies.specs.Laws.{AreCodesOf, AreRead, BodiesHoldTheirs, IsCodeOf, StepsReadCodes}
use Rattle.walrus_module_bodies.specs.Steps.{AreApart, IsModuleOf, IsReady, IsStep, State, Steps, cursor_of}
use Rattle.walrus_module_bodies.proofs.ArgumentLemmas.{many_ids}
use Rattle.walrus_module_bodies.proofs.BodyLemmas.{placed_there}
use Rattle.walrus_module_bodies.proofs.StepLemmas.{HasLocals, all_ready_on, names_on, others_keep, step_names}

some_is : {X : Type 0} (x y : X) → ◌≡◌ {A = Option X} (Some x) (Some y) → x ≡ y
some_is x y e = cc

abbrev env_of : FileEnv → Table → ModuleEnv
env_of file t = record { types = record { now = t; ref_ptr = file.tags.ref_ptr }; tags = file.tags; memories = file.memories; own_types = file.own_types; has_data_count = file.has_data_count; code_start = file.code_start }

env_is : (file : FileEnv) (t : Table) → IsEnv file t (env_of file t)
env_is file t = record { types_are = refl; tags_are = refl; memories_are = refl; own_are = refl; counted_is = refl; begins = refl }

begins_at : (file : FileEnv) (t : Table) → (env_of file t).code_start ≡ file.code_start
begins_at file t = refl

module _ (enter : EntryTypesGrow) (stay : FoundTypesStay) (on : TablesGrowOn) (file : FileEnv) (features : WasmFeatures) (a : Around) where
  step_filed : (b : FunctionBody) (old new : State) → IsModuleOf file features old.types old.ids a → IsReady old b → (s : IsStep file features b old new) → IsFiled (env_of file s.mid) s.numbered b.number (length s.params) features a
  step_filed b old new of ready s =
      subst (λ (n : ℕ). IsFiled (env_of file s.mid) s.numbered b.number n features a) many
      (subst (λ (k : Ids). IsFiled (env_of file s.mid) k b.number (length (s.numbered.locals b.number)) features a) (sym names)
      (of s.mid (env_of file s.mid) s.numbered.locals b.number (enter s.results s.entry old.types s.mid s.entered) (env_is file s.mid)))
    where
      names : s.numbered ≡ record old.ids { locals = s.numbered.locals }
      names = s.arguments.named ∙ ap (λ (l : ℕ → List ℕ). record old.ids { locals = l }) (sym (ap (λ (k : Ids). k.locals) s.arguments.named))

      many : length (s.numbered.locals b.number) ≡ length s.params
      many =
          ap (λ (k : Ids). length (k.locals b.number)) s.arguments.named
          ∙ ap (λ (c : Bool). length (if c then old.ids.locals b.number ++ ids_from (length old.locals) s.params else old.ids.locals b.number)) (eq-eqb b.number b.number refl)
          ∙ ap (λ (l : List ℕ). length (l ++ ids_from (length old.locals) s.params)) ready.no_locals ∙ many_ids s.params (length old.locals)

  step_reads : (b : FunctionBody) (c : Code) (old new : State) → IsModuleOf file features old.types old.ids a → IsReady old b → IsCodeOf old b c → IsStep file features b old new
      → (x : Body) × ReadsBody a c.params c.chunk.place c.chunk.bytes x × (length (new.ids.locals b.number) ≡ c.params + length x.locals)
  step_reads b c old new of ready code s =
      let it = s.read (env_of file s.mid) (env_of file new.types) new.types (env_is file s.mid) (grows_same new.types new.types refl) (env_is file new.types) a (step_filed b old new of ready s) in
      let r = it.0 in
      let parts : Parts = ((r.place, r.runs), r.ops) in
      let k = code.counted s.item s.was in
      let many : length s.params ≡ c.params = ap (λ (l : List ValType). length l) (some_is s.params k.0 (sym s.params_are ∙ k.1)) ∙ k.2 in
      let read = subst (λ (n : ℕ). (body a (length s.params) n).parse b.chunk.bytes.now ≡ Ok parts) (placed_there file features b (env_of file new.types).code_start (begins_at file new.types)) r.read in
      let own : ReadsBody a (length s.params) b.chunk.place b.chunk.bytes.now (body_of parts) = (parts, (body a (length s.params) b.chunk.place).found b.chunk.bytes.now parts code.small read, refl) in (
        body_of parts,
        subst (λ (l : List ℕ). ReadsBody a c.params c.chunk.place l (body_of parts)) (sym code.bytes_are)
            (subst (λ (n : ℕ). ReadsBody a c.params n b.chunk.bytes.now (body_of parts)) (sym code.place_is)
            (subst (λ (n : ℕ). ReadsBody a n b.chunk.place b.chunk.bytes.now (body_of parts)) many own)),
        it.1 ∙ ap (λ (n : ℕ). n + length (declared r.runs)) many,
      )

  step_holds : trees.BodiesHoldTheirs → (b : FunctionBody) (old new : State) → IsModuleOf file features old.types old.ids a → IsReady old b → All (λ (x : ℕ). x < 256) b.chunk.bytes.now → (s : IsStep file features b old new)
      → text_size (operators (seqs_of s.body.builder) 0) ≡ total (contents s.body.builder.builder)
  step_holds hold b old new of ready small s =
      let e = env_of file new.types in
      let from = cursor_of file features b in
      let it = s.read (env_of file s.mid) e new.types (env_is file s.mid) (grows_same new.types new.types refl) (env_is file new.types) a (step_filed b old new of ready s) in
      let r = it.0 in
      let parts : Parts = ((r.place, r.runs), r.ops) in
      let found = (body a (length s.params) (place_at e.code_start from)).found (rest from) parts small r.read in
      hold a (length s.params) (place_at e.code_start from) (rest from) parts (small, found.0, found.1) (sight_in e b.number new.ids) (block_pick a) (seqs_of s.body.builder) r.stands

  -- another function's code is it still
  code_on : (b d : FunctionBody) (c : Code) (old new : State) → IsStep file features b old new → d.number ≢ b.number → IsCodeOf old d c → IsCodeOf new d c
  code_on b d c old new s apart code = record {
    place_is = code.place_is;
    bytes_are = code.bytes_are;
    small = code.small;
    counted = λ item at.
        let was = sym (ap (λ (x : Arena Function). item_at x d.number) s.given ∙ at-other old.functions.slots (Some (record s.item { kind = kinds.Local s.body })) b.number d.number apart) ∙ at in
        let k = code.counted item was in
        (k.0, params_grow old.types new.types s.grown (type_of item.kind) k.0 k.1, k.2);
  }

  codes_on : (b : FunctionBody) (bs : List FunctionBody) (cs : List Code) (old new : State) → IsStep file features b old new → All (λ (d : FunctionBody). d.number ≢ b.number) bs → AreCodesOf old bs cs → AreCodesOf new bs cs
  codes_on b [] [] old new s apart h = tt
  codes_on b [] (c ∷ cs) old new s apart h = absurd h
  codes_on b (d ∷ bs) [] old new s apart h = absurd h
  codes_on b (d ∷ bs) (c ∷ cs) old new s apart h =
      let other : FunctionBody → Type 0 = λ d. d.number ≢ b.number in
      (code_on b d c old new s (All-head other d bs apart) h.0, codes_on b bs cs old new s (All-tail other d bs apart) h.1)

  of_on : (b : FunctionBody) (old new : State) → IsStep file features b old new → IsModuleOf file features old.types old.ids a → IsModuleOf file features new.types new.ids a
  of_on b old new s of v e locals function grows is =
      subst (λ (k : Ids). IsFiled e (record k { locals = locals }) function (length (locals function)) features a) (sym (step_names stay on file features b old new s))
      (of v e locals function (on old.types new.types v s.grown grows) is)

  -- a function names the same while others get their bodies
  kept : (bs : List FunctionBody) (old new : State) (n : ℕ) → All (λ (d : FunctionBody). d.number ≢ n) bs → Steps file features bs old new → new.ids.locals n ≡ old.ids.locals n
  kept [] old new n apart is = ap (λ (s : State). s.ids.locals n) is
  kept (d ∷ bs) old new n apart (mid, s, more) =
      let other : FunctionBody → Type 0 = λ d. d.number ≢ n in
      let here : n ≢ d.number = λ e. All-head other d bs apart (sym e) in
      kept bs mid new n (All-tail other d bs apart) more
      ∙ ap (λ (i : Ids). i.locals n) s.left.named ∙ others_keep d.number s.left.ids s.numbered.locals n here
      ∙ ap (λ (i : Ids). i.locals n) s.arguments.named ∙ others_keep d.number (ids_from (length old.locals) s.params) old.ids.locals n here

  pub all_read : (bs : List FunctionBody) (codes : List Code) (old new : State) → IsModuleOf file features old.types old.ids a → All (IsReady old) bs → AreApart bs → AreCodesOf old bs codes → Steps file features bs old new
      → AreRead a codes bs old.ids new.ids
  all_read [] [] old new of ready apart codes is = record { bodies = []; reads = tt; named = tt; names = subst (λ (s : State). HasLocals old.ids s.ids) (sym is) refl; others = λ n h. kept [] old new n h is }
  all_read [] (c ∷ cs) old new of ready apart codes is = absurd codes
  all_read (b ∷ bs) [] old new of ready apart codes is = absurd codes
  all_read (b ∷ bs) (c ∷ cs) old new of ready apart codes (mid, s, more) =
      let x = step_reads b c old mid of (All-head (IsReady old) b bs ready) codes.0 s in
      let rest = all_read bs cs mid new (of_on b old mid s of) (all_ready_on stay on file features b bs old mid s apart.0 (All-tail (IsReady old) b bs ready)) apart.1 (codes_on b bs cs old mid s apart.0 codes.1) more in
      record {
        bodies = x.0 ∷ rest.bodies;
        reads = (x.1, rest.reads);
        named = (ap (λ (l : List ℕ). length l) (kept bs mid new b.number apart.0 more) ∙ x.2, rest.named);
        names = names_on stay on file features old.ids mid.ids new.ids (step_names stay on file features b old mid s) rest.names;
        others = λ n h. kept (b ∷ bs) old new n h (mid, s, more);
      }

pub steps_read : EntryTypesGrow → FoundTypesStay → TablesGrowOn → StepsReadCodes
steps_read enter stay on file features a bs codes old new of ready apart are steps = all_read enter stay on file features a bs codes old new of ready apart are steps

pub bodies_hold : EntryTypesGrow → FoundTypesStay → TablesGrowOn → trees.BodiesHoldTheirs → BodiesHoldTheirs
bodies_hold enter stay on hold file features a b old new of ready small s = step_holds enter stay on file features a hold b old new of ready small s
