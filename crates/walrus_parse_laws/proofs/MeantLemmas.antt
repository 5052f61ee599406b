-- Lemmas: bodies that were read mean the normal forms of the file's.
use Rattle.std.specs.Prelude.{ℕ, ◌≡◌, ◌≢◌, List, [], ◌∷◌, All, length, map, Option, Some, None, slice_get, slice_index_or, slice_set, refl}
use Rattle.std.specs.List.{AllZip}
use Rattle.std.specs.Option.{unwrap_or}
use Rattle.std.proofs.Common.{ap, sym, ◌∙◌, subst, inl, inr}
use Rattle.std.proofs.lemmas.List.Elements.{All-head, All-tail}
use Rattle.walrus_named_bodies.specs.walrus_file_bodies.walrus_body_trees.walrus_body_nesting.wasm_body_grammar.Bodies.{Parts, body, body_of}
use Rattle.walrus_named_bodies.specs.walrus_file_bodies.walrus_body_trees.walrus_body_nesting.wasm_body_grammar.Codes.{ReadsCodes}
use Rattle.walrus_named_bodies.specs.walrus_file_bodies.walrus_body_trees.walrus_body_nesting.wasm_body_grammar.Laws.{BodiesReadOnce, ReadsBody}
use Rattle.walrus_named_bodies.specs.walrus_file_bodies.walrus_body_trees.walrus_body_nesting.wasm_body_grammar.Rules.{Around}
use Rattle.walrus_named_bodies.specs.walrus_file_bodies.walrus_body_trees.walrus_body_nesting.wasm_body_grammar.wasm_formats.wasm_features.declared.WasmFeatures.{WasmFeatures}
use Rattle.walrus_named_bodies.specs.walrus_file_bodies.walrus_body_trees.walrus_body_nesting.wasm_body_grammar.wasm_formats.Formats.{Small}
use Rattle.walrus_named_bodies.specs.walrus_file_bodies.walrus_body_trees.walrus_body_nesting.wasm_body_grammar.wasm_grammar.Modules as grammar
use Rattle.walrus_named_bodies.specs.walrus_file_bodies.walrus_body_trees.walrus_pairing.wasm_operators.Items.{Space, Types, Functions, Tables, Memories, Tags, Globals, ElementSegments, DataSegments, Locals, Labels}
use Rattle.walrus_named_bodies.specs.walrus_file_bodies.walrus_items_into.walrus_module_bodies.walrus_body_trees.walrus_meaning.walrus_local_function.walrus_body_locals.wasm_normal_form.Normal.{normal_ops}
use Rattle.walrus_named_bodies.specs.walrus_file_bodies.walrus_items_into.walrus_module_bodies.walrus_body_trees.walrus_meaning.walrus_local_function.walrus_body_locals.wasm_normal_form.Trees.{tree_of}
use Rattle.walrus_named_bodies.specs.walrus_file_bodies.walrus_items_into.walrus_module_env.wasm_run_names.Picks.{block_pick}
use Rattle.walrus_named_bodies.specs.walrus_file_bodies.walrus_items_into.wasm_sections.Within.{ChunksFit}
use Rattle.walrus_arena.specs.Arena.{Arena}
use Rattle.walrus_named_bodies.specs.walrus_file_bodies.walrus_items_into.walrus_module_bodies.walrus_body_trees.walrus_meaning.walrus_local_function.walrus_body_locals.Locals.{ids_from, with_more}
use Rattle.walrus_named_bodies.specs.walrus_file_bodies.walrus_body_trees.Laws.{AreOwn, BodiesMeanTheirs, IsNaming, meant, ops_of, renamed}
use Rattle.walrus_named_bodies.specs.walrus_file_bodies.Read.{Waits, coded_by, env_is, env_of, others_keep, read_body_reads, step_is_read, step_on, steps_grow}
use Rattle.walrus_function_types.specs.Growth.{EntryTypesGrow, FoundTypesStay, Grows, TablesGrowOn}
use Rattle.walrus_named_bodies.specs.walrus_file_bodies.walrus_items_into.walrus_functions_into.declared.bodies.FunctionBody.{FunctionBody}
use Rattle.walrus_named_bodies.specs.walrus_file_bodies.walrus_body_trees.walrus_pairing.walrus_index_maps.Maps.{Ids}
use Rattle.walrus_named_bodies.specs.walrus_file_bodies.walrus_items_into.walrus_tables_into.walrus_sections_into.walrus_known_sections.Items.{chunk_of}
use Rattle.walrus_named_bodies.specs.walrus_file_bodies.walrus_items_into.walrus_module_bodies.walrus_body_trees.walrus_meaning.walrus_local_function.declared.local_function.LocalFunction.{LocalFunction}
use Rattle.walrus_named_bodies.specs.walrus_file_bodies.walrus_items_into.walrus_module_bodies.walrus_body_trees.walrus_meaning.Bodies.{own_operators}
use Rattle.walrus_named_bodies.specs.walrus_file_bodies.walrus_module_bodies.Steps.{IsStep, State, Steps}
use Rattle.walrus_named_bodies.specs.walrus_file_bodies.walrus_module_bodies.declared.file.FileEnv.{FileEnv}
use Rattle.walrus_named_bodies.specs.walrus_file_bodies.walrus_items_into.walrus_module_env.Around.{sight_in}
use Rattle.walrus_named_bodies.specs.walrus_file_bodies.walrus_items_into.walrus_module_env.Parsed.{BlocksAreNamed, PicksAreSeen}
use Rattle.walrus_named_bodies.specs.walrus_file_bodies.walrus_items_into.walrus_module_bodies.walrus_body_trees.walrus_meaning.walrus_linked.walrus_module_items.declared.function.Function.{Function}
use Rattle.walrus_named_bodies.specs.walrus_file_bodies.walrus_items_into.walrus_module_bodies.walrus_body_trees.walrus_meaning.walrus_linked.walrus_module_items.declared.function.FunctionKind.TheVariants as kinds
use Rattle.walrus_named_bodies.specs.walrus_file_bodies.walrus_body_trees.walrus_pairing.Looks.{id_of}
use Rattle.walrus_parse_laws.proofs.PickLemmas.{stands_as_written}
use Rattle.walrus_parse_laws.proofs.BodiesSlotLemmas.{NoneOf, set_cases}
use Rattle.walrus_parse_laws.specs.BodiesTexts.{naming, text_of}
use Rattle.walrus_parse_laws.proofs.NamingLemmas.{block_own}
use Rattle.walrus_parse_laws.proofs.ListLemmas.{some_is}

pub none_of : (n : ℕ) (bs : List FunctionBody) → All (λ (b : FunctionBody). b.number ≢ n) bs → NoneOf n bs
none_of n [] h = tt
none_of n (b ∷ bs) h =
    let other : FunctionBody → Type 0 = λ d. d.number ≢ n in
    (All-head other b bs h, none_of n bs (All-tail other b bs h))

-- ---- what stays of a function while others get their bodies

pub record Kept (n : ℕ) (old new : State) : Type 0 where
  pub slot : slice_index_or new.functions.slots n None ≡ slice_index_or old.functions.slots n None
  pub names : (space : Space) (k : ℕ) → id_of new.ids n space k ≡ id_of old.ids n space k

-- two maps that name the same for the function
same_names : (n : ℕ) (old new : Ids) → new ≡ record old { locals = new.locals } → new.locals n ≡ old.locals n → (space : Space) (k : ℕ) → id_of new n space k ≡ id_of old n space k
same_names n old new e locals Types k = ap (λ (i : Ids). id_of i n Types k) e
same_names n old new e locals Functions k = ap (λ (i : Ids). id_of i n Functions k) e
same_names n old new e locals Tables k = ap (λ (i : Ids). id_of i n Tables k) e
same_names n old new e locals Memories k = ap (λ (i : Ids). id_of i n Memories k) e
same_names n old new e locals Tags k = ap (λ (i : Ids). id_of i n Tags k) e
same_names n old new e locals Globals k = ap (λ (i : Ids). id_of i n Globals k) e
same_names n old new e locals ElementSegments k = ap (λ (i : Ids). id_of i n ElementSegments k) e
same_names n old new e locals DataSegments k = ap (λ (i : Ids). id_of i n DataSegments k) e
same_names n old new e locals Locals k = ap (λ (l : List ℕ). slice_get l k) locals
same_names n old new e locals Labels k = refl

more_names : (n function : ℕ) (ids : List ℕ) (old new : Ids) → n ≢ function → new ≡ record old { locals = with_more function ids old.locals } → (space : Space) (k : ℕ) → id_of new n space k ≡ id_of old n space k
more_names n function ids old new apart e =
    same_names n old new (e ∙ ap (λ (l : ℕ → List ℕ). record old { locals = l }) (sym (ap (λ (i : Ids). i.locals) e)))
    (ap (λ (i : Ids). i.locals n) e ∙ others_keep function ids old.locals n apart)

module _ (file : FileEnv) (features : WasmFeatures) where
  other_slot : (slots : List (Option Function)) (k n : ℕ) (x y : Function) → slice_index_or slots k None ≡ Some x → k ≢ n → slice_index_or (slice_set slots k (Some y)) n None ≡ slice_index_or slots n None
  other_slot slots k n x y at apart = elim (set_cases slots k n x y at) [
    | inl h ↦ absurd (apart (sym h.0))
    | inr h ↦ h.1
  ]

  own_slot : (slots : List (Option Function)) (k : ℕ) (x y : Function) → slice_index_or slots k None ≡ Some x → slice_index_or (slice_set slots k (Some y)) k None ≡ Some y
  own_slot slots k x y at = elim (set_cases slots k k x y at) [
    | inl h ↦ h.1
    | inr h ↦ absurd (h.0 refl)
  ]

  pub kept : (n : ℕ) (bs : List FunctionBody) (old new : State) → NoneOf n bs → Steps file features bs old new → Kept n old new
  kept n [] old new none e = record { slot = ap (λ (s : State). slice_index_or s.functions.slots n None) e; names = λ space k. ap (λ (s : State). id_of s.ids n space k) e }
  kept n (b ∷ bs) old new none (mid, s, more) =
      let later = kept n bs mid new none.1 more in
      let y = record s.item { kind = kinds.Local s.body } in
      let given = ap (λ (x : Arena Function). slice_index_or x.slots n None) s.given in
      let apart : n ≢ b.number = λ e. none.0 (sym e) in record {
        slot = later.slot ∙ given ∙ other_slot old.functions.slots b.number n s.item y s.was none.0;
        names = λ space k. later.names space k ∙ more_names n b.number s.left.ids s.numbered mid.ids apart s.left.named space k
            ∙ more_names n b.number (ids_from (length old.locals) s.params) old.ids s.numbered apart s.arguments.named space k;
      }

-- ---- bodies

-- the function of a body, once all are read
pub record MeansIn (final : State) (a : Around) (b : FunctionBody) (x : grammar.Body) : Type 0 where
  pub function : Function
  pub there : slice_index_or final.functions.slots b.number None ≡ Some function
  pub local : LocalFunction
  pub kind : function.kind ≡ kinds.Local local
  pub operators : map meant (own_operators local) ≡ map (renamed (naming final.ids b.number)) (normal_ops (block_pick a) (text_of x))

module _ (stay : FoundTypesStay) (on : TablesGrowOn) (enter : EntryTypesGrow) (mean : BodiesMeanTheirs) (once : BodiesReadOnce) (seen : PicksAreSeen) (named : BlocksAreNamed)
    (file : FileEnv) (features : WasmFeatures) (a : Around) (count : ℕ → ℕ) where
  step_means : (b : FunctionBody) (bs : List FunctionBody) (old new final : State) → Small b.chunk.bytes.now → Waits file features a count old (b ∷ bs) → (s : IsStep file features b old new) → Grows new.types final.types
      → ((space : Space) (k : ℕ) → id_of final.ids b.number space k ≡ id_of new.ids b.number space k) → (x : grammar.Body) → ReadsBody a (count b.number) b.chunk.place b.chunk.bytes.now x
      → map meant (own_operators s.body) ≡ map (renamed (naming final.ids b.number)) (normal_ops (block_pick a) (text_of x))
  step_means b bs old new final small w s grows same x reads =
      let t = final.types in
      let e = env_of file t in
      let read = step_is_read stay on enter file features a count b bs old new w s e t grows (env_is file t) in
      let parts : Parts = ((read.place, read.runs), read.ops) in
      let sight = sight_in e b.number new.ids in
      let r = naming final.ids b.number in
      let filed = (step_on stay on enter file features a count b bs old new w s).filed t e new.ids.locals b.number grows (env_is file t) in
      let rules = (body a (length s.params) _).found b.chunk.bytes.now parts small read.read in
      let names : IsNaming sight r = record { ids = λ space k id there. ap (λ (o : Option ℕ). unwrap_or o k) (same space k ∙ there); labels = λ k. refl } in
      let own : AreOwn sight r (block_pick a) = λ ty found written. block_own sight r names (block_pick a ty) found (named e new.ids b.number _ features a filed ty found written) in
      let stands = stands_as_written sight (block_pick a) _ (tree_of (ops_of parts)) (seen e new.ids b.number _ features a filed) read.stands in
      let counted = w.counted b.number s.item s.was in
      let params : s.params ≡ counted.0 = some_is s.params counted.0 (sym s.params_are ∙ counted.1) in
      let many : length s.params ≡ count b.number = ap length params ∙ counted.2 in
      let own_reads = read_body_reads stay on enter file features a count b e (length s.params) new.ids _ read refl small in
      let is : body_of parts ≡ x = once a (length s.params) b.chunk.place b.chunk.bytes.now (body_of parts) x own_reads (subst (λ (n : ℕ). ReadsBody a n b.chunk.place b.chunk.bytes.now x) (sym many) reads) in
      mean a (length s.params) _ b.chunk.bytes.now parts (small, rules.0, rules.1) sight r (block_pick a) names own s.body stands
      ∙ ap (λ (y : grammar.Body). map (renamed r) (normal_ops (block_pick a) (text_of y))) is

  pub all_mean : (start end : ℕ) (bs : List FunctionBody) (xs : List grammar.Body) (old final : State) → ChunksFit start end (map (λ (b : FunctionBody). chunk_of b.chunk) bs) → Waits file features a count old bs
      → ReadsCodes a (map (coded_by count) bs) xs → Steps file features bs old final → AllZip (MeansIn final a) bs xs
  all_mean start end [] [] old final fit w reads steps = tt
  all_mean start end [] (x ∷ xs) old final fit w reads steps = absurd reads
  all_mean start end (b ∷ bs) [] old final fit w reads steps = absurd reads
  all_mean start end (b ∷ bs) (x ∷ xs) old final fit w reads (mid, s, more) =
      let k = kept file features b.number bs mid final (none_of b.number bs w.apart.0) more in
      let y = record s.item { kind = kinds.Local s.body } in
      let grows = steps_grow on file features bs mid final more in (
        record {
          function = y;
          there = k.slot ∙ ap (λ (z : Arena Function). slice_index_or z.slots b.number None) s.given ∙ own_slot file features old.functions.slots b.number s.item y s.was;
          local = s.body;
          kind = refl;
          operators = step_means b bs old mid final fit.0.0 w s grows k.names x reads.0;
        },
        all_mean start end bs xs mid final fit.1 (step_on stay on enter file features a count b bs old mid w s) reads.1 more,
      )
