-- Lemmas: the sequences of the functions of a module that was read, as who sees the module reads them.
use Rattle.std.specs.Prelude.{ℕ, ◌≡◌, ◌≢◌, ◌+◌, Bool, List, [], ◌∷◌, length, map, Option, Some, None, slice_get, slice_index_or, refl, if◌then◌else◌}
use Rattle.std.specs.List.{AllZip}
use Rattle.std.specs.Option.{option_and_then, option_map, option_or}
use Rattle.std.proofs.Common.{ap, sym, ◌∙◌, subst}
use Rattle.walrus_arena.specs.Arena.{Arena, entries_from, item_at}
use Rattle.walrus_function_types.specs.FunctionTypes.{form_params, form_results}
use Rattle.walrus_function_types.specs.Growth.{EntryTypesGrow, FoundTypesStay, Grows, TablesGrowOn}
use Rattle.walrus_named_bodies.specs.walrus_file_bodies.walrus_items_into.walrus_module_env.walrus_handler_types.walrus_body_steps.Meanings.{meaning}
use Rattle.walrus_named_bodies.specs.walrus_file_bodies.walrus_items_into.walrus_module_env.walrus_handler_types.walrus_body_steps.walrus_body_nesting.Stands.{StandsAs}
use Rattle.walrus_named_bodies.specs.walrus_file_bodies.walrus_items_into.walrus_module_env.walrus_handler_types.walrus_body_steps.wasm_body_grammar.Bodies.{Parts, body_of}
use Rattle.walrus_named_bodies.specs.walrus_file_bodies.walrus_items_into.walrus_module_env.walrus_handler_types.walrus_body_steps.wasm_body_grammar.Codes.{ReadsCodes}
use Rattle.walrus_named_bodies.specs.walrus_file_bodies.walrus_items_into.walrus_module_env.walrus_handler_types.walrus_body_steps.wasm_body_grammar.Laws.{BodiesReadOnce, ReadsBody}
use Rattle.walrus_named_bodies.specs.walrus_file_bodies.walrus_items_into.walrus_module_env.walrus_handler_types.walrus_body_steps.wasm_body_grammar.Rules.{Around}
use Rattle.walrus_named_bodies.specs.walrus_file_bodies.walrus_items_into.walrus_module_env.walrus_handler_types.walrus_body_steps.wasm_body_grammar.wasm_formats.Formats.{Small}
use Rattle.walrus_named_bodies.specs.walrus_file_bodies.walrus_items_into.walrus_module_env.walrus_handler_types.walrus_body_steps.wasm_body_grammar.wasm_formats.wasm_features.declared.WasmFeatures.{WasmFeatures}
use Rattle.walrus_named_bodies.specs.walrus_file_bodies.walrus_items_into.walrus_module_env.walrus_handler_types.walrus_body_steps.wasm_body_grammar.wasm_grammar.Modules as grammar
use Rattle.walrus_named_bodies.specs.walrus_file_bodies.walrus_items_into.walrus_module_env.walrus_handler_types.walrus_body_steps.wasm_body_grammar.wasm_grammar.walrus_forms.Kinds.{function_kind}
use Rattle.walrus_named_bodies.specs.walrus_file_bodies.walrus_items_into.walrus_module_env.walrus_handler_types.walrus_body_steps.wasm_body_grammar.wasm_grammar.walrus_forms.Same.{same_kind}
use Rattle.walrus_named_bodies.specs.walrus_file_bodies.walrus_items_into.walrus_module_env.walrus_handler_types.walrus_body_steps.wasm_body_grammar.wasm_grammar.walrus_forms.declared.value.ValType.{ValType}
use Rattle.walrus_named_bodies.specs.walrus_file_bodies.walrus_items_into.walrus_module_env.walrus_handler_types.walrus_body_steps.wasm_body_grammar.wasm_operators.Items.{Space, Types, Functions, Tables, Memories, Tags, Globals, ElementSegments, DataSegments, Locals, Labels}
use Rattle.walrus_named_bodies.specs.walrus_file_bodies.walrus_items_into.walrus_module_env.walrus_handler_types.walrus_body_steps.wasm_body_grammar.wasm_operators.declared.block_type.BlockType.{BlockType}
use Rattle.walrus_named_bodies.specs.walrus_file_bodies.walrus_items_into.walrus_module_env.walrus_handler_types.walrus_body_steps.wasm_normal_form.Normal.{normal}
use Rattle.walrus_named_bodies.specs.walrus_file_bodies.walrus_items_into.walrus_module_env.walrus_handler_types.walrus_body_steps.wasm_normal_form.Trees.{tree_of}
use Rattle.walrus_named_bodies.specs.walrus_file_bodies.walrus_items_into.walrus_module_env.walrus_handler_types.walrus_tree.walrus_walks.walrus_types.Items.{Item}
use Rattle.walrus_body_laws.specs.walrus_pairing.Looks.{id_of}
use Rattle.walrus_body_laws.specs.walrus_pairing.walrus_index_maps.Maps.{Ids}
use Rattle.walrus_body_laws.specs.walrus_pairing.walrus_instr.BlockTypes.{picked, short_form}
use Rattle.walrus_body_laws.specs.walrus_pairing.walrus_instr.declared.seq.InstrSeqType.TheVariants.{MultiValue}
use Rattle.walrus_named_bodies.specs.walrus_file_bodies.walrus_items_into.walrus_module_bodies.walrus_body_trees.walrus_meaning.walrus_local_function.declared.local_function.LocalFunction.{LocalFunction}
use Rattle.walrus_named_bodies.specs.walrus_file_bodies.walrus_items_into.walrus_module_bodies.walrus_body_trees.walrus_meaning.walrus_local_function.walrus_body_locals.Locals.{ids_from, with_more}
use Rattle.walrus_named_bodies.specs.walrus_file_bodies.Read.{Waits, coded_by, env_is, env_of, others_keep, read_body_reads, step_is_read, step_on, steps_grow}
use Rattle.walrus_named_bodies.specs.walrus_file_bodies.walrus_items_into.walrus_functions_into.declared.bodies.FunctionBody.{FunctionBody}
use Rattle.walrus_named_bodies.specs.walrus_file_bodies.walrus_items_into.walrus_module_env.Around.{sight_in}
use Rattle.walrus_named_bodies.specs.walrus_file_bodies.walrus_items_into.walrus_module_env.Env.{if_own, own_pick}
use Rattle.walrus_named_bodies.specs.walrus_file_bodies.walrus_items_into.walrus_module_env.wasm_run_names.Picks.{block_pick}
use Rattle.walrus_named_bodies.specs.walrus_file_bodies.walrus_items_into.walrus_tables_into.walrus_sections_into.walrus_known_sections.Items.{chunk_of}
use Rattle.walrus_named_bodies.specs.walrus_file_bodies.walrus_items_into.wasm_sections.Within.{ChunksFit}
use Rattle.walrus_named_bodies.specs.walrus_file_bodies.walrus_module_bodies.Steps.{IsStep, State, Steps}
use Rattle.walrus_named_bodies.specs.walrus_file_bodies.walrus_module_bodies.declared.file.FileEnv.{FileEnv}
use Rattle.walrus_named_bodies.specs.walrus_item_names.Names.{bare_function, bare_tag, bare_type}
use Rattle.walrus_named_bodies.specs.walrus_item_names.walrus_module.Parts.{Module}
use Rattle.walrus_named_bodies.specs.walrus_item_names.walrus_module.walrus_builder.Built.{contents}
use Rattle.walrus_named_bodies.specs.walrus_item_names.walrus_module.walrus_module_items.declared.function.Function.{Function}
use Rattle.walrus_named_bodies.specs.walrus_item_names.walrus_module.walrus_module_items.declared.function.FunctionKind.{FunctionKind}
use Rattle.walrus_named_bodies.specs.walrus_item_names.walrus_module.walrus_module_items.declared.function.FunctionKind.TheVariants as kinds
use Rattle.walrus_named_bodies.specs.walrus_item_names.walrus_module.walrus_module_items.declared.tag.Tag.{Tag}
use Rattle.walrus_named_bodies.specs.walrus_item_names.walrus_module.walrus_types.Table.{Table, latest_in, next_id, type_at}
use Rattle.walrus_parse_laws.specs.BodiesTexts.{text_of}
use Rattle.walrus_parse_laws.proofs.BodiesSlotLemmas.{NoneOf}
use Rattle.walrus_parse_laws.specs.Means.{HasSequences, types_in}
use Rattle.walrus_parse_laws.proofs.OwnLemmas.{none_of, other_slot, own_slot, params_bare, slots_bare, some_is}

-- ---- what stays of a function while others get their bodies

-- two maps that name the same for the function
same_names : (n : ℕ) (old new : Ids) → new ≡ record old { locals = new.locals } → new.locals n ≡ old.locals n → (space : Space) (k : ℕ) → id_of new n space k ≡ id_of old n space k
same_names n old new e locals Types k = ap (λ (i : Ids). id_of i n Types k) e
same_names n old new e locals Functions k = ap (λ (i : Ids). id_of i n Functions k) e
same_names n old new e locals Tables k = ap (λ (i : Ids). id_of i n Tables k) e
same_names n old new e locals Memories k = ap (λ (i : Ids). id_of i n Memories k) e
same_names n old new e locals Tags k = ap (λ (i : Ids). id_of i n Tags k) e
same_names n old new e locals Globals k = ap (λ (i : Ids). id_of i n Globals k) e
same_names n old new e locals ElementSegments k = ap (λ (i : Ids). id_of i n ElementSegments k) e
same_names n old new e locals DataSegments k = ap (λ (i : Ids). id_of i n DataSegments k) e
same_names n old new e locals Locals k = ap (λ (l : List ℕ). slice_get l k) locals
same_names n old new e locals Labels k = refl

more_names : (n function : ℕ) (ids : List ℕ) (old new : Ids) → n ≢ function → new ≡ record old { locals = with_more function ids old.locals } → (space : Space) (k : ℕ) → id_of new n space k ≡ id_of old n space k
more_names n function ids old new apart e =
    same_names n old new (e ∙ ap (λ (l : ℕ → List ℕ). record old { locals = l }) (sym (ap (λ (i : Ids). i.locals) e)))
    (ap (λ (i : Ids). i.locals n) e ∙ others_keep function ids old.locals n apart)

record Stays (n : ℕ) (old new : State) : Type 0 where
  pub slot : slice_index_or new.functions.slots n None ≡ slice_index_or old.functions.slots n None
  pub names : (space : Space) (k : ℕ) → id_of new.ids n space k ≡ id_of old.ids n space k

stays : (file : FileEnv) (features : WasmFeatures) (n : ℕ) (bs : List FunctionBody) (old new : State) → NoneOf n bs → Steps file features bs old new → Stays n old new
stays file features n [] old new none e = record { slot = ap (λ (s : State). slice_index_or s.functions.slots n None) e; names = λ space k. ap (λ (s : State). id_of s.ids n space k) e }
stays file features n (b ∷ bs) old new none (mid, s, more) =
    let later = stays file features n bs mid new none.1 more in
    let given = ap (λ (x : Arena Function). slice_index_or x.slots n None) s.given in
    let apart : n ≢ b.number = λ e. none.0 (sym e) in record {
      slot = later.slot ∙ given ∙ other_slot old.functions.slots b.number n s.item (record s.item { kind = kinds.Local s.body }) s.was none.0;
      names = λ space k. later.names space k ∙ more_names n b.number s.left.ids s.numbered mid.ids apart s.left.named space k
          ∙ more_names n b.number (ids_from (length old.locals) s.params) old.ids s.numbered apart s.arguments.named space k;
    }

-- ---- bodies

-- once all are read the sequences of a function stand as its body, for who sees the table of types that is there then
pub record IsStood (file : FileEnv) (a : Around) (final : State) (n : ℕ) (x : grammar.Body) : Type 0 where
  pub function : Function
  pub there : slice_index_or final.functions.slots n None ≡ Some function
  pub local : LocalFunction
  pub kind : function.kind ≡ kinds.Local local
  pub ids : Ids
  pub names : (space : Space) (k : ℕ) → id_of final.ids n space k ≡ id_of ids n space k
  pub stands : StandsAs (meaning (sight_in (env_of file final.types) n ids)) (contents local.builder.builder) (normal (block_pick a) (tree_of (text_of x)))

module _ (stay : FoundTypesStay) (on : TablesGrowOn) (enter : EntryTypesGrow) (once : BodiesReadOnce) (file : FileEnv) (features : WasmFeatures) (a : Around) (count : ℕ → ℕ) where
  step_stands : (b : FunctionBody) (bs : List FunctionBody) (old new final : State) → Small b.chunk.bytes.now → Waits file features a count old (b ∷ bs) → (s : IsStep file features b old new) → Grows new.types final.types
      → (x : grammar.Body) → ReadsBody a (count b.number) b.chunk.place b.chunk.bytes.now x
      → StandsAs (meaning (sight_in (env_of file final.types) b.number new.ids)) (contents s.body.builder.builder) (normal (block_pick a) (tree_of (text_of x)))
  step_stands b bs old new final small w s grows x reads =
      let e = env_of file final.types in
      let read = step_is_read stay on enter file features a count b bs old new w s e final.types grows (env_is file final.types) in
      let parts : Parts = ((read.place, read.runs), read.ops) in
      let counted = w.counted b.number s.item s.was in
      let params : s.params ≡ counted.0 = some_is s.params counted.0 (sym s.params_are ∙ counted.1) in
      let many : length s.params ≡ count b.number = ap length params ∙ counted.2 in
      let own_reads = read_body_reads stay on enter file features a count b e (length s.params) new.ids (contents s.body.builder.builder) read refl small in
      let is : body_of parts ≡ x = once a (length s.params) b.chunk.place b.chunk.bytes.now (body_of parts) x own_reads (subst (λ (n : ℕ). ReadsBody a n b.chunk.place b.chunk.bytes.now x) (sym many) reads) in
      subst (λ (z : grammar.Body). StandsAs (meaning (sight_in e b.number new.ids)) (contents s.body.builder.builder) (normal (block_pick a) (tree_of (text_of z)))) is read.stands

  pub all_stood : (start end : ℕ) (bs : List FunctionBody) (xs : List grammar.Body) (old final : State) → ChunksFit start end (map (λ (b : FunctionBody). chunk_of b.chunk) bs) → Waits file features a count old bs
      → ReadsCodes a (map (coded_by count) bs) xs → Steps file features bs old final → AllZip (λ (b : FunctionBody) (x : grammar.Body). IsStood file a final b.number x) bs xs
  all_stood start end [] [] old final fit w reads steps = tt
  all_stood start end [] (x ∷ xs) old final fit w reads steps = absurd reads
  all_stood start end (b ∷ bs) [] old final fit w reads steps = absurd reads
  all_stood start end (b ∷ bs) (x ∷ xs) old final fit w reads (mid, s, rest) =
      let k = stays file features b.number bs mid final (none_of b.number bs w.apart.0) rest in
      let y = record s.item { kind = kinds.Local s.body } in (
        record {
          function = y;
          there = k.slot ∙ ap (λ (z : Arena Function). slice_index_or z.slots b.number None) s.given ∙ own_slot old.functions.slots b.number s.item y s.was;
          local = s.body;
          kind = refl;
          ids = mid.ids;
          names = k.names;
          stands = step_stands b bs old mid final fit.0.0 w s (steps_grow on file features bs mid final rest) x reads.0;
        },
        all_stood start end bs xs mid final fit.1 (step_on stay on enter file features a count b bs old mid w s) reads.1 rest,
      )

-- ---- names aside the same is seen

results_bare : (o : Option Item) → option_and_then (λ (item : Item). form_results item.kind.form) (option_map bare_type o) ≡ option_and_then (λ (item : Item). form_results item.kind.form) o
results_bare None = refl
results_bare (Some x) = refl

tag_bare : (o : Option Tag) → option_map (λ (t : Tag). t.ty) (option_map bare_tag o) ≡ option_map (λ (t : Tag). t.ty) o
tag_bare None = refl
tag_bare (Some t) = refl

module _ (ps rs : List ValType) where
  abbrev is_of : ℕ × Item → Bool
  is_of e = same_kind e.1.kind (function_kind ps rs)

  latest_bare : (id : ℕ) (xs : List (Option Item)) (found : Option ℕ) → latest_in is_of found (entries_from id (map (option_map bare_type) xs)) ≡ latest_in is_of found (entries_from id xs)
  latest_bare id [] found = refl
  latest_bare id (None ∷ xs) found = latest_bare (id + 1) xs found
  latest_bare id (Some x ∷ xs) found = latest_bare (id + 1) xs (if is_of (id, x) then Some id else found)

  picked_bare : (t u : Table) → map (option_map bare_type) t.types ≡ map (option_map bare_type) u.types → picked ps rs t ≡ picked ps rs u
  picked_bare t u e =
      ap (λ (o : Option ℕ). option_or (short_form ps rs) (option_map MultiValue o))
      (sym (latest_bare 0 t.types None) ∙ ap (λ (l : List (Option Item)). latest_in is_of None (entries_from 0 l)) e ∙ latest_bare 0 u.types None)

kind_bare : (x : Function) (o : Option Function) (kind : FunctionKind) → Some (bare_function x) ≡ option_map bare_function o → x.kind ≡ kind → (f : Function) × (o ≡ Some f) × (f.kind ≡ kind)
kind_bare x None kind e is = absurd cc
kind_bare x (Some y) kind e is = (y, refl, sym (ap (λ (f : Function). f.kind) (some_is (bare_function x) (bare_function y) e)) ∙ is)

-- ---- in the module

module _ (env : FileEnv) (a : Around) (final : State) (file : grammar.Module) (m : Module) (found : Ids) (is : found ≡ final.ids) (own : env.own_types ≡ next_id (types_in file).table)
    (funcs : map (option_map bare_function) m.funcs.slots ≡ map (option_map bare_function) final.functions.slots) (types : map (option_map bare_type) m.types.types ≡ map (option_map bare_type) final.types.types)
    (tags : map (option_map bare_tag) m.tags.slots ≡ map (option_map bare_tag) env.tags.now.slots) where
  pub sequences_stand : (pick : BlockType → BlockType) → block_pick a ≡ pick → (n : ℕ) (x : grammar.Body) → IsStood env a final n x → HasSequences file m found pick n x
  sequences_stand pick same n x h =
      let there = kind_bare h.function (slice_index_or m.funcs.slots n None) (kinds.Local h.local) (sym (ap (option_map bare_function) h.there) ∙ slots_bare bare_function final.functions.slots m.funcs.slots n (sym funcs)) h.kind in
      record {
        function = there.0;
        there = there.1;
        local = h.local;
        kind = there.2;
        sight = sight_in (env_of env final.types) n h.ids;
        sees = record {
          names = λ space k. sym (h.names space k) ∙ ap (λ (i : Ids). id_of i n space k) (sym is);
          takes = λ id. sym (params_bare (type_at final.types id)) ∙ ap (option_and_then (λ (item : Item). form_params item.kind.form)) (slots_bare bare_type final.types.types m.types.types id (sym types)) ∙ params_bare (type_at m.types id);
          gives = λ id. sym (results_bare (type_at final.types id)) ∙ ap (option_and_then (λ (item : Item). form_results item.kind.form)) (slots_bare bare_type final.types.types m.types.types id (sym types)) ∙ results_bare (type_at m.types id);
          picks_so = λ ps rs. ap (λ (k : ℕ). own_pick k final.types ps rs) own ∙ ap (if_own (next_id (types_in file).table)) (picked_bare ps rs final.types m.types (sym types));
          handles = λ ps rs. picked_bare ps rs final.types m.types (sym types);
          tag_types = λ id. sym (tag_bare (item_at env.tags.now id)) ∙ ap (option_map (λ (t : Tag). t.ty)) (slots_bare bare_tag env.tags.now.slots m.tags.slots id (sym tags)) ∙ tag_bare (item_at m.tags id);
        };
        stands = subst (λ (p : BlockType → BlockType). StandsAs (meaning (sight_in (env_of env final.types) n h.ids)) (contents h.local.builder.builder) (normal p (tree_of (text_of x)))) same h.stands;
      }
