-- Lemmas: the bodies of a module that was read.
use Rattle.std.specs.Prelude.{◌≡◌, List, [], ◌∷◌, length, map, None, slice_index_or}
use Rattle.std.specs.List.{AllZip}
use Rattle.std.specs.Option.{option_map}
use Rattle.std.proofs.Common.{ap, sym, ◌∙◌, subst}
use Rattle.walrus_named_bodies.specs.walrus_file_bodies.walrus_body_trees.walrus_body_nesting.wasm_body_grammar.Codes.{Code, ReadsCodes}
use Rattle.walrus_named_bodies.specs.walrus_file_bodies.walrus_body_trees.walrus_body_nesting.wasm_body_grammar.Laws.{BodiesReadOnce}
use Rattle.walrus_named_bodies.specs.walrus_file_bodies.walrus_body_trees.walrus_body_nesting.wasm_body_grammar.Rules.{Around}
use Rattle.walrus_named_bodies.specs.walrus_file_bodies.walrus_body_trees.walrus_body_nesting.wasm_body_grammar.wasm_grammar.Modules as grammar
use Rattle.walrus_named_bodies.specs.walrus_file_bodies.walrus_items_into.wasm_module_rules.wasm_modules.Modules.{around}
use Rattle.walrus_named_bodies.specs.walrus_file_bodies.walrus_items_into.walrus_module_bodies.walrus_body_trees.walrus_meaning.walrus_local_function.walrus_body_locals.wasm_normal_form.Normal.{normal_ops}
use Rattle.walrus_named_bodies.specs.walrus_file_bodies.walrus_items_into.walrus_module_env.wasm_run_names.Picks.{block_pick}
use Rattle.walrus_named_bodies.specs.walrus_file_bodies.walrus_body_trees.Laws.{BodiesMeanTheirs, renamed}
use Rattle.walrus_named_bodies.proofs.walrus_file_bodies.StopLemmas.{count_in}
use Rattle.walrus_named_bodies.specs.walrus_file_bodies.Ready.{bodies_in}
use Rattle.walrus_function_types.specs.Growth.{EntryTypesGrow, FoundTypesStay, TablesGrowOn}
use Rattle.walrus_named_bodies.specs.walrus_file_bodies.walrus_items_into.walrus_functions_into.declared.bodies.FunctionBody.{FunctionBody}
use Rattle.walrus_named_bodies.specs.walrus_file_bodies.walrus_body_trees.walrus_pairing.walrus_index_maps.Maps.{Ids}
use Rattle.walrus_named_bodies.specs.walrus_item_names.Holder.{Holder}
use Rattle.walrus_named_bodies.specs.walrus_item_names.Names.{bare_function}
use Rattle.walrus_named_bodies.specs.walrus_file_bodies.walrus_items_into.Laws.{FilledFunctionsStand, FilledModulesAreFiled}
use Rattle.walrus_named_bodies.specs.walrus_file_bodies.walrus_items_into.walrus_tables_into.walrus_sections_into.walrus_known_sections.State.{state_of}
use Rattle.walrus_named_bodies.specs.walrus_file_bodies.walrus_items_into.walrus_module_bodies.walrus_body_trees.walrus_meaning.walrus_module.Parts.{Module, parts}
use Rattle.walrus_named_bodies.specs.walrus_file_bodies.walrus_module_bodies.Steps.{State, state}
use Rattle.walrus_named_bodies.specs.walrus_file_bodies.walrus_items_into.walrus_module_env.Parsed.{BlocksAreNamed, PicksAreSeen}
use Rattle.walrus_named_bodies.specs.Parsed.{read_features}
use Rattle.walrus_parse_laws.proofs.WholeLemmas.{bare_same, bodies_are_due, bodies_lie, kind_at}
use Rattle.walrus_parse_laws.specs.BodiesTexts.{MeansBody, ReadBodiesMeanTheirs, naming, text_of}
use Rattle.walrus_parse_laws.proofs.MeantLemmas.{MeansIn, all_mean}

zip_later : {A B : Type 0} (P Q : A → B → Type 0) → ((x : A) (y : B) → P x y → Q x y) → (xs : List A) (ys : List B) → AllZip P xs ys → AllZip Q xs ys
zip_later P Q f [] [] h = h
zip_later P Q f [] (y ∷ ys) h = absurd h
zip_later P Q f (x ∷ xs) [] h = absurd h
zip_later P Q f (x ∷ xs) (y ∷ ys) h = (f x y h.0, zip_later P Q f xs ys h.1)

-- once names are given
named_means : (m : Module) (found : Ids) (final : State) (a : Around) → found ≡ final.ids → map (option_map bare_function) m.funcs.slots ≡ map (option_map bare_function) final.functions.slots
    → (b : FunctionBody) (x : grammar.Body) → MeansIn final a b x → MeansBody m found a b x
named_means m found final a ids funcs b x h =
    let same = kind_at h.function (slice_index_or m.funcs.slots b.number None)
    (sym (ap (option_map bare_function) h.there) ∙ bare_same bare_function final.functions.slots m.funcs.slots b.number (sym funcs)) in record {
      function = same.function;
      there = same.there;
      local = h.local;
      kind = same.kind_is ∙ h.kind;
      operators = h.operators ∙ ap (λ (i : Ids). map (renamed (naming i b.number)) (normal_ops (block_pick a) (text_of x))) (sym ids);
    }

pub bodies_mean : {B : Type 0} → FilledFunctionsStand B → FilledModulesAreFiled B → FoundTypesStay → TablesGrowOn → EntryTypesGrow → BodiesMeanTheirs → BodiesReadOnce → PicksAreSeen → BlocksAreNamed
    → ReadBodiesMeanTheirs B
bodies_mean {B} stands filed stay on enter mean once seen named config bytes m found small is =
    let h = is.1 in
    let s = h.sections in
    let features = read_features config in
    let f = h.filled in
    let a = around features (state_of s) in
    let bs : List FunctionBody = bodies_in s f.functions in
    let old = state f.types [] h.numbers f.functions in
    let stand = stands features bytes s m.start h.numbers f h.reads.sections h.are_filled in
    let fit = bodies_lie stands config bytes m found small is in
    let waits = bodies_are_due filed config bytes m found is in
    let reads = subst (λ (cs : List Code). ReadsCodes a cs h.bodies) (sym stand.paired.codes_are) h.reads.codes_are in
    let all = all_mean stay on enter mean once seen named h.file features a (count_in s) s.code_start (length bytes) bs h.bodies old h.bodied fit waits reads h.bodies_are in
    let funcs : map (option_map bare_function) m.funcs.slots ≡ map (option_map bare_function) h.bodied.functions.slots = ap (λ (x : Holder). x.funcs.slots) h.names.same in
    zip_later (MeansIn h.bodied a) (MeansBody (parts m) found a) (named_means (parts m) found h.bodied a h.found_are funcs) bs h.bodies all
