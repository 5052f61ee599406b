-- Lemmas: the locals of a module that was read.
use Rattle.std.specs.Prelude.{ℕ, ◌≡◌, ◌⊎◌, ◌<◌, ◌+◌, Bool, true, List, [], ◌∷◌, ◌++◌, length, map, Some, None, slice_get, slice_index_or}
use Rattle.std.specs.List.{AllZip, range_with_len}
use Rattle.std.specs.Option.{option_map}
use Rattle.std.proofs.Common.{ap, sym, ◌∙◌, subst}
use Rattle.walrus_named_bodies.specs.walrus_file_bodies.walrus_body_trees.walrus_body_nesting.wasm_body_grammar.Codes.{Code, ReadsCodes}
use Rattle.walrus_named_bodies.specs.walrus_file_bodies.walrus_body_trees.walrus_body_nesting.wasm_body_grammar.Laws.{BodiesReadOnce}
use Rattle.walrus_named_bodies.specs.walrus_file_bodies.walrus_body_trees.walrus_body_nesting.wasm_body_grammar.Rules.{Around}
use Rattle.walrus_named_bodies.specs.walrus_file_bodies.walrus_body_trees.walrus_body_nesting.wasm_body_grammar.wasm_grammar.Modules as grammar
use Rattle.walrus_named_bodies.specs.walrus_file_bodies.walrus_body_trees.walrus_body_nesting.wasm_body_grammar.wasm_operators.Items.{Locals}
use Rattle.walrus_named_bodies.specs.walrus_file_bodies.walrus_items_into.wasm_module_rules.wasm_modules.Modules.{around}
use Rattle.walrus_named_bodies.specs.walrus_file_bodies.walrus_items_into.walrus_module_bodies.walrus_body_trees.walrus_meaning.walrus_local_function.walrus_body_locals.wasm_normal_form.Bodies.{is_used, locals_named, new_number}
use Rattle.walrus_named_bodies.specs.walrus_file_bodies.walrus_items_into.walrus_module_bodies.walrus_body_trees.walrus_meaning.walrus_local_function.walrus_body_locals.wasm_normal_form.Locals.{Key}
use Rattle.walrus_named_bodies.specs.walrus_file_bodies.walrus_items_into.walrus_module_bodies.walrus_body_trees.walrus_meaning.walrus_local_function.walrus_body_locals.wasm_normal_form.Normal.{normal_ops}
use Rattle.walrus_named_bodies.specs.walrus_file_bodies.walrus_items_into.walrus_module_env.wasm_run_names.Picks.{block_pick}
use Rattle.walrus_named_bodies.specs.walrus_file_bodies.walrus_items_into.walrus_module_bodies.walrus_body_trees.walrus_meaning.walrus_local_function.walrus_body_locals.Locals.{ids_from, kept_ids}
use Rattle.walrus_named_bodies.specs.walrus_file_bodies.walrus_items_into.walrus_module_bodies.walrus_body_trees.walrus_meaning.walrus_local_function.walrus_body_locals.Named.{kept_of}
use Rattle.walrus_named_bodies.specs.walrus_file_bodies.walrus_body_trees.Laws.{meant, renamed}
use Rattle.walrus_named_bodies.proofs.walrus_file_bodies.StopLemmas.{count_in}
use Rattle.walrus_named_bodies.specs.walrus_file_bodies.Read.{ids_length}
use Rattle.walrus_named_bodies.specs.walrus_file_bodies.Ready.{bodies_in}
use Rattle.walrus_named_bodies.specs.walrus_file_bodies.walrus_body_trees.walrus_body_nesting.wasm_body_grammar.wasm_grammar.walrus_forms.Renaming.{at, renamed_value}
use Rattle.walrus_function_types.specs.Growth.{EntryTypesGrow, FoundTypesStay, TablesGrowOn}
use Rattle.walrus_named_bodies.specs.walrus_file_bodies.walrus_items_into.walrus_functions_into.declared.bodies.FunctionBody.{FunctionBody}
use Rattle.walrus_named_bodies.specs.walrus_file_bodies.walrus_items_into.walrus_module_bodies.walrus_body_trees.walrus_meaning.walrus_body_writer.walrus_pairing.walrus_index_maps.Maps.{Ids}
use Rattle.walrus_named_bodies.specs.walrus_item_names.Holder.{Holder}
use Rattle.walrus_named_bodies.specs.walrus_item_names.Names.{bare_function, bare_local}
use Rattle.walrus_named_bodies.specs.walrus_file_bodies.walrus_items_into.Laws.{FilledFunctionsStand, FilledModulesAreFiled}
use Rattle.walrus_named_bodies.specs.walrus_file_bodies.walrus_items_into.walrus_tables_into.walrus_sections_into.walrus_known_sections.State.{state_of}
use Rattle.walrus_named_bodies.specs.walrus_file_bodies.walrus_items_into.walrus_module_bodies.walrus_body_trees.walrus_meaning.walrus_local_function.declared.local_function.LocalFunction.{LocalFunction}
use Rattle.walrus_named_bodies.specs.walrus_file_bodies.walrus_items_into.walrus_module_bodies.walrus_body_trees.walrus_meaning.Bodies.{local_ids, named_locals, own_operators, used_locals}
use Rattle.walrus_named_bodies.specs.walrus_file_bodies.walrus_items_into.walrus_module_bodies.walrus_body_trees.walrus_meaning.walrus_module.Parts.{Module, parts}
use Rattle.walrus_named_bodies.specs.walrus_file_bodies.walrus_module_bodies.Steps.{State, state}
use Rattle.walrus_named_bodies.specs.walrus_file_bodies.walrus_items_into.walrus_module_bodies.walrus_body_trees.walrus_meaning.walrus_linked.walrus_module_items.declared.function.Function.{Function}
use Rattle.walrus_named_bodies.specs.walrus_file_bodies.walrus_items_into.walrus_module_bodies.walrus_body_trees.walrus_meaning.walrus_linked.walrus_module_items.declared.function.FunctionKind.TheVariants as kinds
use Rattle.walrus_named_bodies.specs.Parsed.{read_features}
use Rattle.walrus_parse_laws.proofs.WholeLemmas.{bare_same, bodies_are_due, bodies_lie, kind_at}
use Rattle.walrus_parse_laws.specs.BodiesTexts.{MeansBody, ReadBodiesMeanTheirs, naming, text_of}
use Rattle.walrus_parse_laws.specs.Locals.{HasLocals, ReadBodiesHaveTheirLocals, keys_of, kept_numbers}
use Rattle.walrus_parse_laws.proofs.LocalsBodyLemmas.{all_ids, all_numbers, arguments_are, locals_are, names_inside}
use Rattle.walrus_parse_laws.proofs.LocalsNameLemmas.{Below}
use Rattle.walrus_parse_laws.proofs.IdLemmas.{types_joined, types_of, types_same}
use Rattle.walrus_parse_laws.proofs.LocalsRuleLemmas.{normal_below, normal_kept}
use Rattle.walrus_parse_laws.proofs.ListLemmas.{AllOf, all_contains}
use Rattle.walrus_parse_laws.proofs.RankLemmas.{IsKept}
use Rattle.walrus_parse_laws.proofs.LocalsStepLemmas.{LocalsIn, all_locals}

some_is : {A : Type 0} (x y : A) → Some x ≡ Some y → x ≡ y
some_is x y e = cc

local_is : (x y : LocalFunction) → kinds.Local x ≡ kinds.Local y → x ≡ y
local_is x y e = cc

-- ---- bodies

body_has : (m : Module) (found : Ids) (final : State) (a : Around) → found ≡ final.ids → map (option_map bare_function) m.funcs.slots ≡ map (option_map bare_function) final.functions.slots
    → map bare_local m.locals ≡ map bare_local final.locals → (b : FunctionBody) (x : grammar.Body) → MeansBody m found a b x → LocalsIn final a b x → HasLocals m found a b x
body_has m found final a is funcs bare b x k h =
    let same = kind_at h.function (slice_index_or m.funcs.slots b.number None)
    (sym (ap (option_map bare_function) h.there) ∙ bare_same bare_function final.functions.slots m.funcs.slots b.number (sym funcs)) in
    let alike : k.function ≡ same.function = some_is k.function same.function (sym k.there ∙ same.there) in
    let one : k.local ≡ h.local = local_is k.local h.local (sym k.kind ∙ ap (λ (f : Function). f.kind) alike ∙ same.kind_is ∙ h.kind) in
    let many : length h.params ≡ length h.local.args.items = sym (ap length h.args ∙ ids_length (length h.before) h.params) in
    let operators : map meant (own_operators h.local) ≡ map (renamed (naming found b.number)) (normal_ops (block_pick a) (text_of x)) = ap (λ (l : LocalFunction). map meant (own_operators l)) (sym one) ∙ k.operators in
    let args = h.args in
    let types : types_of m.locals ≡ types_of h.before ++ (h.params ++ (kept_of h.kept (map (renamed_value (at found.types)) x.locals) ++ types_of h.more)) =
    types_same m.locals final.locals bare ∙ ap types_of h.locals
    ∙ types_joined h.before h.more (length h.before) (length h.before + length h.params) h.params (kept_of h.kept (map (renamed_value (at final.ids.types)) x.locals))
    ∙ ap (λ (i : Ids). types_of h.before ++ (h.params ++ (kept_of h.kept (map (renamed_value (at i.types)) x.locals) ++ types_of h.more))) (sym is) in
    let ids : found.locals b.number ≡ ids_from (length h.before) h.params ++ kept_ids (length h.before + length h.params) h.kept =
    ap (λ (i : Ids). i.locals b.number) is ∙ h.ids in
    let below = normal_below a (length h.params) (block_pick a) x h.ruled in
    let used = subst (λ (ks : List Bool). AllOf (IsKept (length h.params) ks) (locals_named (normal_ops (block_pick a) (text_of x)))) (sym h.kept_is)
    (normal_kept a (length h.params) (block_pick a) x h.ruled final.ids.all_locals) in
    record {
      function = k.function;
      there = k.there;
      local = h.local;
      kind = k.kind ∙ ap (λ (l : LocalFunction). kinds.Local l) one;
      locals = subst (λ (n : ℕ). map (λ (y : Key). y.0) (used_locals m.locals h.local) ≡ map (λ (y : Key). y.0) (keys_of found a n x)) many
          (locals_are m.locals h.local found a b.number x h.before h.more h.params h.kept h.many args types ids below used operators);
      arguments = subst (λ (n : ℕ). h.local.args.items ≡ map (naming found b.number Locals) (range_with_len 0 n)) many
          (arguments_are m.locals h.local found a b.number x h.before h.more h.params h.kept h.many args types ids below used operators);
      ids = subst (λ (n : ℕ). local_ids m.locals h.local ≡ map (naming found b.number Locals) (kept_numbers n (keys_of found a n x))) many
          (all_ids m.locals h.local found a b.number x h.before h.more h.params h.kept h.many args types ids below used operators);
      numbers = subst (λ (n : ℕ). (o : ℕ) → (o < n) ⊎ (is_used (normal_ops (block_pick a) (text_of x)) o ≡ true) → slice_get (local_ids m.locals h.local) (new_number n (keys_of found a n x) o) ≡ Some (naming found b.number Locals o)) many
          (all_numbers m.locals h.local found a b.number x h.before h.more h.params h.kept h.many args types ids below used operators);
      inside = λ id c. all_contains (Below (length m.locals)) (named_locals (own_operators h.local)) id
          (names_inside m.locals h.local found a b.number x h.before h.more h.params h.kept h.many args types ids below used operators) c;
    }

zipped : {A C : Type 0} (P Q R : A → C → Type 0) → ((x : A) (y : C) → P x y → Q x y → R x y) → (xs : List A) (ys : List C) → AllZip P xs ys → AllZip Q xs ys → AllZip R xs ys
zipped P Q R f [] [] h k = tt
zipped P Q R f [] (y ∷ ys) h k = absurd h
zipped P Q R f (x ∷ xs) [] h k = absurd h
zipped P Q R f (x ∷ xs) (y ∷ ys) h k = (f x y h.0 k.0, zipped P Q R f xs ys h.1 k.1)

pub bodies_have : {B : Type 0} → ReadBodiesMeanTheirs B → FilledFunctionsStand B → FilledModulesAreFiled B → FoundTypesStay → TablesGrowOn → EntryTypesGrow → BodiesReadOnce → ReadBodiesHaveTheirLocals B
bodies_have {B} mean stands filed stay on enter once config bytes m found small is =
    let h = is.1 in
    let s = h.sections in
    let features = read_features config in
    let f = h.filled in
    let a = around features (state_of s) in
    let bs : List FunctionBody = bodies_in s f.functions in
    let old = state f.types [] h.numbers f.functions in
    let stand = stands features bytes s m.start h.numbers f h.reads.sections h.are_filled in
    let fit = bodies_lie stands config bytes m found small is in
    let waits = bodies_are_due filed config bytes m found is in
    let reads = subst (λ (cs : List Code). ReadsCodes a cs h.bodies) (sym stand.paired.codes_are) h.reads.codes_are in
    let all = all_locals stay on enter once h.file features a (count_in s) s.code_start (length bytes) bs h.bodies old h.bodied fit waits reads h.bodies_are in
    let funcs : map (option_map bare_function) m.funcs.slots ≡ map (option_map bare_function) h.bodied.functions.slots = ap (λ (x : Holder). x.funcs.slots) h.names.same in
    let bare : map bare_local m.locals ≡ map bare_local h.bodied.locals = ap (λ (x : Holder). x.locals) h.names.same in
    zipped (MeansBody (parts m) found a) (LocalsIn h.bodied a) (HasLocals (parts m) found a) (body_has (parts m) found h.bodied a h.found_are funcs bare) bs h.bodies (mean config bytes m found small is) all
