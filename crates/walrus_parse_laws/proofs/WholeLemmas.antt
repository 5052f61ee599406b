-- Lemmas: functions of a module that was read are whole.
use Rattle.std.specs.Prelude.{ℕ, ◌≡◌, ◌<◌, true, List, [], All, IfSome, length, map, Option, Some, None, slice_index_or, refl}
use Rattle.std.specs.Option.{option_and_then, option_map}
use Rattle.std.proofs.Common.{ap, sym, ◌∙◌, subst, arith, inl, inr}
use Rattle.walrus_named_bodies.specs.walrus_file_bodies.walrus_items_into.wasm_module_rules.wasm_modules.Modules.{around}
use Rattle.walrus_named_bodies.specs.walrus_file_bodies.walrus_items_into.wasm_sections.Within.{ChunksFit, bodies_inside}
use Rattle.walrus_named_bodies.specs.walrus_file_bodies.walrus_body_trees.Laws.{BodiesAreTrees}
use Rattle.walrus_config.specs.declared.config.ModuleConfig.{ModuleConfig}
use Rattle.walrus_named_bodies.proofs.walrus_file_bodies.PairLemmas.{are_apart, chunks_fit}
use Rattle.walrus_named_bodies.proofs.walrus_file_bodies.StopLemmas.{bodies_wait, chunks_fit_in, count_in}
use Rattle.walrus_named_bodies.specs.walrus_file_bodies.Read.{Waits, steps_grow}
use Rattle.walrus_named_bodies.specs.walrus_file_bodies.Ready.{bodies_in}
use Rattle.walrus_forms.specs.Forms.{Form, FunctionForm, StructForm, ArrayForm, params_of}
use Rattle.walrus_forms.specs.declared.value.ValType.{ValType}
use Rattle.walrus_function_types.specs.FunctionTypes.{form_params}
use Rattle.walrus_function_types.specs.Growth.{EntryTypesGrow, FoundTypesStay, TablesGrowOn}
use Rattle.walrus_named_bodies.specs.walrus_file_bodies.walrus_items_into.walrus_functions_into.Bodies.{is_bodiless, wants_body}
use Rattle.walrus_named_bodies.specs.walrus_file_bodies.walrus_items_into.walrus_functions_into.Functions.{kind_of}
use Rattle.walrus_named_bodies.specs.walrus_file_bodies.walrus_items_into.walrus_functions_into.Laws.{read_bodies}
use Rattle.walrus_named_bodies.specs.walrus_file_bodies.walrus_items_into.walrus_functions_into.declared.bodies.FunctionBody.{FunctionBody}
use Rattle.walrus_named_bodies.specs.walrus_file_bodies.walrus_items_into.walrus_module_bodies.walrus_body_trees.walrus_meaning.walrus_linked.walrus_body_writer.walrus_pairing.walrus_index_maps.Maps.{Ids}
use Rattle.walrus_named_bodies.specs.walrus_item_names.Holder.{Holder}
use Rattle.walrus_named_bodies.specs.walrus_item_names.Names.{bare_function, bare_type}
use Rattle.walrus_named_bodies.specs.walrus_file_bodies.walrus_items_into.Laws.{FilledFunctionsStand, FilledModulesAreFiled}
use Rattle.walrus_named_bodies.specs.walrus_file_bodies.walrus_items_into.walrus_tables_into.walrus_sections_into.walrus_known_sections.Items.{chunk_of}
use Rattle.walrus_named_bodies.specs.walrus_file_bodies.walrus_items_into.walrus_tables_into.walrus_sections_into.walrus_known_sections.State.{state_of}
use Rattle.walrus_named_bodies.specs.walrus_file_bodies.walrus_items_into.walrus_module_bodies.walrus_body_trees.walrus_meaning.walrus_linked.Linked.{IsWhole}
use Rattle.walrus_named_bodies.specs.walrus_file_bodies.walrus_items_into.walrus_module_bodies.walrus_body_trees.walrus_meaning.walrus_linked.walrus_local_function.declared.local_function.LocalFunction.{LocalFunction}
use Rattle.walrus_named_bodies.specs.walrus_item_names.walrus_module.declared.module.Module.{Module as Whole}
use Rattle.walrus_named_bodies.specs.walrus_file_bodies.walrus_module_bodies.Steps.{state}
use Rattle.walrus_named_bodies.specs.walrus_file_bodies.walrus_items_into.walrus_module_env.Parsed.{PicksAreSeen}
use Rattle.walrus_named_bodies.specs.walrus_file_bodies.walrus_items_into.walrus_module_bodies.walrus_body_trees.walrus_meaning.walrus_linked.walrus_module_items.declared.function.Function.{Function}
use Rattle.walrus_named_bodies.specs.walrus_file_bodies.walrus_items_into.walrus_module_bodies.walrus_body_trees.walrus_meaning.walrus_linked.walrus_module_items.declared.function.FunctionKind.{FunctionKind}
use Rattle.walrus_named_bodies.specs.walrus_file_bodies.walrus_items_into.walrus_module_bodies.walrus_body_trees.walrus_meaning.walrus_linked.walrus_module_items.declared.function.FunctionKind.TheVariants as kinds
use Rattle.walrus_named_bodies.specs.Parsed.{IsReadAs, read_features}
use Rattle.walrus_named_bodies.specs.walrus_file_bodies.walrus_items_into.walrus_module_bodies.walrus_body_trees.walrus_meaning.walrus_linked.walrus_tree.Trees.{Has}
use Rattle.walrus_named_bodies.specs.walrus_item_names.walrus_module.walrus_types.Items.{Item}
use Rattle.walrus_named_bodies.specs.walrus_item_names.walrus_module.walrus_types.Table.{Table, type_at}
use Rattle.walrus_parse_laws.specs.Whole.{ReadFunctionsAreWhole}
use Rattle.walrus_parse_laws.proofs.BodiesSlotLemmas.{none_has, read_kind, wanted}
use Rattle.walrus_parse_laws.proofs.BodiesStepLemmas.{IsGood, step_good, steps_have}
use Rattle.walrus_parse_laws.proofs.ListLemmas.{some_is}
use Rattle.walrus_parse_laws.proofs.ItemsSlotLemmas.{seen_at}

-- ---- without names

-- what stands at a number, where only names differ
pub bare_same : {A : Type 0} (bare : A → A) (xs ys : List (Option A)) (n : ℕ) → map (option_map bare) xs ≡ map (option_map bare) ys → option_map bare (slice_index_or xs n None) ≡ option_map bare (slice_index_or ys n None)
bare_same {A} bare xs ys n e = sym (seen_at bare xs n) ∙ ap (λ (l : List (Option A)). slice_index_or l n None) e ∙ seen_at bare ys n

-- so of a function its kind is the same
pub record KindAt (slot : Option Function) (kind : FunctionKind) : Type 0 where
  pub function : Function
  pub there : slot ≡ Some function
  pub kind_is : function.kind ≡ kind

pub kind_at : (x : Function) (slot : Option Function) → Some (bare_function x) ≡ option_map bare_function slot → KindAt slot x.kind
kind_at x None e = absurd cc
kind_at x (Some y) e = record { function = y; there = refl; kind_is = sym (ap (λ (f : Function). f.kind) (some_is (bare_function x) (bare_function y) e)) }

-- ---- a body whole beside the types with their names

form_many : (form : Form) (ps : List ValType) → form_params form ≡ Some ps → params_of form ≡ ps
form_many (FunctionForm params results) ps e = some_is params ps e
form_many (StructForm fields) ps e = absurd cc
form_many (ArrayForm field) ps e = absurd cc

type_many : (t : Table) (ty : ℕ) (ps : List ValType) (o p : Option Item) → option_map bare_type o ≡ option_map bare_type p → option_and_then (λ (item : Item). form_params item.kind.form) p ≡ Some ps
    → IfSome o (λ item. params_of item.kind.form ≡ ps)
type_many t ty ps None p e h = tt
type_many t ty ps (Some x) None e h = absurd cc
type_many t ty ps (Some x) (Some y) e h =
    let same : x.kind.form ≡ y.kind.form = ap (λ (z : Item). z.kind.form) (some_is (bare_type x) (bare_type y) e) in
    ap params_of same ∙ form_many y.kind.form ps h

if_many : (o : Option Item) (n : ℕ) (ps : List ValType) → n ≡ length ps → IfSome o (λ item. params_of item.kind.form ≡ ps) → IfSome o (λ item. n ≡ length (params_of item.kind.form))
if_many None n ps e h = tt
if_many (Some x) n ps e h = e ∙ sym (ap length h)

good_whole : (types t : Table) (local : LocalFunction) → map (option_map bare_type) types.types ≡ map (option_map bare_type) t.types → IsGood t local → IsWhole types (kinds.Local local)
good_whole types t local same good = (
  record {
    distinct = good.distinct;
    counted = if_many (type_at types local.builder.ty) (length local.args.items) good.params good.many
        (type_many t local.builder.ty good.params (type_at types local.builder.ty) (type_at t local.builder.ty) (bare_same bare_type types.types t.types local.builder.ty same) good.params_are);
  },
  good.tree,
)

-- ---- a function that none of the bodies is of

imported_whole : (types : Table) (ty : ℕ) (import : Option ℕ) (kind : FunctionKind) → kind ≡ kind_of ty import → (is_bodiless kind ≡ true → ⊥) → IsWhole types kind
imported_whole types ty None kind e none = absurd (none (ap is_bodiless e))
imported_whole types ty (Some n) kind e none = subst (IsWhole types) (sym e) tt

-- ---- the bodies of a module that was read

-- they lie in the file
pub bodies_lie : {B : Type 0} → FilledFunctionsStand B → (config : ModuleConfig) (bytes : List ℕ) (m : Whole B) (found : Ids) → All (λ b. b < 256) bytes → (is : IsReadAs config bytes m found)
    → ChunksFit is.1.sections.code_start (length bytes) (map (λ (b : FunctionBody). chunk_of b.chunk) (bodies_in is.1.sections is.1.filled.functions))
bodies_lie stands config bytes m found small is =
    let h = is.1 in
    let s = h.sections in
    let features = read_features config in
    let stand = stands features bytes s m.start h.numbers h.filled h.reads.sections h.are_filled in
    chunks_fit_in s.code_start (length bytes) (bodies_in s h.filled.functions) (read_bodies s.bodies) stand.paired.chunks_are (chunks_fit s.code_start (length bytes) s.bodies (bodies_inside features bytes (state_of s) small h.reads.sections))

-- once the sections have filled it, they may be read into it
pub bodies_are_due : {B : Type 0} → FilledModulesAreFiled B → (config : ModuleConfig) (bytes : List ℕ) (m : Whole B) (found : Ids) (is : IsReadAs config bytes m found)
    → Waits is.1.file (read_features config) (around (read_features config) (state_of is.1.sections)) (count_in is.1.sections) (state is.1.filled.types [] is.1.numbers is.1.filled.functions) (bodies_in is.1.sections is.1.filled.functions)
bodies_are_due filed config bytes m found is =
    let h = is.1 in
    let s = h.sections in
    let f = h.filled in
    bodies_wait (read_features config) bytes s m.start h.numbers f h.file filed h.reads.sections h.are_filled h.is_file (bodies_in s f.functions) [] (are_apart f.functions.slots 0 (read_bodies s.bodies))

pub functions_whole : {B : Type 0} → FilledFunctionsStand B → FilledModulesAreFiled B → FoundTypesStay → TablesGrowOn → EntryTypesGrow → BodiesAreTrees → PicksAreSeen → ReadFunctionsAreWhole B
functions_whole {B} stands filed stay on enter trees seen config bytes m found small is n function at =
    let h = is.1 in
    let s = h.sections in
    let features = read_features config in
    let f = h.filled in
    let a = around features (state_of s) in
    let bs : List FunctionBody = bodies_in s f.functions in
    let old = state f.types [] h.numbers f.functions in
    let stand = stands features bytes s m.start h.numbers f h.reads.sections h.are_filled in
    let fit = bodies_lie stands config bytes m found small is in
    let waits = bodies_are_due filed config bytes m found is in
    let t = h.bodied.types in
    let ends = steps_have stay on enter h.file features a (count_in s) h.bodied (λ _. Unit {0}) (IsGood t)
    (λ b bs old new small w step rest i. (step_good stay on enter trees seen h.file features a (count_in s) b bs old new t small w step (steps_grow on h.file features bs new h.bodied rest), tt))
    s.code_start (length bytes) bs old fit waits h.bodies_are tt n in
    let funcs : map (option_map bare_function) m.funcs.slots ≡ map (option_map bare_function) h.bodied.functions.slots = ap (λ (x : Holder). x.funcs.slots) h.names.same in
    let types : map (option_map bare_type) m.types.types ≡ map (option_map bare_type) h.bodied.types.types = ap (λ (x : Holder). x.types.types) h.names.same in
    let slot = slice_index_or h.bodied.functions.slots n None in
    let same = kind_at function slot (sym (ap (option_map bare_function) at) ∙ bare_same bare_function m.funcs.slots h.bodied.functions.slots n funcs) in
    elim ends as (λ _. IsWhole m.types function.kind) [
      | inl kept ↦
          let there : slice_index_or f.functions.slots n None ≡ Some same.function = sym kept.0 ∙ same.there in
          let read = read_kind h.numbers.types 0 n s.functions.items same.function (ap (λ (l : List (Option Function)). slice_index_or l n None) (sym h.are_filled.functions) ∙ there) in
          let none : is_bodiless same.function.kind ≡ true → ⊥ = λ w.
          none_has n bs kept.1 (subst (λ (l : List ℕ). Has l n) (sym stand.paired.functions_are) (wanted f.functions.slots 0 n n (ap wants_body there ∙ w) (omega arith))) in
          subst (IsWhole m.types) same.kind_is (imported_whole m.types _ read.0.import same.function.kind read.1 none)
      | inr good ↦
          let alike : same.function ≡ good.function = some_is same.function good.function (sym same.there ∙ good.there) in
          let kind : kinds.Local good.local ≡ function.kind = sym good.kind ∙ sym (ap (λ (x : Function). x.kind) alike) ∙ same.kind_is in
          subst (IsWhole m.types) kind (good_whole m.types h.bodied.types good.local types good.good)
    ]
