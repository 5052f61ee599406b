-- Lemmas: bodies that were read are whole.
use Rattle.std.specs.Prelude.{ℕ, ◌≡◌, ◌⊎◌, List, [], ◌∷◌, length, map, Option, Some, None, slice_index_or, slice_set, refl}
use Rattle.std.specs.Option.{option_and_then}
use Rattle.std.proofs.Common.{ap, sym, ◌∙◌, subst, inl, inr}
use Rattle.walrus_named_bodies.specs.walrus_file_bodies.walrus_items_into.walrus_module_bodies.walrus_body_trees.walrus_meaning.walrus_linked.walrus_local_function.walrus_body_locals.wasm_body_grammar.Bodies.{Parts, body}
use Rattle.walrus_named_bodies.specs.walrus_file_bodies.walrus_items_into.walrus_module_bodies.walrus_body_trees.walrus_meaning.walrus_linked.walrus_local_function.walrus_body_locals.wasm_body_grammar.Rules.{Around}
use Rattle.walrus_named_bodies.specs.walrus_file_bodies.walrus_items_into.walrus_module_env.wasm_run_names.Picks.{block_pick}
use Rattle.walrus_named_bodies.specs.walrus_file_bodies.walrus_items_into.walrus_module_bodies.walrus_body_trees.walrus_meaning.walrus_linked.walrus_body_writer.walrus_pairing.wasm_operators.wasm_features.declared.WasmFeatures.{WasmFeatures}
use Rattle.walrus_named_bodies.specs.walrus_file_bodies.walrus_items_into.walrus_module_bodies.walrus_body_trees.walrus_meaning.walrus_linked.walrus_local_function.walrus_body_locals.walrus_body_nesting.wasm_formats.Formats.{Small}
use Rattle.walrus_named_bodies.specs.walrus_file_bodies.walrus_items_into.walrus_module_bodies.walrus_body_trees.walrus_meaning.walrus_linked.walrus_local_function.walrus_body_locals.wasm_normal_form.Trees.{tree_of}
use Rattle.walrus_named_bodies.specs.walrus_file_bodies.walrus_items_into.wasm_sections.Within.{ChunksFit}
use Rattle.walrus_arena.specs.Arena.{Arena}
use Rattle.walrus_named_bodies.specs.walrus_file_bodies.walrus_body_trees.Laws.{BodiesAreTrees, ops_of}
use Rattle.walrus_named_bodies.specs.walrus_item_names.walrus_module.walrus_builder.Functions.{seqs_of}
use Rattle.walrus_named_bodies.specs.walrus_file_bodies.Read.{Waits, env_is, env_of, ids_length, step_is_read, step_on}
use Rattle.walrus_forms.specs.declared.value.ValType.{ValType}
use Rattle.walrus_function_types.specs.FunctionTypes.{form_params, params_at}
use Rattle.walrus_function_types.specs.Growth.{EntryTypesGrow, FoundTypesStay, Grows, TablesGrowOn}
use Rattle.walrus_named_bodies.specs.walrus_file_bodies.walrus_items_into.walrus_functions_into.declared.bodies.FunctionBody.{FunctionBody}
use Rattle.walrus_named_bodies.specs.walrus_file_bodies.walrus_items_into.walrus_tables_into.walrus_sections_into.walrus_known_sections.Items.{chunk_of}
use Rattle.walrus_named_bodies.specs.walrus_file_bodies.walrus_items_into.walrus_module_bodies.walrus_body_trees.walrus_meaning.walrus_linked.walrus_local_function.declared.local_function.LocalFunction.{LocalFunction}
use Rattle.walrus_named_bodies.specs.walrus_file_bodies.walrus_module_bodies.Steps.{IsStep, State, Steps}
use Rattle.walrus_named_bodies.specs.walrus_file_bodies.walrus_module_bodies.declared.file.FileEnv.{FileEnv}
use Rattle.walrus_named_bodies.specs.walrus_file_bodies.walrus_items_into.walrus_module_env.Around.{sight_in}
use Rattle.walrus_named_bodies.specs.walrus_file_bodies.walrus_items_into.walrus_module_env.Parsed.{PicksAreSeen}
use Rattle.walrus_named_bodies.specs.walrus_file_bodies.walrus_items_into.walrus_module_bodies.walrus_body_trees.walrus_meaning.walrus_linked.walrus_module_items.declared.function.Function.{Function}
use Rattle.walrus_named_bodies.specs.walrus_file_bodies.walrus_items_into.walrus_module_bodies.walrus_body_trees.walrus_meaning.walrus_linked.walrus_module_items.declared.function.FunctionKind.TheVariants as kinds
use Rattle.walrus_named_bodies.specs.walrus_file_bodies.walrus_items_into.walrus_module_bodies.walrus_body_trees.walrus_meaning.walrus_linked.walrus_tree.Trees.{AreDistinct, IsTree}
use Rattle.walrus_named_bodies.specs.walrus_item_names.walrus_module.walrus_types.Items.{Item}
use Rattle.walrus_named_bodies.specs.walrus_item_names.walrus_module.walrus_types.Table.{Table, type_at}
use Rattle.walrus_parse_laws.proofs.PickLemmas.{stands_as_written}
use Rattle.walrus_parse_laws.proofs.BodiesSlotLemmas.{NoneOf, ids_distinct, set_cases}

-- a body, beside this table of types
pub record IsGood (t : Table) (local : LocalFunction) : Type 0 where
  pub distinct : AreDistinct local.args.items
  pub params : List ValType
  pub params_are : params_at t local.builder.ty ≡ Some params
  pub many : length local.args.items ≡ length params
  pub tree : IsTree (seqs_of local.builder) 0

-- the function of the slot has a body of which this holds
pub record HasBody (P : LocalFunction → Type 0) (slot : Option Function) : Type 0 where
  pub function : Function
  pub there : slot ≡ Some function
  pub local : LocalFunction
  pub kind : function.kind ≡ kinds.Local local
  pub good : P local

params_stay : FoundTypesStay → (old new : Table) (ty : ℕ) (ps : List ValType) → Grows old new → params_at old ty ≡ Some ps → params_at new ty ≡ Some ps
params_stay stay old new ty ps grows e = go (type_at old ty) refl e
  where
    go : (o : Option Item) → type_at old ty ≡ o → option_and_then (λ (item : Item). form_params item.kind.form) o ≡ Some ps → params_at new ty ≡ Some ps
    go None live e = absurd cc
    go (Some item) live e = ap (option_and_then (λ (item : Item). form_params item.kind.form)) ((stay old new grows).live ty item live) ∙ e

module _ (stay : FoundTypesStay) (on : TablesGrowOn) (enter : EntryTypesGrow) (trees : BodiesAreTrees) (seen : PicksAreSeen) (file : FileEnv) (features : WasmFeatures) (a : Around) (count : ℕ → ℕ) where
  pub step_good : (b : FunctionBody) (bs : List FunctionBody) (old new : State) (t : Table) → Small b.chunk.bytes.now → Waits file features a count old (b ∷ bs) → (s : IsStep file features b old new) → Grows new.types t → IsGood t s.body
  step_good b bs old new t small w s grows =
      let e = env_of file t in
      let read = step_is_read stay on enter file features a count b bs old new w s e t grows (env_is file t) in
      let parts : Parts = ((read.place, read.runs), read.ops) in
      let sight = sight_in e b.number new.ids in
      let filed = (step_on stay on enter file features a count b bs old new w s).filed t e new.ids.locals b.number grows (env_is file t) in
      let rules = (body a (length s.params) _).found b.chunk.bytes.now parts small read.read in
      record {
        distinct = subst AreDistinct (sym s.args_are) (ids_distinct (length old.locals) s.params);
        params = s.params;
        params_are = ap (params_at t) s.ty_is ∙ params_stay stay old.types t _ s.params (on old.types new.types t s.grown grows) s.params_are;
        many = ap length s.args_are ∙ ids_length (length old.locals) s.params;
        tree = trees a (length s.params) _ b.chunk.bytes.now parts (small, rules.0, rules.1) sight (seqs_of s.body.builder) (stands_as_written sight (block_pick a) _ (tree_of (ops_of parts)) (seen e new.ids b.number _ features a filed) read.stands);
      }

-- what holds of each body as it is read, where this holds before the bodies and after each, up to a last state
module _ (stay : FoundTypesStay) (on : TablesGrowOn) (enter : EntryTypesGrow) (file : FileEnv) (features : WasmFeatures) (a : Around) (count : ℕ → ℕ) (last : State) (I : State → Type 0) (P : LocalFunction → Type 0)
    (each : (b : FunctionBody) (bs : List FunctionBody) (old new : State) → Small b.chunk.bytes.now → Waits file features a count old (b ∷ bs) → (s : IsStep file features b old new) → Steps file features bs new last
    → I old → P s.body × I new) where
  -- the slot is as it was, and none of the bodies is of its function; or its function has such a body
  abbrev pub Ends : List FunctionBody → State → ℕ → Type 0
  Ends bs old n = ((slice_index_or last.functions.slots n None ≡ slice_index_or old.functions.slots n None) × NoneOf n bs) ⊎ HasBody P (slice_index_or last.functions.slots n None)

  pub steps_have : (start end : ℕ) (bs : List FunctionBody) (old : State) → ChunksFit start end (map (λ (b : FunctionBody). chunk_of b.chunk) bs) → Waits file features a count old bs → Steps file features bs old last → I old
      → (n : ℕ) → Ends bs old n
  steps_have start end [] old fit w e i n = inl (ap (λ (s : State). slice_index_or s.functions.slots n None) e, tt)
  steps_have start end (b ∷ bs) old fit w (mid, step, rest) i n =
      let y = record step.item { kind = kinds.Local step.body } in
      let given : mid.functions.slots ≡ slice_set old.functions.slots b.number (Some y) = ap (λ (x : Arena Function). x.slots) step.given in
      let there : slice_index_or mid.functions.slots n None ≡ slice_index_or (slice_set old.functions.slots b.number (Some y)) n None = ap (λ (l : List (Option Function)). slice_index_or l n None) given in
      let good = each b bs old mid fit.0.0 w step rest i in
      elim (steps_have start end bs mid fit.1 (step_on stay on enter file features a count b bs old mid w step) rest good.1 n) as (λ _. Ends (b ∷ bs) old n) [
        | inl h ↦ elim (set_cases old.functions.slots b.number n step.item y step.was) as (λ _. Ends (b ∷ bs) old n) [
          | inl set ↦ inr (record { function = y; there = h.0 ∙ there ∙ set.1; local = step.body; kind = refl; good = good.0 })
          | inr other ↦ inl (h.0 ∙ there ∙ other.1, (other.0, h.1))
        ]
        | inr g ↦ inr g
      ]
