-- Lemmas: the locals that walks of bodies that were read name are the module's.
use Rattle.std.specs.Prelude.{ℕ, ◌≡◌, ◌⊎◌, ◌<◌, List, [], ◌∷◌, Contains, length, map, Option, Some, None, slice_index_or, slice_set}
use Rattle.std.specs.List.{AllZip}
use Rattle.std.specs.Option.{option_map}
use Rattle.std.proofs.Common.{ap, sym, ◌∙◌, subst, inl, inr}
use Rattle.std.proofs.lemmas.Bool.{cases_eq}
use Rattle.walrus_arena.specs.Arena.{Arena}
use Rattle.walrus_named_bodies.specs.walrus_file_bodies.Ready.{bodies_in}
use Rattle.walrus_named_bodies.specs.walrus_file_bodies.walrus_body_trees.walrus_body_nesting.wasm_body_grammar.Rules.{Around}
use Rattle.walrus_named_bodies.specs.walrus_file_bodies.walrus_body_trees.walrus_body_nesting.wasm_body_grammar.wasm_grammar.Modules as grammar
use Rattle.walrus_named_bodies.specs.walrus_file_bodies.walrus_items_into.wasm_module_rules.wasm_modules.Modules.{around}
use Rattle.walrus_named_bodies.specs.walrus_file_bodies.walrus_items_into.walrus_functions_into.Functions.{kind_of}
use Rattle.walrus_named_bodies.specs.walrus_file_bodies.walrus_items_into.walrus_functions_into.declared.bodies.FunctionBody.{FunctionBody}
use Rattle.walrus_named_bodies.specs.walrus_file_bodies.walrus_items_into.walrus_module_bodies.walrus_body_trees.walrus_meaning.Bodies.{named_locals, own_operators}
use Rattle.walrus_named_bodies.specs.walrus_file_bodies.walrus_items_into.walrus_module_bodies.walrus_body_trees.walrus_meaning.walrus_linked.Linked.{IsWhole}
use Rattle.walrus_named_bodies.specs.walrus_file_bodies.walrus_items_into.walrus_module_bodies.walrus_body_trees.walrus_meaning.walrus_linked.walrus_body_writer.walrus_pairing.wasm_operators.wasm_features.declared.WasmFeatures.{WasmFeatures}
use Rattle.walrus_named_bodies.specs.walrus_file_bodies.walrus_items_into.walrus_module_bodies.walrus_body_trees.walrus_meaning.walrus_linked.walrus_local_function.declared.local_function.LocalFunction.{LocalFunction}
use Rattle.walrus_named_bodies.specs.walrus_file_bodies.walrus_items_into.walrus_module_bodies.walrus_body_trees.walrus_meaning.walrus_linked.walrus_module_items.declared.function.Function.{Function}
use Rattle.walrus_named_bodies.specs.walrus_file_bodies.walrus_items_into.walrus_module_bodies.walrus_body_trees.walrus_meaning.walrus_linked.walrus_module_items.declared.function.FunctionKind.{FunctionKind}
use Rattle.walrus_named_bodies.specs.walrus_file_bodies.walrus_items_into.walrus_module_bodies.walrus_body_trees.walrus_meaning.walrus_linked.walrus_module_items.declared.function.FunctionKind.TheVariants as kinds
use Rattle.walrus_named_bodies.specs.walrus_file_bodies.walrus_items_into.walrus_module_bodies.walrus_body_trees.walrus_meaning.walrus_module.Parts.{parts}
use Rattle.walrus_named_bodies.specs.walrus_file_bodies.walrus_items_into.walrus_tables_into.walrus_sections_into.walrus_known_sections.State.{state_of}
use Rattle.walrus_named_bodies.specs.walrus_file_bodies.walrus_module_bodies.Steps.{State, Steps, state}
use Rattle.walrus_named_bodies.specs.walrus_file_bodies.walrus_module_bodies.declared.file.FileEnv.{FileEnv}
use Rattle.walrus_named_bodies.specs.walrus_item_names.Holder.{Holder}
use Rattle.walrus_named_bodies.specs.walrus_item_names.Names.{bare_function}
use Rattle.walrus_named_bodies.specs.Parsed.{read_features}
use Rattle.walrus_pass_laws.specs.Locals.{WalksNameUsedLocals}
use Rattle.walrus_parse_laws.specs.Linked.{WalksOfReadBodiesNameLocals}
use Rattle.walrus_parse_laws.specs.Locals.{HasLocals, ReadBodiesHaveTheirLocals}
use Rattle.walrus_parse_laws.specs.Whole.{ReadFunctionsAreWhole}
use Rattle.walrus_parse_laws.proofs.BodiesSlotLemmas.{NoneOf, read_kind, set_cases}
use Rattle.walrus_parse_laws.proofs.ListLemmas.{some_is}
use Rattle.walrus_parse_laws.proofs.WholeLemmas.{bare_same, kind_at}

-- ---- a body, or none, is the function's

local_is : (x y : LocalFunction) → kinds.Local x ≡ kinds.Local y → x ≡ y
local_is x y e = cc

module _ (P : FunctionBody → grammar.Body → Type 0) (n : ℕ) where
  -- it is of the function
  abbrev Of : Type 0
  Of = (b : FunctionBody) × (x : grammar.Body) × (b.number ≡ n) × P b x

  one_of : (bs : List FunctionBody) (xs : List grammar.Body) → AllZip P bs xs → NoneOf n bs ⊎ Of
  one_of [] [] h = inl tt
  one_of [] (x ∷ xs) h = absurd h
  one_of (b ∷ bs) [] h = absurd h
  one_of (b ∷ bs) (x ∷ xs) h = elim (cases_eq b.number n) as (λ _. NoneOf n (b ∷ bs) ⊎ Of) [
    | inl is ↦ inr (b, x, is, h.0)
    | inr other ↦ elim (one_of bs xs h.1) as (λ _. NoneOf n (b ∷ bs) ⊎ Of) [ inl none ↦ inl (other, none) | inr of ↦ inr of ]
  ]

-- a function that none of the bodies is of stays
slots_stay : (file : FileEnv) (features : WasmFeatures) (n : ℕ) (bs : List FunctionBody) (old new : State) → Steps file features bs old new → NoneOf n bs
    → slice_index_or new.functions.slots n None ≡ slice_index_or old.functions.slots n None
slots_stay file features n [] old new e none = ap (λ (s : State). slice_index_or s.functions.slots n None) e
slots_stay file features n (b ∷ bs) old new (mid, step, rest) none =
    let y = record step.item { kind = kinds.Local step.body } in
    let given : mid.functions.slots ≡ slice_set old.functions.slots b.number (Some y) = ap (λ (x : Arena Function). x.slots) step.given in
    let there : slice_index_or mid.functions.slots n None ≡ slice_index_or (slice_set old.functions.slots b.number (Some y)) n None = ap (λ (l : List (Option Function)). slice_index_or l n None) given in
    slots_stay file features n bs mid new rest none.1 ∙ there
    ∙ elim (set_cases old.functions.slots b.number n step.item y step.was) as (λ _. slice_index_or (slice_set old.functions.slots b.number (Some y)) n None ≡ slice_index_or old.functions.slots n None) [
      | inl set ↦ absurd (none.0 (sym set.0))
      | inr other ↦ other.1
    ]

-- and one that is imported, or wants a body, has none
no_local : (kind : FunctionKind) (ty : ℕ) (import : Option ℕ) (local : LocalFunction) → kind ≡ kinds.Local local → kind ≡ kind_of ty import → ⊥
no_local kind ty None local own e = cc
no_local kind ty (Some n) local own e = cc

pub walks_inside : {B : Type 0} → ReadBodiesHaveTheirLocals B → ReadFunctionsAreWhole B → WalksNameUsedLocals → WalksOfReadBodiesNameLocals B
walks_inside {B} have whole walks config bytes m found small is f function local there kind id c = go (one_of (HasLocals (parts m) found a) f bs is.1.bodies (have config bytes m found small is))
  where
    a : Around
    a = around (read_features config) (state_of is.1.sections)

    bs : List FunctionBody
    bs = bodies_in is.1.sections is.1.filled.functions

    named : Contains (named_locals (own_operators local)) id
    named = walks local (subst (IsWhole m.types) kind (whole config bytes m found small is f function there)).1 id c

    go : NoneOf f bs ⊎ Of (HasLocals (parts m) found a) f → id < length m.locals
    go (inl none) =
        let funcs : map (option_map bare_function) m.funcs.slots ≡ map (option_map bare_function) is.1.bodied.functions.slots = ap (λ (x : Holder). x.funcs.slots) is.1.names.same in
        let slot = slice_index_or is.1.bodied.functions.slots f None in
        let same = kind_at function slot (sym (ap (option_map bare_function) there) ∙ bare_same bare_function m.funcs.slots is.1.bodied.functions.slots f funcs) in
        let stays = slots_stay is.1.file (read_features config) f bs (state is.1.filled.types [] is.1.numbers is.1.filled.functions) is.1.bodied is.1.bodies_are none in
        let read = read_kind is.1.numbers.types 0 f is.1.sections.functions.items same.function
        (ap (λ (l : List (Option Function)). slice_index_or l f None) (sym is.1.are_filled.functions) ∙ sym stays ∙ same.there) in
        absurd (no_local same.function.kind _ read.0.import local (same.kind_is ∙ kind) read.1)
    go (inr (b, x, number, has)) =
        let alike : has.function ≡ function = some_is has.function function (sym has.there ∙ ap (λ (n : ℕ). slice_index_or m.funcs.slots n None) number ∙ there) in
        let one : has.local ≡ local = local_is has.local local (sym has.kind ∙ ap (λ (x : Function). x.kind) alike ∙ kind) in
        has.inside id (subst (λ (l : LocalFunction). Contains (named_locals (own_operators l)) id) (sym one) named)
