-- Lemmas: functions of modules that are read have their own ids, as their bodies are given to them where they are.
use Rattle.std.specs.Prelude.{ℕ, zero, suc, ◌+◌, ◌≡◌, ◌⊎◌, List, [], ◌∷◌, Option, Some, None, slice_index_or, slice_set, refl}
use Rattle.std.proofs.Common.{ap, sym, ◌∙◌, subst, arith, inl, inr}
use Rattle.std.proofs.lemmas.Option.{none-some, same_Some}
use Rattle.walrus_arena.specs.Arena.{Arena, item_at, with_item}
use Rattle.walrus_items_into.specs.walrus_functions_into.Functions.{function_as, functions_from}
use Rattle.walrus_items_into.specs.walrus_functions_into.declared.bodies.FunctionBody.{FunctionBody}
use Rattle.walrus_items_into.specs.walrus_module_bodies.Steps.{IsStep, State, Steps}
use Rattle.walrus_items_into.specs.walrus_module_bodies.declared.file.FileEnv.{FileEnv}
use Rattle.walrus_items_into.specs.walrus_tables_into.walrus_sections_into.walrus_known_sections.declared.items.Function.{Function as ReadFunction}
use Rattle.walrus_item_names.specs.Holder.{Holder}
use Rattle.walrus_item_names.specs.Names.{bare_function}
use Rattle.walrus_item_names.specs.walrus_module.walrus_body_writer.walrus_pairing.wasm_operators.wasm_features.declared.WasmFeatures.{WasmFeatures}
use Rattle.walrus_linked.specs.OwnIds.{HaveOwnIds}
use Rattle.walrus_module_items.specs.declared.function.Function.{Function}
use Rattle.walrus_own_ids_laws.specs.OwnIds.{KeptFunctionsHaveOwnIds, ReadFunctionsHaveOwnIds}
use Rattle.walrus_own_ids_laws.proofs.Slots.{named_own}

-- each function of the arena has the id by which it is found
abbrev Own : Arena Function → Type 0
Own a = HaveOwnIds (λ (f : Function). f.id) a

-- ---- as they were added

added_own : (types : List ℕ) (first : ℕ) (reads : List ReadFunction) (n : ℕ) (f : Function) → slice_index_or (functions_from types first reads) n None ≡ Some f → f.id ≡ first + n
added_own types first [] n f e = absurd (none-some f e)
added_own types first (r ∷ reads) zero f e =
    let here : first ≡ first + 0 = omega arith in subst (λ (x : Function). x.id ≡ first + 0) (same_Some (function_as types first r) f e) here
added_own types first (r ∷ reads) (suc n) f e = let later = added_own types (suc first) reads n f e in omega (arith, later)

filled_own : (types : List ℕ) (reads : List ReadFunction) (a : Arena Function) → a.slots ≡ functions_from types 0 reads → Own a
filled_own types reads a are id f e = let at = added_own types 0 reads id f (sym (ap (λ (slots : List (Option Function)). slice_index_or slots id None) are) ∙ e) in omega (arith, at)

-- ---- given bodies

set_at : (slots : List (Option Function)) (k n : ℕ) (y x : Function) → slice_index_or (slice_set slots k (Some y)) n None ≡ Some x
    → (slice_index_or slots n None ≡ Some x) ⊎ ((n ≡ k) × (y ≡ x))
set_at [] k n y x e = absurd (none-some x e)
set_at (slot ∷ slots) zero zero y x e = inr (refl, same_Some y x e)
set_at (slot ∷ slots) zero (suc n) y x e = inl e
set_at (slot ∷ slots) (suc k) zero y x e = inl e
set_at (slot ∷ slots) (suc k) (suc n) y x e = elim (set_at slots k n y x e) [
  | inl h ↦ inl h
  | inr h ↦ inr (ap suc h.0, h.1)
]

given_own : (old new : Arena Function) (k : ℕ) (was is : Function) → item_at old k ≡ Some was → is.id ≡ was.id → new ≡ with_item old k is → Own old → Own new
given_own old new k was is there same given own id f e =
    elim (set_at old.slots k id is f (sym (ap (λ (a : Arena Function). item_at a id) given) ∙ e)) as (λ _. f.id ≡ id) [
      | inl h ↦ own id f h
      | inr h ↦ ap (λ (x : Function). x.id) (sym h.1) ∙ same ∙ own k was there ∙ sym h.0
    ]

step_own : (file : FileEnv) (features : WasmFeatures) (b : FunctionBody) (old new : State) → IsStep file features b old new → Own old.functions → Own new.functions
step_own file features b old new s own = given_own old.functions new.functions b.number s.item _ s.was refl s.given own

steps_own : (file : FileEnv) (features : WasmFeatures) (bs : List FunctionBody) (old new : State) → Steps file features bs old new → Own old.functions → Own new.functions
steps_own file features [] old new are own = subst (λ (s : State). Own s.functions) (sym are) own
steps_own file features (b ∷ bs) old new are own = steps_own file features bs are.0 new are.2 (step_own file features b old are.0 are.1 own)

-- ---- the laws

pub read_functions_have_own_ids : {B : Type 0} → ReadFunctionsHaveOwnIds B
read_functions_have_own_ids config bytes m is =
    let whole = is.1.1 in
    named_own bare_function (λ (f : Function). f.id) (λ f. refl) whole.bodied.functions m.funcs (ap (λ (h : Holder). h.funcs) whole.names.same)
    (steps_own _ _ _ _ whole.bodied whole.bodies_are (filled_own _ _ whole.filled.functions whole.are_filled.functions))

pub kept_functions_have_own_ids : KeptFunctionsHaveOwnIds
kept_functions_have_own_ids m pushed n part own id f e = own id f (part.funcs.only id f e)
