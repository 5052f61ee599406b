-- Lemmas: the slots of functions that get bodies.
use Rattle.std.specs.Prelude.{ℕ, zero, suc, ◌≡◌, ◌≢◌, ◌⊎◌, ◌<◌, ◌+◌, Bool, true, false, List, [], ◌∷◌, map, Option, Some, None, slice_index_or, slice_set, refl, if◌then◌else◌}
use Rattle.std.proofs.Common.{ap, sym, arith, inl, inr}
use Rattle.walrus_forms.specs.Renaming.{at}
use Rattle.walrus_forms.specs.declared.value.ValType.{ValType}
use Rattle.walrus_named_bodies.specs.walrus_file_bodies.walrus_items_into.walrus_module_bodies.walrus_body_trees.walrus_meaning.walrus_linked.walrus_local_function.walrus_body_locals.Locals.{ids_from}
use Rattle.walrus_named_bodies.specs.walrus_file_bodies.walrus_items_into.walrus_functions_into.Bodies.{bodiless_from, wants_body}
use Rattle.walrus_named_bodies.specs.walrus_file_bodies.walrus_items_into.walrus_functions_into.Functions.{functions_from, kind_of}
use Rattle.walrus_named_bodies.specs.walrus_file_bodies.walrus_items_into.walrus_functions_into.declared.bodies.FunctionBody.{FunctionBody}
use Rattle.walrus_named_bodies.specs.walrus_file_bodies.walrus_items_into.walrus_tables_into.walrus_sections_into.walrus_known_sections.declared.items.Function.{Function as ReadFunction}
use Rattle.walrus_named_bodies.specs.walrus_file_bodies.walrus_items_into.walrus_module_bodies.walrus_body_trees.walrus_meaning.walrus_linked.walrus_module_items.declared.function.Function.{Function}
use Rattle.walrus_named_bodies.specs.walrus_file_bodies.walrus_items_into.walrus_module_bodies.walrus_body_trees.walrus_meaning.walrus_linked.walrus_module_items.declared.function.FunctionKind.{FunctionKind}
use Rattle.walrus_named_bodies.specs.walrus_file_bodies.walrus_items_into.walrus_module_bodies.walrus_body_trees.walrus_meaning.walrus_linked.walrus_tree.Trees.{AreDistinct, Has}

-- ---- ids one behind another are distinct

above : (id n j : ℕ) (tys : List ValType) → j < id → Has (ids_from id tys) j → ⊥
above id n j [] lt h = h
above id n j (ty ∷ tys) lt (inl e) = absurd (omega (arith, lt, e))
above id n j (ty ∷ tys) lt (inr h) = above (suc id) n j tys (omega (arith, lt)) h

pub ids_distinct : (id : ℕ) (tys : List ValType) → AreDistinct (ids_from id tys)
ids_distinct id [] = tt
ids_distinct id (ty ∷ tys) = (above (suc id) 0 id tys (omega arith), ids_distinct (suc id) tys)

-- ---- a slot that is set

pub set_cases : (slots : List (Option Function)) (k n : ℕ) (x y : Function) → slice_index_or slots k None ≡ Some x
    → ((n ≡ k) × (slice_index_or (slice_set slots k (Some y)) n None ≡ Some y)) ⊎ ((k ≢ n) × (slice_index_or (slice_set slots k (Some y)) n None ≡ slice_index_or slots n None))
set_cases [] k n x y e = absurd cc
set_cases (slot ∷ slots) zero zero x y e = inl (refl, refl)
set_cases (slot ∷ slots) zero (suc n) x y e = inr ((λ is. absurd (omega (arith, is))), refl)
set_cases (slot ∷ slots) (suc k) zero x y e = inr ((λ is. absurd (omega (arith, is))), refl)
set_cases (slot ∷ slots) (suc k) (suc n) x y e = elim (set_cases slots k n x y e) [
  | inl h ↦ inl (ap suc h.0, h.1)
  | inr h ↦ inr ((λ is. h.0 (omega (arith, is))), h.1)
]

-- ---- functions without bodies

pub wanted : (slots : List (Option Function)) (id k n : ℕ) → wants_body (slice_index_or slots k None) ≡ true → n ≡ id + k → Has (bodiless_from id slots) n
wanted [] id k n w is = absurd cc
wanted (slot ∷ slots) id zero n w is = first (wants_body slot) w
  where
    first : (b : Bool) → b ≡ true → Has (if b then id ∷ bodiless_from (suc id) slots else bodiless_from (suc id) slots) n
    first true e = inl (omega (arith, is))
    first false e = absurd cc
wanted (slot ∷ slots) id (suc k) n w is = later (wants_body slot) (wanted slots (suc id) k n w (omega (arith, is)))
  where
    later : (b : Bool) → Has (bodiless_from (suc id) slots) n → Has (if b then id ∷ bodiless_from (suc id) slots else bodiless_from (suc id) slots) n
    later true h = inr h
    later false h = h

-- none of these bodies is of the function
abbrev pub NoneOf : ℕ → List FunctionBody → Type 0
NoneOf n [] = Unit {0}
NoneOf n (b ∷ bs) = (b.number ≢ n) × NoneOf n bs

pub none_has : (n : ℕ) (bs : List FunctionBody) → NoneOf n bs → Has (map (λ (b : FunctionBody). b.number) bs) n → ⊥
none_has n [] none h = h
none_has n (b ∷ bs) none (inl e) = none.0 e
none_has n (b ∷ bs) none (inr h) = none_has n bs none.1 h

abbrev kind_in : Option Function → FunctionKind → FunctionKind
kind_in None k = k
kind_in (Some f) k = f.kind

-- a function of the file is imported, or wants a body
pub read_kind : (types : List ℕ) (id n : ℕ) (reads : List ReadFunction) (f : Function) → slice_index_or (functions_from types id reads) n None ≡ Some f
    → (read : ReadFunction) × (f.kind ≡ kind_of (at types read.ty) read.import)
read_kind types id n [] f e = absurd cc
read_kind types id zero (r ∷ reads) f e = (r, sym (ap (λ (o : Option Function). kind_in o (kind_of (at types r.ty) r.import)) e))
read_kind types id (suc n) (r ∷ reads) f e = read_kind types (suc id) n reads f e
