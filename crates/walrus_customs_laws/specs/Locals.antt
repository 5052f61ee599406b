-- The names of locals that are written are those that the module has, each by its place among the locals of its function (Core Specification, appendix Custom
-- Sections: name section).
use Rattle.std.specs.Prelude.{ℕ, suc, ◌≡◌, ◌+◌, List, [], ◌∷◌, ◌++◌, length, map, Option, Some, None, slice_get, if◌then◌else◌}
use Rattle.std.specs.List.{AllByRecursion}
use Rattle.std.specs.List.Sorted.{IsStrictlySortedBy}
use Rattle.std.specs.Ordering.{nat_cmp}
use Rattle.wasm_name_payloads.specs.Written.{NameMap}
use Rattle.wasm_rewritten.specs.Customs.{function_if, names_from}
use Rattle.walrus_arena.specs.Arena.{Arena, item_at}
use Rattle.walrus_index_maps.specs.Maps.{Indices}
use Rattle.walrus_items.specs.declared.local.Local.{Local}
use Rattle.walrus_tree.specs.Trees.{AreDistinct}
use Rattle.walrus_local_function.specs.declared.local_function.LocalFunction.{LocalFunction}
use Rattle.walrus_local_numbers.specs.Declared.{has_number, local_ids}
use Rattle.walrus_module_items.specs.Functions.{local_of}
use Rattle.walrus_module_items.specs.declared.function.Function.{Function}
use Rattle.walrus_emit_numbers.specs.declared.facts.BodyFacts.{BodyFacts}
use Rattle.walrus_emit_code.specs.Code.{bodies_numbers}
use Rattle.walrus_emit_customs.specs.Names.{local_name, local_names, used_names}
use Rattle.walrus_customs_laws.specs.Items.{Lists}

-- ---- of one body

-- the name of a local that is among these
abbrev pub used_name : List Local → List ℕ → ℕ → Option (List ℕ)
used_name locals used id = if has_number used id then local_name locals id else None

-- where its locals have their places in this list as their numbers
abbrev pub UsedNamesAreListed : Type 0
UsedNamesAreListed = (locals : List Local) (i : Indices) (body : BodyFacts) (ids : List ℕ) → IsStrictlySortedBy nat_cmp body.used_locals.items
    → Lists ids (i.locals body.function) (used_name locals body.used_locals.items) → used_names locals i body ≡ names_from (used_name locals body.used_locals.items) 0 ids

-- ---- of bodies

-- the names of the locals of functions, which are numbered from here on
abbrev pub locals_from : (ℕ → NameMap) → ℕ → List ℕ → List (ℕ × NameMap)
locals_from names i [] = []
locals_from names i (f ∷ fs) = function_if i (names f) ++ locals_from names (suc i) fs

-- behind functions without such names
abbrev pub LocalNamesAreListed : Type 0
LocalNamesAreListed = (locals : List Local) (i : Indices) (names : ℕ → NameMap) (front : List ℕ) (bodies : List BodyFacts) → AllByRecursion (λ (f : ℕ). names f ≡ []) front
    → ((n : ℕ) (body : BodyFacts) → slice_get bodies n ≡ Some body → i.functions.number body.function ≡ Some (length front + n))
    → AllByRecursion (λ (body : BodyFacts). used_names locals i body ≡ names body.function) bodies
    → local_names locals i bodies ≡ locals_from names 0 (front ++ map (λ (body : BodyFacts). body.function) bodies)

-- ---- the numbers that locals have once bodies are written

-- the function has a body
pub record IsBodyOf (functions : Arena Function) (body : BodyFacts) (local : LocalFunction) : Type 0 where
  pub function : Function
  pub there : item_at functions body.function ≡ Some function
  pub is_local : local_of function.kind ≡ Some local

-- a list's places are the numbers
pub record ArePlaces (ids : List ℕ) (number : ℕ → Option ℕ) : Type 0 where
  pub has : (id n : ℕ) → slice_get ids n ≡ Some id → number id ≡ Some n
  pub told : (id n : ℕ) → number id ≡ Some n → slice_get ids n ≡ Some id

-- no local has one before, and no function has two bodies
abbrev pub LocalsAreNumbered : Type 0
LocalsAreNumbered = (locals : List Local) (functions : Arena Function) (i : Indices) (bodies : List BodyFacts) → ((f id : ℕ) → i.locals f id ≡ None) → AreDistinct (map (λ (body : BodyFacts). body.function) bodies)
    → (n : ℕ) (body : BodyFacts) (local : LocalFunction) → slice_get bodies n ≡ Some body → IsBodyOf functions body local → AreDistinct (local_ids locals local.args.items body.used_locals.items)
    → ArePlaces (local_ids locals local.args.items body.used_locals.items) ((bodies_numbers locals functions i bodies).locals body.function)
