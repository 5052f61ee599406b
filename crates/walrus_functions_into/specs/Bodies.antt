-- The order of bodies: the functions that have none get them in turn.
use Rattle.std.specs.Prelude.{ℕ, suc, Bool, true, false, List, [], ◌∷◌, Option, Some, None, if◌then◌else◌}
use Rattle.walrus_arena.specs.Arena.{Arena}
use Rattle.walrus_collections.specs.walrus_module_items.declared.function.Function.{Function}
use Rattle.walrus_collections.specs.walrus_module_items.declared.function.FunctionKind.{FunctionKind}
use Rattle.walrus_collections.specs.walrus_module_items.declared.function.FunctionKind.TheVariants.{Import, Local, Uninitialized}
use Rattle.walrus_types_into.specs.walrus_known_sections.declared.items.Chunk.{Chunk}
use Rattle.walrus_functions_into.specs.declared.bodies.FunctionBody.{FunctionBody}

abbrev pub is_bodiless : FunctionKind → Bool
is_bodiless (Import imported) = false
is_bodiless (Local local) = false
is_bodiless (Uninitialized ty) = true

-- there is a function, and it has no body yet
abbrev pub wants_body : Option Function → Bool
wants_body None = false
wants_body (Some f) = is_bodiless f.kind

-- the ids of those that have no body yet, where the first slot has this id
abbrev pub bodiless_from : ℕ → List (Option Function) → List ℕ
bodiless_from id [] = []
bodiless_from id (slot ∷ slots) = if wants_body slot then id ∷ bodiless_from (suc id) slots else bodiless_from (suc id) slots

abbrev pub bodiless : Arena Function → List ℕ
bodiless a = bodiless_from 0 a.slots

-- ids and bodies in turn, as long as there are both
abbrev pub paired : List ℕ → List Chunk → List FunctionBody
paired (id ∷ ids) (chunk ∷ chunks) = record { number = id; chunk = chunk } ∷ paired ids chunks
paired _ _ = []
