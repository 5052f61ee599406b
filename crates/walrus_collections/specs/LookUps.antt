-- Collections as finite maps from live ids to items: their items, and look-ups.
use Rattle.std.specs.Prelude.{ℕ, Bool, List, [], ◌∷◌, map, find, Option, Some, None}
use Rattle.walrus_arena.specs.Arena.{Arena, entries}
use Rattle.walrus_module_items.specs.walrus_local_function.declared.local_function.LocalFunction.{LocalFunction}
use Rattle.walrus_module_items.specs.declared.function.Function.{Function}
use Rattle.walrus_module_items.specs.Functions.{local_of}

module _ {T : Type 0} where
  -- the live items, by rising id
  abbrev pub items : Arena T → List T
  items a = map (λ e. e.1) (entries a)

  -- the lowest live id whose item passes the test, with that item
  abbrev pub lowest : (T → Bool) → Arena T → Option (ℕ × T)
  lowest test a = find (λ e. test e.1) (entries a)

-- those of these functions that have a body, with their ids
abbrev pub local_entries : List (ℕ × Function) → List (ℕ × LocalFunction)
local_entries [] = []
local_entries (e ∷ es) = with_body e.0 (local_of e.1.kind) (local_entries es)
  where
    with_body : ℕ → Option LocalFunction → List (ℕ × LocalFunction) → List (ℕ × LocalFunction)
    with_body id (Some local) rest = (id, local) ∷ rest
    with_body id None rest = rest
