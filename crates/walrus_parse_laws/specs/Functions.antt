-- Functions, as they were read and in a module.
use Rattle.std.specs.Prelude.{ℕ, ◌≡◌, List, ◌++◌, Some, slice_get}
use Rattle.walrus_arena.specs.Arena.{Arena, next_id}
use Rattle.walrus_named_bodies.specs.walrus_file_bodies.walrus_items_into.walrus_module_bodies.walrus_body_trees.walrus_meaning.walrus_linked.walrus_module_items.declared.function.Function.{Function}
use Rattle.walrus_named_bodies.specs.walrus_file_bodies.walrus_items_into.walrus_module_bodies.walrus_body_trees.walrus_meaning.walrus_linked.walrus_module_items.Functions.{type_of}
use Rattle.walrus_named_bodies.specs.walrus_file_bodies.walrus_items_into.walrus_tables_into.walrus_sections_into.walrus_known_sections.declared.items.Function.{Function as ReadFunction}
use Rattle.walrus_named_bodies.specs.walrus_file_bodies.walrus_items_into.walrus_tables_into.walrus_sections_into.walrus_pairing.Looks.{Look}
use Rattle.walrus_named_bodies.specs.walrus_file_bodies.walrus_items_into.walrus_tables_into.walrus_sections_into.wasm_operators.Items.{Types}
use Rattle.walrus_named_bodies.specs.walrus_file_bodies.walrus_items_into.walrus_tables_into.walrus_sections_into.Slots.{Filled}
use Rattle.walrus_named_bodies.specs.walrus_file_bodies.walrus_items_into.walrus_functions_into.Functions.{AreTyped, functions_from, kind_of}

-- of the type that is named, brought by the same import; where none brings it, it has no body yet; its id is its slot
pub record IsFunctionOf (look : Look) (slot : ℕ) (read : ReadFunction) (f : Function) : Type 0 where
  pub id : f.id ≡ slot
  pub ty : look Types read.ty ≡ Some (type_of f.kind)
  pub kind : f.kind ≡ kind_of (type_of f.kind) read.import

-- functions that were added fill the slots behind those that were there with what was read
abbrev pub FunctionsFill : Type 0
FunctionsFill = (look : Look) (types : List ℕ) (reads : List ReadFunction) (old new : Arena Function) → ((n : ℕ) → look Types n ≡ slice_get types n) → AreTyped types reads
    → new.slots ≡ old.slots ++ functions_from types (next_id old) reads → Filled (IsFunctionOf look) reads old.slots new.slots
