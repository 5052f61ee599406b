-- Functions of a file in a module: those that an import brings, and those that have a type and no body yet.
use Rattle.std.specs.Prelude.{ℕ, suc, ◌<◌, ◌≤◌, ◌≡◌, List, [], ◌∷◌, ◌++◌, length, All, Option, Some, None}
use Rattle.std.specs.List.{range_with_len}
use Rattle.walrus_arena.specs.Arena.{Arena, next_id}
use Rattle.walrus_collections.specs.walrus_tree.walrus_walks.walrus_types.walrus_forms.Renaming.{at}
use Rattle.walrus_index_maps.specs.Maps.{Ids}
use Rattle.walrus_collections.specs.walrus_module_items.declared.function.Function.{Function}
use Rattle.walrus_collections.specs.walrus_module_items.declared.function.FunctionKind.{FunctionKind}
use Rattle.walrus_collections.specs.walrus_module_items.declared.function.FunctionKind.TheVariants.{Import, Uninitialized}
use Rattle.walrus_types_into.specs.walrus_known_sections.declared.items.Function.{Function as ReadFunction}

-- of this type, and brought by this import; where none brings it, it has no body yet
abbrev pub kind_of : ℕ → Option ℕ → FunctionKind
kind_of ty None = Uninitialized ty
kind_of ty (Some import) = Import (record { import = import; ty = ty })

-- what a function that was read is under this id, where the numbers of types name these ids
abbrev pub function_as : List ℕ → ℕ → ReadFunction → Function
function_as types id read = record { id = id; kind = kind_of (at types read.ty) read.import; name = None }

-- the slots of several, whose ids are this one and those behind it
abbrev pub functions_from : List ℕ → ℕ → List ReadFunction → List (Option Function)
functions_from types id [] = []
functions_from types id (read ∷ reads) = Some (function_as types id read) ∷ functions_from types (suc id) reads

-- each names a type
abbrev pub AreTyped : List ℕ → List ReadFunction → Type 0
AreTyped types reads = All (λ (f : ReadFunction). f.ty < length types) reads

-- the map with so many functions behind those before: this id, and those behind it
abbrev pub with_functions : ℕ → ℕ → Ids → Ids
with_functions first count m = record m { functions = m.functions ++ range_with_len first count }

-- the functions with some of those that were read, the first ones
abbrev pub AddsFunctions : List ℕ → List ReadFunction → Arena Function → Arena Function → Type 0
AddsFunctions types reads old new = (front later : List ReadFunction) × (reads ≡ front ++ later) × (new.slots ≡ old.slots ++ functions_from types (next_id old) front)

-- the map with some of so many ids, the first ones
abbrev pub NumbersSome : ℕ → ℕ → Ids → Ids → Type 0
NumbersSome first count old new = (some : ℕ) × (some ≤ count) × (new ≡ with_functions first some old)
