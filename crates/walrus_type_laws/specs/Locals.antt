-- The locals of a module and the ids by which they are found.
use Rattle.std.specs.Prelude.{◌≡◌, ℕ, List, [], ◌∷◌, ◌++◌, length, None, Some, slice_get, slice_set}
use Rattle.walrus_forms.specs.declared.value.ValType.{ValType}
use Rattle.walrus_items.specs.declared.local.Local.{Local}

-- a local's own id is the id by which it is found
abbrev pub LocalsHaveOwnIds : List Local → Type 0
LocalsHaveOwnIds locals = (id : ℕ) (local : Local) → slice_get locals id ≡ Some local → local.id ≡ id

-- one call changed the locals, or left them. A local that was lent for writing kept its id.
pub data LocalEdit (old new : List Local) : Type 0 where
  LocalStays : new ≡ old → LocalEdit old new
  LocalAdded : (ty : ValType) → new ≡ old ++ record { id = length old; ty = ty; name = None } ∷ [] → LocalEdit old new
  LocalWritten : (id : ℕ) (x y : Local) → slice_get old id ≡ Some x → y.id ≡ x.id → new ≡ slice_set old id y → LocalEdit old new

-- locals keep the ids by which they are found
pub record LocalIdsAreKept : Type 0 where
  pub begins : LocalsHaveOwnIds []
  pub keeps : (old new : List Local) → LocalEdit old new → LocalsHaveOwnIds old → LocalsHaveOwnIds new
