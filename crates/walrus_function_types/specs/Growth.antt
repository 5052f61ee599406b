-- Tables of types that grow.
use Rattle.std.specs.Prelude.{◌≡◌, ◌≢◌, ℕ, ◌≤◌, Bool, false, List, ◌++◌, Option, Some}
use Rattle.walrus_types.specs.walrus_forms.declared.value.ValType.{ValType}
use Rattle.walrus_types.specs.walrus_forms.Kinds.{entry_kind}
use Rattle.walrus_types.specs.Items.{Item}
use Rattle.walrus_types.specs.Table.{Merges, Table, found_type, next_id, type_at}

-- the table has more types behind those before; none of them, entry types aside, is of the kind of one of those
pub record Grows (old new : Table) : Type 0 where
  pub more : List (Option Item)
  pub behind : new.types ≡ old.types ++ more
  pub apart : (id other : ℕ) (x y : Item) → type_at old id ≡ Some x → next_id old ≤ other → type_at new other ≡ Some y → y.kind.entry ≡ false → x.kind ≢ y.kind

abbrev pub TablesGrowOn : Type 0
TablesGrowOn = (t v w : Table) → Grows t v → Grows v w → Grows t w

-- what lives lives on, and what is found by parameters and results is found again
pub record Stays (old new : Table) : Type 0 where
  pub live : (id : ℕ) (item : Item) → type_at old id ≡ Some item → type_at new id ≡ Some item
  pub found : (params results : List ValType) (id : ℕ) → found_type params results old ≡ Some id → found_type params results new ≡ Some id

abbrev pub FoundTypesStay : Type 0
FoundTypesStay = (t v : Table) → Grows t v → Stays t v

abbrev pub EntryTypesGrow : Type 0
EntryTypesGrow = (results : List ValType) (id : ℕ) (t v : Table) → Merges (entry_kind results) id t v → Grows t v
