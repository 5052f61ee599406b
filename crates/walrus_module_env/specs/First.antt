-- The types of a file before all others of a table.
use Rattle.std.specs.Prelude.{◌≡◌, ℕ, ◌<◌, ◌≤◌, false, List, Some}
use Rattle.walrus_forms.specs.Kinds.{Kind}
use Rattle.walrus_function_types.specs.Growth.{Grows}
use Rattle.walrus_handler_types.specs.walrus_tree.walrus_walks.walrus_types.Items.{Item}
use Rattle.walrus_handler_types.specs.walrus_tree.walrus_walks.walrus_types.Table.{Table, next_id, type_at}
use Rattle.walrus_module_env.specs.Filled.{AreFiled}

-- the file's types have the first ids of the table, and none of them is an entry type
pub record AreFirst (kinds : List Kind) (ids : List ℕ) (own : ℕ) (t : Table) : Type 0 where
  pub filed : AreFiled kinds ids own t
  pub room : own ≤ next_id t
  pub declared : (id : ℕ) (item : Item) → id < own → type_at t id ≡ Some item → item.kind.entry ≡ false

abbrev pub FirstTypesStay : Type 0
FirstTypesStay = (kinds : List Kind) (ids : List ℕ) (own : ℕ) (t v : Table) → AreFirst kinds ids own t → Grows t v → AreFirst kinds ids own v
