-- Sets of items.
use Rattle.std.specs.Prelude.{ℕ, Decides, List, nat_eq}
use Rattle.std.specs.HashSet.{contains}
use Rattle.wasm_formats.specs.declared.fault.Space.TheVariants as spaces
use Rattle.walrus_refusals.specs.walrus_used.walrus_module.Parts.{Module}
use Rattle.walrus_roots.specs.declared.item.Item.{Item}
use Rattle.walrus_roots.specs.Items.{item}
use Rattle.walrus_refusals.specs.walrus_used.walrus_references.Kept.{Kept}
use Rattle.walrus_passes.specs.declared.used.Used.{Used}

-- in each space the set has just these ids
pub record HasJust (stays : Item → Type 0) (u : Used) : Type 0 where
  pub of_types : (id : ℕ) → Decides (contains nat_eq u.types id) (stays (item spaces.Type id))
  pub of_funcs : (id : ℕ) → Decides (contains nat_eq u.funcs id) (stays (item spaces.Function id))
  pub of_tables : (id : ℕ) → Decides (contains nat_eq u.tables id) (stays (item spaces.Table id))
  pub of_memories : (id : ℕ) → Decides (contains nat_eq u.memories id) (stays (item spaces.Memory id))
  pub of_tags : (id : ℕ) → Decides (contains nat_eq u.tags id) (stays (item spaces.Tag id))
  pub of_globals : (id : ℕ) → Decides (contains nat_eq u.globals id) (stays (item spaces.Global id))
  pub of_elements : (id : ℕ) → Decides (contains nat_eq u.elements id) (stays (item spaces.Element id))
  pub of_data_segments : (id : ℕ) → Decides (contains nat_eq u.data_segments id) (stays (item spaces.Data id))

-- the sets have just the kept items, where custom sections push these
abbrev pub AreKept : Module → List Item → Used → Type 0
AreKept m pushed u = HasJust (Kept m pushed) u
