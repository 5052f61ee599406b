-- A second gc.
use Rattle.std.specs.Prelude.{◌≡◌, ◌↔◌, ℕ, ◌<◌, Some, List}
use Rattle.walrus_arena.specs.Arena.{item_at}
use Rattle.walrus_passes.specs.walrus_refusals.walrus_used.walrus_module_items.declared.import.Import.{Import}
use Rattle.walrus_passes.specs.walrus_refusals.walrus_used.walrus_module.Parts.{Module}
use Rattle.walrus_passes.specs.walrus_refusals.walrus_used.walrus_module.Items.{Lives, brought}
use Rattle.walrus_roots.specs.declared.item.Item.{Item}
use Rattle.walrus_roots.specs.Items.{space_number}
use Rattle.walrus_passes.specs.walrus_refusals.walrus_used.walrus_references.Kept.{Kept}
use Rattle.walrus_passes.specs.walrus_refusals.Sound.{IsSound}
use Rattle.walrus_passes.specs.Part.{IsKeptPart}

-- nothing is wrong with what is left; what was kept is kept of it, and all that lives but locals, and all imports, are kept
pub record NothingToDrop (m n : Module) (pushed : List Item) : Type 0 where
  pub sound : IsSound n pushed
  pub same : (x : Item) → Kept m pushed x ↔ Kept n pushed x
  pub all_kept : (x : Item) → space_number x.space < 8 → Lives n x → Kept n pushed x
  pub imports_kept : (i : ℕ) (import : Import) → item_at n.imports i ≡ Some import → Kept n pushed (brought import.kind)

-- where custom sections push the same again, a second gc isn't refused but for want of memory, and deletes nothing
abbrev pub GcTwice : Type 0
GcTwice = (m n : Module) (pushed : List Item) → IsSound m pushed → IsKeptPart m pushed n → NothingToDrop m n pushed
