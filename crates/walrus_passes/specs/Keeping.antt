-- Which items are kept, as it is held in memory.
use Rattle.std.specs.Prelude.{◌≡◌, ◌⊎◌, ℕ, MatchOption}
use Rattle.wasm_formats.specs.declared.fault.Space.TheVariants as spaces
use Rattle.walrus_roots.specs.declared.item.Item.{Item}
use Rattle.walrus_roots.specs.Items.{item}
use Rattle.walrus_marks.specs.Marks.{State}
use Rattle.walrus_refusals.specs.Checks.{IsMet}
use Rattle.walrus_refusals.specs.walrus_used.walrus_module.Parts.{Module}
use Rattle.walrus_refusals.specs.walrus_used.walrus_references.Kept.{IsFirstMemory}
use Rattle.walrus_passes.specs.declared.kept.KeptItems.{KeptItems}

-- it was met, or is the memory that is spared
abbrev pub IsHeld : KeptItems → Item → Type 0
IsHeld k x = IsMet k.marks x ⊎ MatchOption k.spared ⊥ (λ memory. x ≡ item spaces.Memory memory)

-- the memory is the first, and data was met and no memory
pub record SparesMemory (m : Module) (marks : State) (memory : ℕ) : Type 0 where
  pub first : IsFirstMemory m memory
  pub segment : ℕ
  pub has_data : IsMet marks (item spaces.Data segment)
  pub no_memory : (other : ℕ) → IsMet marks (item spaces.Memory other) → ⊥
