-- Passes that ask the custom sections first for what they push.
use Rattle.std.specs.Prelude.{◌≡◌, ◌⊎◌, List, Option, Some, None}
use Rattle.walrus_errors.specs.declared.error.ModuleError.{ModuleError}
use Rattle.walrus_errors.specs.declared.error.ModuleError.TheVariants as refusals
use Rattle.walrus_refusals.specs.walrus_used.walrus_module.Parts.{Module}
use Rattle.walrus_roots.specs.declared.item.Item.{Item}
use Rattle.walrus_refusals.specs.Sound.{IsRefused}

-- the sections say what they push, and this is so of it
abbrev pub WithPushed : Option (List Item) → (List Item → Type 0) → Type 0
WithPushed None P = ⊥
WithPushed (Some pushed) P = P pushed

-- why a module is refused: a section refuses, or with what they push it is refused
abbrev pub IsRefusedAsked : Module → Option (List Item) → ModuleError → Type 0
IsRefusedAsked m None fault = (fault ≡ refusals.SectionRefused) ⊎ (fault ≡ refusals.Memory)
IsRefusedAsked m (Some pushed) fault = IsRefused m pushed fault
