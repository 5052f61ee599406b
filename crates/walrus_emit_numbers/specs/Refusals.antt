-- Why nothing can be known of the bodies of a module.
use Rattle.std.specs.Prelude.{◌≡◌, ◌⊎◌}
use Rattle.walrus_errors.specs.declared.error.ModuleError.{ModuleError}
use Rattle.walrus_errors.specs.declared.error.ModuleError.TheVariants.{Memory, NoTree}

abbrev pub IsRefused : ModuleError → Type 0
IsRefused e = (e ≡ NoTree) ⊎ (e ≡ Memory)
