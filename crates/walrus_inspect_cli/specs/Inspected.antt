-- What is told of the bytes of a module, or why nothing is.
use Rattle.std.specs.Prelude.{ℕ, Bool, true, false, ◌⊎◌, List, [], Result, Ok, Err}
use Rattle.inspect_program.specs.inspect_lines.declared.counts.Counts.{Counts}
use Rattle.inspect_program.specs.walrus_config.declared.config.ModuleConfig.{ModuleConfig}
use Rattle.inspect_program.specs.walrus_errors.declared.error.ModuleError.{ModuleError}
use Rattle.walrus_counts.specs.Counts.{AreCounts, HaveNoTree, IsCause}
use Rattle.walrus_counts.specs.walrus_module.Parts.{Module, parts}
use Rattle.walrus_counts.specs.walrus_module.walrus_collections.LookUps.{items}
use Rattle.walrus_counts.specs.walrus_module.declared.module.Module.{Module as Whole}
use Rattle.walrus_inspect_cli.specs.declared.none.NoSection.{NoSection}
use Rattle.walrus_parse.specs.Parsed.{IsRead, read_features}
use Rattle.walrus_parse.specs.Refusals.{IsRefusal}
use Rattle.walrus_passes.specs.Part.{IsKeptPart}
use Rattle.walrus_passes.specs.walrus_refusals.Sound.{IsRefused}

-- the part of a module that is kept, where no custom section pushes anything, has these counts
abbrev pub AreKeptCounts : Module → Counts → Type 0
AreKeptCounts m c = (n : Module) × IsKeptPart m [] n × AreCounts n c

-- its items can't be counted: a body is no tree, or memory is wanted
abbrev pub IsUncounted : Module → ModuleError → Type 0
IsUncounted m e = IsCause (HaveNoTree (items m.funcs)) e

-- what is told of a module, or of its kept part
abbrev pub AreTold : Bool → Module → Counts → Type 0
AreTold false m c = AreCounts m c
AreTold true m c = AreKeptCounts m c

-- why nothing is told of it: dropping refuses it, or its items can't be counted
abbrev pub IsUntold : Bool → Module → ModuleError → Type 0
IsUntold false m e = IsUncounted m e
IsUntold true m e = IsRefused m [] e ⊎ ((n : Module) × IsKeptPart m [] n × IsUncounted n e)

-- the counts are those of a module that is read from the bytes, or of its kept part; or the bytes are refused, or nothing is told of the module
-- that is read from them (for want of memory alone, by `ReadModulesPass` and `ReadModulesAreLinked`, laws on which the program doesn't stand)
abbrev pub Inspects : List ℕ → ModuleConfig → Bool → Result Counts ModuleError → Type 0
Inspects bytes config kept (Ok c) = (m : Whole NoSection) × IsRead config bytes m × AreTold kept (parts m) c
Inspects bytes config kept (Err e) = IsRefusal (read_features config) bytes e ⊎ ((m : Whole NoSection) × IsRead config bytes m × IsUntold kept (parts m) e)
