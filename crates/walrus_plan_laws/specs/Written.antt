-- What was written of a module was written by its plan.
use Rattle.std.specs.Prelude.{ℕ, List, Option}
use Rattle.walrus_index_maps.specs.Maps.{Indices}
use Rattle.walrus_module.specs.Parts.{parts}
use Rattle.walrus_module.specs.declared.module.Module.{Module}
use Rattle.walrus_linked.specs.Linked.{IsLinked}
use Rattle.walrus_emit.specs.Written.{IsWritten}
use Rattle.walrus_plan_laws.specs.Emissions.{IsReady, ItemsHaveOwnIds}

-- a module that was written, linked and with items that had their own ids: with the segment that was added, it was ready
abbrev pub WrittenModulesAreReady : Type 0 → Type 0
WrittenModulesAreReady B = (own_name : B → List ℕ) (contents : B → Indices → Option (List ℕ)) (old new : Module B) (bytes : List ℕ) (w : IsWritten own_name contents old new bytes)
    → IsLinked (parts old) → ItemsHaveOwnIds (parts old) → IsReady new w.facts w.order w.emitted
