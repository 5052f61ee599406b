-- No list of what was written of a module is longer than a reader takes (Core Specification, implementation limitations: syntactic limits).
use Rattle.std.specs.Prelude.{ℕ, List, Option}
use Rattle.wasm_grammar.specs.Modules as grammar
use Rattle.wasm_part.specs.Part.{part}
use Rattle.wasm_ruled_modules.specs.Rules.{IsCounted}
use Rattle.walrus_index_maps.specs.Maps.{Indices}
use Rattle.walrus_module.specs.Parts.{parts}
use Rattle.walrus_module.specs.declared.module.Module.{Module}
use Rattle.walrus_types.specs.TypeLaws.{AreGrouped}
use Rattle.walrus_emit.specs.Written.{IsWritten}
use Rattle.walrus_code_laws.specs.Parts.{numbered}
use Rattle.walrus_plan_laws.specs.Emissions.{HasPlan}
use Rattle.walrus_plan_laws.specs.Plans.{plan_of}

-- so it is by the plan of what was written, whose table of types is such as tables always are
abbrev pub WrittenPartsAreCounted : Type 0 → Type 0
WrittenPartsAreCounted B = (own_name : B → List ℕ) (contents : B → Indices → Option (List ℕ)) (old new : Module B) (bytes : List ℕ) (w : IsWritten own_name contents old new bytes)
    → AreGrouped new.types → HasPlan new w.facts w.order w.emitted
    → (customs : List (Option grammar.Custom)) → IsCounted (record (part (plan_of new w.facts w.order w.emitted) (numbered (parts new))) { customs = customs })
