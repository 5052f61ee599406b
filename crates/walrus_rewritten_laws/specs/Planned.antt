-- A module that was read, of which what isn't kept was dropped, was written by the numbers of its plan: they serve for all sections, code among them.
use Rattle.std.specs.Prelude.{ℕ, ◌≡◌, ◌<◌, List, [], All, Option}
use Rattle.wasm_operators.specs.Items.{Functions}
use Rattle.walrus_config.specs.declared.config.ModuleConfig.{ModuleConfig}
use Rattle.walrus_index_maps.specs.Maps.{Ids, Indices}
use Rattle.walrus_linked.specs.Linked.{IsLinked}
use Rattle.walrus_module.specs.Parts.{parts}
use Rattle.walrus_module.specs.declared.module.Module.{Module}
use Rattle.walrus_named_bodies.specs.Parsed.{IsReadAs}
use Rattle.walrus_passes.specs.Part.{IsKeptPart}
use Rattle.walrus_types.specs.declared.emit.EmittedTypes.{EmittedTypes}
use Rattle.walrus_emit_code.specs.Code.{facts_at}
use Rattle.walrus_emit_numbers.specs.declared.facts.BodyFacts.{BodyFacts}
use Rattle.walrus_emit_numbers.specs.Numbers.{functions_at, numbers_of}
use Rattle.walrus_emit.specs.Written.{IsWritten}
use Rattle.walrus_code_laws.specs.Parts.{ServesCode}
use Rattle.walrus_plan_laws.specs.Emissions.{HasPlan, IsReady, ItemsHaveOwnIds}
use Rattle.walrus_plan_laws.specs.Plans.{plan_of}

module _ {B : Type 0} (left : Module B) (facts : List BodyFacts) (order : List ℕ) (emitted : EmittedTypes) where
  -- what is left, with what is known of its bodies, their order, and its types as they are written
  pub record IsPlanned : Type 0 where
    pub ready : IsReady left facts order emitted
    pub plan : HasPlan left facts order emitted
    pub code : ServesCode (numbers_of left emitted.ids.items (functions_at facts order)) (plan_of left facts order emitted) (parts left) (facts_at facts order)
    -- the plan's own functions are those of the facts, in that order
    pub own : code.items.order.own Functions ≡ functions_at facts order

-- so is a module that was written, which was linked, and whose items had their own ids
abbrev pub WrittenModulesArePlanned : Type 0 → Type 0
WrittenModulesArePlanned B = (own_name : B → List ℕ) (contents : B → Indices → Option (List ℕ)) (old new : Module B) (bytes : List ℕ) (w : IsWritten own_name contents old new bytes)
    → IsLinked (parts old) → ItemsHaveOwnIds (parts old) → IsPlanned new w.facts w.order w.emitted

-- what is kept of a module that was read is linked, and its items have their own ids: so it is written by its plan's numbers
abbrev pub KeptModulesArePlanned : Type 0 → Type 0
KeptModulesArePlanned B = (config : ModuleConfig) (input : List ℕ) (read : Module B) (found : Ids) → All (λ b. b < 256) input → IsReadAs config input read found
    → (kept : Module B) → IsKeptPart (parts read) [] (parts kept)
    → (own_name : B → List ℕ) (contents : B → Indices → Option (List ℕ)) (left : Module B) (bytes : List ℕ) (w : IsWritten own_name contents kept left bytes) → IsPlanned left w.facts w.order w.emitted
