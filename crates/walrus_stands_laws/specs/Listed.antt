-- What a plan of emission lists: nothing but what lives in the module; and so of the module to which a segment that declares functions was added, where the plan adds it.
use Rattle.std.specs.Prelude.{ℕ, ◌≡◌, ◌++◌, List}
use Rattle.walrus_emit.specs.Left.{Declares}
use Rattle.walrus_emit_numbers.specs.declared.facts.BodyFacts.{BodyFacts}
use Rattle.walrus_meaning.specs.Meaning.{means}
use Rattle.walrus_module.specs.Parts.{Module as Parts, parts}
use Rattle.walrus_module.specs.declared.module.Module.{Module}
use Rattle.walrus_types.specs.declared.emit.EmittedTypes.{EmittedTypes}
use Rattle.walrus_due_laws.specs.Listed.{LivingAreListed}
use Rattle.walrus_parse_gc_laws.specs.Numbered.{numbered}
use Rattle.walrus_plan_laws.specs.Emissions.{HasPlan}
use Rattle.walrus_plan_laws.specs.Plans.{plan_of}
use Rattle.wasm_grammar.specs.Modules as grammar
use Rattle.wasm_operators.specs.Items.{ElementSegments}
use Rattle.wasm_part.specs.Kept.{ListsItems}
use Rattle.wasm_part.specs.Order.{brought_by}
use Rattle.wasm_part.specs.Part.{Plan}
use Rattle.walrus_declared_laws.specs.Emitted.{living, plan_with}

abbrev pub PlansListLiving : Type 0 → Type 0
PlansListLiving B = (input : Module B) (facts : List BodyFacts) (order : List ℕ) (emitted : EmittedTypes) → HasPlan input facts order emitted
    → ListsItems (plan_of input facts order emitted) (means (parts input))

-- a plan lists just what lives
pub record ListsLiving (p : Plan) (m : grammar.Module) : Type 0 where
  pub items : ListsItems p m
  pub living : LivingAreListed p m

abbrev pub DeclaringPlansListLiving : Type 0
DeclaringPlansListLiving = (old new : Parts) (functions : List ℕ) → Declares functions old new → (q : Plan) → ListsLiving q (means new)
    → (imports : List ℕ) → q.listed ElementSegments ≡ brought_by (means new) ElementSegments imports ++ living (means new).elements → ListsLiving (plan_with functions old q) (numbered old)
