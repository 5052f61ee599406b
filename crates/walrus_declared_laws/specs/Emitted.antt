-- A module of which functions have to be declared, and the one that is written of it: the plan of this one, by which the other has the same part.
use Rattle.std.specs.Prelude.{ℕ, ◌≡◌, ◌++◌, List, [], ◌∷◌, map, Option}
use Rattle.walrus_arena.specs.Arena.{entries_from}
use Rattle.walrus_emit.specs.Left.{Declares}
use Rattle.walrus_meaning.specs.Meaning.{means}
use Rattle.walrus_module.specs.Parts.{Module as Parts}
use Rattle.walrus_parse_gc_laws.specs.Numbered.{numbered}
use Rattle.wasm_operators.specs.Items.{ElementSegments}
use Rattle.wasm_part.specs.Order.{InOrder, brought_by}
use Rattle.wasm_part.specs.Part.{Plan, part}
use Rattle.walrus_declared_laws.specs.Added.{declaring_plan}

-- the numbers of the slots that are filled
abbrev pub living : {A : Type 0} → List (Option A) → List ℕ
living {A} slots = map (λ (e : ℕ × A). e.0) (entries_from 0 slots)

-- the plan of the module that has their segment, where these have to be declared in this one, as a plan of this one
abbrev pub plan_with : List ℕ → Parts → Plan → Plan
plan_with [] old q = q
plan_with (n ∷ ns) old q = declaring_plan (living (means old).elements) (n ∷ ns) q

-- it has the same part by it, in order
pub record IsDeclaredBy (old new : Parts) (q p : Plan) : Type 0 where
  pub same : part q (numbered new) ≡ part p (numbered old)
  pub ordered : InOrder (means new) q → InOrder (numbered old) p

-- a plan that adds no segment and lists those of the module last that live
abbrev pub EmissionsDeclare : Type 0
EmissionsDeclare = (old new : Parts) (functions : List ℕ) → Declares functions old new → (q : Plan) → q.declared ≡ [] → (ns : List ℕ)
    → q.listed ElementSegments ≡ brought_by (means new) ElementSegments ns ++ living (means new).elements → IsDeclaredBy old new q (plan_with functions old q)
