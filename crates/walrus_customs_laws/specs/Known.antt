-- What is known of the locals of bodies that are written, once these have their numbers.
use Rattle.std.specs.Prelude.{ℕ, ◌≡◌, List, map, None}
use Rattle.std.specs.List.{AllByRecursion}
use Rattle.walrus_arena.specs.Arena.{Arena}
use Rattle.walrus_index_maps.specs.Maps.{Indices}
use Rattle.walrus_items.specs.declared.local.Local.{Local}
use Rattle.walrus_local_function.specs.declared.local_function.LocalFunction.{LocalFunction}
use Rattle.walrus_module_items.specs.declared.function.Function.{Function}
use Rattle.walrus_tree.specs.Trees.{AreDistinct}
use Rattle.walrus_emit_code.specs.Code.{bodies_numbers}
use Rattle.walrus_emit_numbers.specs.Facts.{AreFacts}
use Rattle.walrus_emit_numbers.specs.declared.facts.BodyFacts.{BodyFacts}
use Rattle.walrus_customs_laws.specs.Kept.{KnowsLocals}
use Rattle.walrus_customs_laws.specs.Locals.{IsBodyOf}

-- the facts are those of a function with a body, and no argument stands twice
pub record HasFacts (functions : Arena Function) (body : BodyFacts) : Type 0 where
  pub local : LocalFunction
  pub is : IsBodyOf functions body local
  pub known : AreFacts (body.function, local) body
  pub arguments : AreDistinct local.args.items

-- no local has a number before, and no function has two bodies
abbrev pub BodiesAreKnown : Type 0
BodiesAreKnown = (locals : List Local) (functions : Arena Function) (i : Indices) (bodies : List BodyFacts) → ((f id : ℕ) → i.locals f id ≡ None) → AreDistinct (map (λ (body : BodyFacts). body.function) bodies)
    → AllByRecursion (HasFacts functions) bodies → AllByRecursion (KnowsLocals locals functions (bodies_numbers locals functions i bodies)) bodies
