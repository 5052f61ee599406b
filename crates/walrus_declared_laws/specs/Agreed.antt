-- Modules that agree on what a plan lists have one order by it, and declare the same functions.
use Rattle.std.specs.Prelude.{ℕ, List}
use Rattle.wasm_grammar.specs.Modules.{Module}
use Rattle.wasm_part.specs.Agree.{AgreeOn}
use Rattle.wasm_part.specs.Order.{HasDeclared, InOrder, Wants}
use Rattle.wasm_part.specs.Part.{Plan}

pub record IsOrderedSo (p : Plan) (m k : Module) : Type 0 where
  pub ordered : InOrder k p → InOrder m p
  pub wants : (n : ℕ) → Wants k p n → Wants m p n
  pub declared : (nss : List (List ℕ)) → HasDeclared k p nss → HasDeclared m p nss

abbrev pub AgreeingModulesAreOrdered : Type 0
AgreeingModulesAreOrdered = (p : Plan) (m k : Module) → AgreeOn p m k → IsOrderedSo p m k
