-- The functions of facts that stand in an order.
use Rattle.std.specs.Prelude.{ℕ, ◌≡◌, List, map}
use Rattle.walrus_emit_numbers.specs.declared.facts.BodyFacts.{BodyFacts}
use Rattle.walrus_emit_numbers.specs.Numbers.{functions_at}
use Rattle.walrus_emit_numbers.specs.Order.{IsOrder}
use Rattle.walrus_emit_code.specs.Code.{facts_at}

abbrev pub FactsStandInOrder : Type 0
FactsStandInOrder = (facts : List BodyFacts) (order : List ℕ) → IsOrder facts order → map (λ (f : BodyFacts). f.function) (facts_at facts order) ≡ functions_at facts order
