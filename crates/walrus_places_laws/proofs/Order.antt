-- Lemmas: facts that stand in an order.
use Rattle.std.specs.Prelude.{ℕ, zero, suc, ◌+◌, ◌<◌, ◌≤◌, ◌≡◌, List, [], ◌∷◌, length, map, Option, Some, slice_get, slice_index, refl}
use Rattle.std.specs.List.{AllByRecursion, cons_option}
use Rattle.std.proofs.Common.{ap, sym, ◌∙◌, arith}
use Rattle.std.proofs.lemmas.List.Elements.{All-from_recursion, recursion_from_All}
use Rattle.std.proofs.lemmas.List.Sorted.{All-permutation}
use Rattle.walrus_index_maps.specs.Runs.{run_from}
use Rattle.walrus_emit_numbers.specs.declared.facts.BodyFacts.{BodyFacts}
use Rattle.walrus_emit_numbers.specs.Numbers.{functions_at}
use Rattle.walrus_emit_numbers.specs.Order.{IsOrder}
use Rattle.walrus_emit_code.specs.Code.{facts_at}
use Rattle.walrus_places_laws.specs.Order.{FactsStandInOrder}

run_below : (first n most : ℕ) → first + n ≤ most → AllByRecursion (λ (at : ℕ). at < most) (run_from first n)
run_below first zero most le = tt
run_below first (suc n) most le = (omega (arith, le), run_below (suc first) n most (omega (arith, le)))

order_below : (facts : List BodyFacts) (order : List ℕ) → IsOrder facts order → AllByRecursion (λ (at : ℕ). at < length facts) order
order_below facts order is =
    let Below : ℕ → Type 0 = λ at. at < length facts in
    let run = run_from 0 (length facts) in
    recursion_from_All Below order (All-permutation Below run order is.all (All-from_recursion Below run (run_below 0 (length facts) (length facts) (omega arith))))

fact_at : (facts : List BodyFacts) (at : ℕ) → at < length facts → (f : BodyFacts) × (slice_get facts at ≡ Some f) × (slice_index (map (λ (f : BodyFacts). f.function) facts) at ≡ f.function)
fact_at [] at lt = absurd (omega (arith, lt))
fact_at (f ∷ facts) zero lt = (f, refl, refl)
fact_at (f ∷ facts) (suc at) lt = fact_at facts at (omega (arith, lt))

functions_stand : (facts : List BodyFacts) (order : List ℕ) → AllByRecursion (λ (at : ℕ). at < length facts) order → functions_at facts order ≡ map (λ (f : BodyFacts). f.function) (facts_at facts order)
functions_stand facts [] h = refl
functions_stand facts (at ∷ order) h =
    let f = fact_at facts at h.0 in
    ap (λ (n : ℕ). n ∷ functions_at facts order) f.2 ∙ ap (λ (l : List ℕ). f.0.function ∷ l) (functions_stand facts order h.1)
    ∙ ap (λ (o : Option BodyFacts). map (λ (f : BodyFacts). f.function) (cons_option o (facts_at facts order))) (sym f.1)

pub facts_stand : FactsStandInOrder
facts_stand facts order is = sym (functions_stand facts order (order_below facts order is))
