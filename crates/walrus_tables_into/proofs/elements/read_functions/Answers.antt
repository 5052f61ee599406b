use Rattle.std.proofs.Common.{refl}
use Rattle.std.proofs.lemmas.Result.{err_from_is_err_and}
use Rattle.walrus_sections_into.specs.walrus_index_maps.Views.{ids}
use Rattle.walrus_sections_into.specs.Becomes.{look_of}
use Rattle.walrus_sections_into.specs.Loops.{one_lacks, zip_next}
use Rattle.walrus_tables_into.specs.Elements.{IsFunctionOf, NoFunction}
use Rattle.walrus_tables_into.proofs.elements.read_functions.Goals as goal

pub loop-number-preserved : goal.loop-number-preserved
loop-number-preserved c =
    zip_next (IsFunctionOf (look_of (ids c.args.maps.now))) c.args.numbers.now c.loop-number.number-index _ _ c.loop-number.functions.items c.push.new.self.items c.in_ok-function.function
    refl c.loop-number-test.true c.loop-number.invariant c.in_ok-function.ensures.found c.in_ok-push.ensures.items

pub returns-in_err-function-clause-unknown : goal.returns-in_err-function-clause-unknown
returns-in_err-function-clause-unknown c =
    let p = err_from_is_err_and c.from_residual.result c.from_residual.ensures.1 in
    one_lacks (NoFunction (look_of (ids c.args.maps.now))) c.args.numbers.now c.loop-number.number-index _ _ c.from_residual.result _ _ refl c.loop-number-test.true p.1 p.2 (λ _. c.in_err-function.ensures.unknown.1)
