use Rattle.std.proofs.Common.{refl}
use Rattle.std.proofs.lemmas.Result.{err_from_is_err_and}
use Rattle.walrus_index_maps.specs.Views.{ids}
use Rattle.walrus_functions_into.proofs.AddLemmas.{next_added, some_added, more_added, on_err}
use Rattle.walrus_functions_into.proofs.functions.add_functions.Goals as goal

pub returns-in_err-id-clause-refused : goal.returns-in_err-id-clause-refused
returns-in_err-id-clause-refused c =
    let p = err_from_is_err_and c.from_residual.result c.from_residual.ensures.1 in
    on_err c.from_residual.result _ p.1
    (some_added c.args.functions.now c.loop-function.function-index c.args.into.now c.loop-function.into c.add_function.new.into (ids c.args.maps.now) (ids c.loop-function.maps) c.loop-function.invariant c.in_err-id.ensures.refused)

pub returns-in_err-push_func-clause-refused : goal.returns-in_err-push_func-clause-refused
returns-in_err-push_func-clause-refused c =
    let p = err_from_is_err_and c.from_residual-in_err-push_func.result c.from_residual-in_err-push_func.ensures.1 in
    on_err c.from_residual-in_err-push_func.result _ p.1
    (more_added c.args.functions.now c.loop-function.function-index _ _ c.args.into.now c.loop-function.into c.add_function.new.into (ids c.args.maps.now) (ids c.loop-function.maps)
    refl c.loop-function-test.true c.loop-function.invariant c.in_ok-id.ensures.added)

pub loop-function-preserved : goal.loop-function-preserved
loop-function-preserved c =
    next_added c.args.functions.now c.loop-function.function-index _ _ c.args.into.now c.loop-function.into c.add_function.new.into (ids c.args.maps.now) (ids c.loop-function.maps) (ids c.push_func.new.self) c.in_ok-id.id
    refl c.loop-function-test.true c.loop-function.invariant c.in_ok-id.ensures.added c.in_ok-id.ensures.id c.in_ok-push_func.ensures.1
