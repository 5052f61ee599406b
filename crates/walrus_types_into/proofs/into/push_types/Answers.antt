use Rattle.std.proofs.lemmas.Result.{err_from_is_err_and}
use Rattle.walrus_index_maps.specs.Views.{ids}
use Rattle.walrus_types_into.proofs.IntoLemmas.{some_pushed, on_err}
use Rattle.walrus_types_into.proofs.into.push_types.Goals as goal

pub returns-in_err-push_type-clause-refused : goal.returns-in_err-push_type-clause-refused
returns-in_err-push_type-clause-refused c =
    let p = err_from_is_err_and c.from_residual.result c.from_residual.ensures.1 in
    on_err c.from_residual.result _ p.1 (some_pushed c.args.types.now c.loop-ty.ty-index (ids c.args.maps.now) (ids c.loop-ty.maps) _ c.loop-ty.invariant c.in_err-push_type.ensures)
