use Rattle.std.proofs.Common.{refl}
use Rattle.std.proofs.lemmas.Result.{err_from_is_err_and}
use Rattle.wasm_composite_types.proofs.remap.remap_index.Goals as goal

pub returns-in_err-map-clause-visits : goal.returns-in_err-map-clause-visits
returns-in_err-map-clause-visits g c =
    let p = err_from_is_err_and c.from_residual.result c.from_residual.ensures.1 in
    rw (p.1, p.2) ((c.map.new.arg2, record { shown = _; shows = refl; left = _; called = c.in_err-map.ensures; leaves = refl }), refl)
