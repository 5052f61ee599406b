use Rattle.std.proofs.Common.{refl}
use Rattle.std.proofs.lemmas.Result.{err_from_is_err_and}
use Rattle.wasm_composite_types.proofs.remap.remap_form.Goals as goal

pub returns-in_err-remap_index-in-Cont-clause-visits : goal.returns-in_err-remap_index-in-Cont-clause-visits
returns-in_err-remap_index-in-Cont-clause-visits g c =
    let p = err_from_is_err_and c.from_residual-in_err-remap_index-in-Cont.result c.from_residual-in_err-remap_index-in-Cont.ensures.1 in
    rw (p.1, p.2, c.in-Cont.is) (c.in-Cont.ty.0, c.in_err-remap_index-in-Cont.ensures.visits, refl)
