use Rattle.std.proofs.Common.{◌∙◌, ap}
use Rattle.std.proofs.lemmas.Result.{err_from_is_err_and}
use Rattle.walrus_index_maps.specs.Views.{ids}
use Rattle.walrus_body_locals.specs.Locals.{run_told}
use Rattle.walrus_body_locals.proofs.Going.{reads_short}
use Rattle.walrus_body_locals.proofs.Whole.{declares_apart, leaves_nothing}
use Rattle.walrus_body_locals.proofs.runs.read_locals.Goals as goal

pub returns-in_err-runs-clause-refused : goal.returns-in_err-runs-clause-refused
returns-in_err-runs-clause-refused g c =
    let p = err_from_is_err_and c.from_residual.result c.from_residual.ensures.1 in
    rw (p.1, p.2) c.in_err-runs.ensures.refused

pub returns-in_err-runs-clause-kept : goal.returns-in_err-runs-clause-kept
returns-in_err-runs-clause-kept g c = leaves_nothing c.args.function c.args.locals.now (ids c.args.indices.now)

pub returns-in_err-declare_runs-clause-refused : goal.returns-in_err-declare_runs-clause-refused
returns-in_err-declare_runs-clause-refused g c =
    let p = err_from_is_err_and c.from_residual-in_err-declare_runs.result c.from_residual-in_err-declare_runs.ensures.1 in
    rw (p.1, p.2, c.in_err-declare_runs.ensures.refused) (reads_short (run_told g.V.Validator.locals_step) c.args.params c.args.reader.now c.read_runs.new.reader c.args.indices.now.types.items
    c.args.validator.now c.read_runs.new.validator c.in_ok-runs.runs.items c.in_ok-runs.total c.in_ok-runs.ensures.read)

pub returns-clause-declared : goal.returns-clause-declared
returns-clause-declared g c =
    declares_apart (run_told g.V.Validator.locals_step) c.args.function c.args.params c.args.reader.now c.read_runs.new.reader c.args.indices.now.types.items c.args.locals.now c.declare_runs.new.locals
    (ids c.args.indices.now) (ids c.declare_runs.new.indices) c.args.validator.now c.read_runs.new.validator c.in_ok-runs.runs.items c.in_ok-runs.total c.in_ok-runs.ensures.read
    c.shrink.result c.as_slice.result.now c.shrink.ensures c.as_slice.ensures.value c.read_runs.ensures.moves c.in_ok-declare_runs.ensures.declared
