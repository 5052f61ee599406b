use Rattle.std.proofs.lemmas.Result.{err_from_is_err_and}
use Rattle.walrus_body_locals.proofs.Counts.{run_read, run_barred}
use Rattle.walrus_body_locals.proofs.runs.read_run.Goals as goal

pub returns-in_err-define_locals-clause-read : goal.returns-in_err-define_locals-clause-read
returns-in_err-define_locals-clause-read g c =
    let p = err_from_is_err_and c.from_residual-in_err-define_locals.result c.from_residual-in_err-define_locals.ensures.1 in
    rw (p.1, p.2) (run_barred g.V.Validator.locals_step c.args.indices.now.types.items c.args.total c.args.reader.now c.read_count.new.reader c.read_type.new.reader c.args.validator.now c.define_locals.new.self
    c.in_ok-count.count c.in_ok-written.written c.in_ok-written.ty c.original_position-offset.result c.in_err-define_locals.field-0.0
    c.in_ok-count.ensures.read c.in_ok-written.ensures c.original_position-offset.ensures.left c.in_err-define_locals.ensures)

pub returns-clause-read : goal.returns-clause-read
returns-clause-read g c =
    run_read g.V.Validator.locals_step c.args.indices.now.types.items c.args.total c.args.reader.now c.read_count.new.reader c.read_type.new.reader c.args.validator.now c.define_locals.new.self
    c.in_ok-count.count c.in_ok-written.written c.in_ok-written.ty c.original_position-offset.result
    c.in_ok-count.ensures.read c.in_ok-written.ensures c.original_position-offset.ensures.left c.in_ok-define_locals.ensures
