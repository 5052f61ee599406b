use Rattle.std.proofs.Common.{◌+◌, List, arith, subst, sym}
use Rattle.std.proofs.lemmas.Result.{err_from_is_err_and}
use Rattle.walrus_body_locals.specs.Locals.{run_told}
use Rattle.walrus_body_nesting.specs.wasm_body_grammar.Bodies.{Run}
use Rattle.walrus_body_locals.proofs.Going.{Going, count_fails, going_start, going_on, going_done, going_fails, going_short, on_forward}
use Rattle.walrus_body_locals.proofs.runs.read_runs.Goals as goal

pub returns-in_err-count-clause-refused : goal.returns-in_err-count-clause-refused
returns-in_err-count-clause-refused g c =
    let p = err_from_is_err_and c.from_residual.result c.from_residual.ensures.1 in
    rw (p.1, p.2) (count_fails (run_told g.V.Validator.locals_step) c.args.params c.args.reader.now c.read_var_u32.new.self c.args.indices.now.types.items c.args.validator.now c.in_err-count.field-0.0
    c.in_err-count.ensures.value c.in_err-count.ensures.place c.in_err-count.ensures.moves)

pub loop-init : goal.loop-init
loop-init g c =
    let F : List Run → Type 0 = λ own.
    Going (run_told g.V.Validator.locals_step) c.args.params c.in_ok-count.count c.args.reader.now c.read_var_u32.new.self c.args.indices.now.types.items c.args.validator.now c.args.validator.now own c.args.params 0 in
    subst F (sym c.new-runs.ensures.items)
    (going_start (run_told g.V.Validator.locals_step) c.args.params c.in_ok-count.count c.args.reader.now c.read_var_u32.new.self c.args.indices.now.types.items c.args.validator.now
    c.in_ok-count.ensures.value c.in_ok-count.ensures.moves)

pub returns-in_err-more-clause-refused : goal.returns-in_err-more-clause-refused
returns-in_err-more-clause-refused g c =
    let p = err_from_is_err_and c.from_residual-in_err-more.result c.from_residual-in_err-more.ensures.1 in
    rw (p.1, p.2) (going_fails (run_told g.V.Validator.locals_step) c.args.params c.in_ok-count.count c.args.reader.now c.loop.reader c.read_run.new.reader c.args.indices.now.types.items
    c.args.validator.now c.loop.validator c.read_run.new.validator c.loop.runs.items c.loop.total c.loop.counter c.loop.invariant c.in_err-more.field-0.0 c.loop-test.true c.in_err-more.ensures.read)

pub returns-in_err-push-clause-refused : goal.returns-in_err-push-clause-refused
returns-in_err-push-clause-refused g c =
    let p = err_from_is_err_and c.from_residual-in_err-push.result c.from_residual-in_err-push.ensures.1 in
    rw (p.1, p.2) (going_short (run_told g.V.Validator.locals_step) c.args.params c.in_ok-count.count c.args.reader.now c.loop.reader c.read_run.new.reader c.args.indices.now.types.items
    c.args.validator.now c.loop.validator c.read_run.new.validator c.loop.runs.items c.loop.total c.loop.counter c.loop.invariant c.in_ok-more.more c.in_ok-more.ty c.loop-test.true c.in_ok-more.ensures.read)

pub returns-in_err-more-clause-moves : goal.returns-in_err-more-clause-moves
returns-in_err-more-clause-moves g c =
    on_forward (run_told g.V.Validator.locals_step) c.args.params c.in_ok-count.count c.args.reader.now c.loop.reader c.read_run.new.reader c.args.indices.now.types.items
    c.args.validator.now c.loop.validator c.read_run.new.validator c.loop.runs.items c.loop.total c.loop.counter c.loop.invariant c.in_err-more.ensures.read.moves

pub returns-in_err-push-clause-moves : goal.returns-in_err-push-clause-moves
returns-in_err-push-clause-moves g c =
    on_forward (run_told g.V.Validator.locals_step) c.args.params c.in_ok-count.count c.args.reader.now c.loop.reader c.read_run.new.reader c.args.indices.now.types.items
    c.args.validator.now c.loop.validator c.read_run.new.validator c.loop.runs.items c.loop.total c.loop.counter c.loop.invariant c.in_ok-more.ensures.read.moves

pub returns-clause-moves : goal.returns-clause-moves
returns-clause-moves g c = c.loop.invariant.moves

pub loop-preserved : goal.loop-preserved
loop-preserved g c =
    let F : List Run → Type 0 = λ own.
    Going (run_told g.V.Validator.locals_step) c.args.params c.in_ok-count.count c.args.reader.now c.read_run.new.reader c.args.indices.now.types.items c.args.validator.now c.read_run.new.validator own
    (c.loop.total + c.in_ok-more.more) (c.loop.counter + 1) in
    subst F (sym c.in_ok-push.ensures.items)
    (going_on (run_told g.V.Validator.locals_step) c.args.params c.in_ok-count.count c.args.reader.now c.loop.reader c.read_run.new.reader c.args.indices.now.types.items
    c.args.validator.now c.loop.validator c.read_run.new.validator c.loop.runs.items c.loop.total c.loop.counter c.loop.invariant c.in_ok-more.more c.in_ok-more.ty c.in_ok-more.ensures.read c.in_ok-more.ensures.fits)

pub returns-clause-read : goal.returns-clause-read
returns-clause-read g c =
    going_done (run_told g.V.Validator.locals_step) c.args.params c.in_ok-count.count c.args.reader.now c.loop.reader c.loop.reader c.args.indices.now.types.items
    c.args.validator.now c.loop.validator c.loop.validator c.loop.runs.items c.loop.total c.loop.counter c.loop.invariant
    (let t = c.loop-test.false in let u = c.loop.auto.counter-end in omega (arith, t, u))
