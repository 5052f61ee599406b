use Rattle.std.proofs.Common.{◌+◌, ◌≡◌, ℕ, arith, refl, subst, suc}
use Rattle.std.proofs.lemmas.Option.{slice_get_read}
use Rattle.walrus_index_maps.specs.Views.{ids}
use Rattle.walrus_body_locals.proofs.DeclaringRuns.{Declaring, end_fits, run_numbers, runs_on, runs_short}
use Rattle.walrus_body_locals.proofs.Keeping.{on_err}
use Rattle.walrus_body_locals.proofs.runs.declare_kept.Goals as goal

pub overflow_add-end : goal.overflow_add-end
overflow_add-end c =
    let fits = end_fits c.args.function c.args.runs.now c.args.numbers.now c.args.locals.now (ids c.args.indices.now) c.loop-run.run-index c.loop-run.place c.loop-run.from c.loop-run.locals (ids c.loop-run.indices) c.loop-run.invariant c.run-item.result
    (slice_get_read c.args.runs.now _ c.loop-run.run-index c.run-item.result refl c.loop-run-test.true c.run-item.is) in
    omega (arith, fits, c.requires.few)

pub declare_run-requires : goal.declare_run-requires
declare_run-requires c =
    run_numbers c.args.function c.args.runs.now c.args.numbers.now c.args.locals.now (ids c.args.indices.now) c.loop-run.run-index c.loop-run.place c.loop-run.from c.loop-run.locals (ids c.loop-run.indices) c.loop-run.invariant c.run-item.result
    (slice_get_read c.args.runs.now _ c.loop-run.run-index c.run-item.result refl c.loop-run-test.true c.run-item.is) c.requires.numbers.0 c.requires.numbers.1

pub returns-in_err-place-clause-refused : goal.returns-in_err-place-clause-refused
returns-in_err-place-clause-refused c =
    on_err c.from_residual.result
    (runs_short c.args.function c.args.runs.now c.args.numbers.now c.args.locals.now (ids c.args.indices.now) c.loop-run.run-index c.loop-run.place c.loop-run.from c.loop-run.locals (ids c.loop-run.indices) c.loop-run.invariant c.run-item.result
    (slice_get_read c.args.runs.now _ c.loop-run.run-index c.run-item.result refl c.loop-run-test.true c.run-item.is) c.requires.numbers.0 c.requires.numbers.1
    c.declare_run.new.locals (ids c.declare_run.new.indices) c.in_err-place.ensures.refused)

pub loop-run-preserved : goal.loop-run-preserved
loop-run-preserved c =
    let next : suc c.loop-run.run-index ≡ c.loop-run.run-index + 1 = omega arith in
    subst (λ (n : ℕ). Declaring c.args.function c.args.runs.now c.args.numbers.now c.args.locals.now (ids c.args.indices.now) n c.in_ok-place.place (c.loop-run.from + c.run-item.result.0) c.declare_run.new.locals (ids c.declare_run.new.indices)) next
    (runs_on c.args.function c.args.runs.now c.args.numbers.now c.args.locals.now (ids c.args.indices.now) c.loop-run.run-index c.loop-run.place c.loop-run.from c.loop-run.locals (ids c.loop-run.indices) c.loop-run.invariant c.run-item.result
    (slice_get_read c.args.runs.now _ c.loop-run.run-index c.run-item.result refl c.loop-run-test.true c.run-item.is) c.in_ok-place.place c.declare_run.new.locals (ids c.declare_run.new.indices) c.in_ok-place.ensures.added)
