use Rattle.std.proofs.Common.{◌+◌, ◌-◌, ◌<◌, ◌∙◌, List, arith, length, subst, sym}
use Rattle.walrus_index_maps.specs.Maps.{Ids}
use Rattle.walrus_index_maps.specs.Views.{ids}
use Rattle.walrus_pairing.specs.walrus_items.declared.local.Local.{Local}
use Rattle.walrus_body_locals.specs.Locals.{Leaves}
use Rattle.walrus_body_locals.proofs.Declaring.{place_inside, run_ends, run_left, run_on, run_short, run_skipped}
use Rattle.walrus_body_locals.proofs.Keeping.{on_err}
use Rattle.walrus_body_locals.proofs.runs.declare_run.Goals as goal

pub returns-in_err-skip-clause-refused : goal.returns-in_err-skip-clause-refused
returns-in_err-skip-clause-refused c =
    on_err c.from_residual.result (subst (λ (k : Ids). Leaves c.args.function c.args.locals.now c.loop-number.locals (ids c.args.indices.now) k) (sym c.in_err-skip.ensures.refused)
    (run_left c.args.function c.args.ty c.args.numbers.now c.args.place c.args.from c.args.end c.args.locals.now (ids c.args.indices.now) c.loop-number.place c.loop-number.from c.loop-number.locals (ids c.loop-number.indices) c.loop-number.invariant))

pub returns-in_err-id-clause-refused : goal.returns-in_err-id-clause-refused
returns-in_err-id-clause-refused c =
    on_err c.from_residual-in_err-id.result (subst (λ (ms : List Local). Leaves c.args.function c.args.locals.now ms (ids c.args.indices.now) (ids c.skip.new.indices)) (sym c.in_err-id.ensures.refused)
    (run_skipped c.args.function c.args.ty c.args.numbers.now c.args.place c.args.from c.args.end c.args.locals.now (ids c.args.indices.now) c.loop-number.place c.loop-number.from c.loop-number.locals (ids c.loop-number.indices) c.loop-number.invariant
    c.in-Some.number (ids c.skip.new.indices) c.in_ok-skip.ensures.skipped))

pub returns-in_err-push_local-clause-refused : goal.returns-in_err-push_local-clause-refused
returns-in_err-push_local-clause-refused c =
    on_err c.from_residual-in_err-push_local.result
    (run_short c.args.function c.args.ty c.args.numbers.now c.args.place c.args.from c.args.end c.args.locals.now (ids c.args.indices.now) c.loop-number.place c.loop-number.from c.loop-number.locals (ids c.loop-number.indices) c.loop-number.invariant
    c.in-Some.number (ids c.skip.new.indices) c.in_ok-skip.ensures.skipped
    c.add.new.self (ids c.push_local.new.self) c.in_ok-id.id c.in_ok-id.ensures.id c.in_ok-id.ensures.added c.in_err-push_local.ensures.refused)

pub loop-number-smaller : goal.loop-number-smaller
loop-number-smaller c =
    let lt = place_inside c.args.numbers.now c.loop-number.place c.in-Some.number c.args.end (sym c.next_below.ensures.next ∙ c.in-Some.is) in
    let less : length c.args.numbers.now - (c.loop-number.place + 1) < length c.args.numbers.now - c.loop-number.place = omega (arith, lt) in
    less

pub loop-number-preserved : goal.loop-number-preserved
loop-number-preserved c =
    run_on c.args.function c.args.ty c.args.numbers.now c.args.place c.args.from c.args.end c.args.locals.now (ids c.args.indices.now) c.loop-number.place c.loop-number.from c.loop-number.locals (ids c.loop-number.indices) c.loop-number.invariant
    c.in-Some.number (ids c.skip.new.indices) c.in_ok-skip.ensures.skipped (sym c.next_below.ensures.next ∙ c.in-Some.is)
    c.add.new.self (ids c.push_local.new.self) c.in_ok-id.id c.in_ok-id.ensures.id c.in_ok-id.ensures.added c.in_ok-push_local.ensures.pushed.1

pub returns-in_err-skip-2-clause-refused : goal.returns-in_err-skip-2-clause-refused
returns-in_err-skip-2-clause-refused c =
    on_err c.from_residual-in_err-skip-2.result (subst (λ (k : Ids). Leaves c.args.function c.args.locals.now c.loop-number.locals (ids c.args.indices.now) k) (sym c.in_err-skip-2.ensures.refused)
    (run_left c.args.function c.args.ty c.args.numbers.now c.args.place c.args.from c.args.end c.args.locals.now (ids c.args.indices.now) c.loop-number.place c.loop-number.from c.loop-number.locals (ids c.loop-number.indices) c.loop-number.invariant))

pub returns-clause-added : goal.returns-clause-added
returns-clause-added c = λ kept more are.
    run_ends c.args.function c.args.ty c.args.numbers.now c.args.place c.args.from c.args.end c.args.locals.now (ids c.args.indices.now) c.loop-number.place c.loop-number.from c.loop-number.locals (ids c.loop-number.indices) c.loop-number.invariant
    (sym c.next_below.ensures.next ∙ c.in_default.is) (ids c.skip-2.new.indices) c.in_ok-skip-2.ensures.skipped kept more are
