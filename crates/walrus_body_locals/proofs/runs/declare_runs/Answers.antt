use Rattle.std.proofs.Common.{◌∙◌, arith, length, sym}
use Rattle.wasm_reader.specs.Cursor.{rest}
use Rattle.walrus_index_maps.specs.Views.{ids}
use Rattle.walrus_body_nesting.specs.wasm_body_grammar.Bodies.{declared}
use Rattle.walrus_body_locals.specs.Named.{AreAll}
use Rattle.walrus_body_locals.proofs.Keeping.{adds_leaves, leaves_kept}
use Rattle.walrus_body_locals.proofs.Whole.{chooses_all, leaves_nothing}
use Rattle.walrus_body_locals.proofs.runs.declare_runs.Goals as goal

pub returns-then-wants_all_locals-clause-declared : goal.returns-then-wants_all_locals-clause-declared
returns-then-wants_all_locals-clause-declared c =
    chooses_all c.args.body.window.features c.args.function c.args.params (rest c.args.body) (declared c.args.runs.now) c.args.locals.now c.declare_all.new.locals (ids c.args.indices.now) (ids c.declare_all.new.indices)
    (sym c.wants_all_locals.ensures ∙ c.if-wants_all_locals.true) c.in_ok-declare_all.ensures.added

pub returns-then-wants_all_locals-clause-kept : goal.returns-then-wants_all_locals-clause-kept
returns-then-wants_all_locals-clause-kept c =
    adds_leaves c.args.function (declared c.args.runs.now) c.args.locals.now c.declare_all.new.locals (ids c.args.indices.now) (ids c.declare_all.new.indices) c.in_ok-declare_all.ensures.added

pub returns-then-total-params-clause-kept : goal.returns-then-total-params-clause-kept
returns-then-total-params-clause-kept c = leaves_nothing c.args.function c.args.locals.now (ids c.args.indices.now)

pub returns-in_err-numbers-clause-kept : goal.returns-in_err-numbers-clause-kept
returns-in_err-numbers-clause-kept c = leaves_nothing c.args.function c.args.locals.now (ids c.args.indices.now)

pub returns-clause-kept : goal.returns-clause-kept
returns-clause-kept c =
    let named = c.in_ok-numbers.ensures.named in
    let many = named.1.many in
    let all : AreAll c.as_slice.result.now (length (declared c.args.runs.now)) named.0 = record {
      many = omega (arith, many, c.requires.counted);
      are = c.as_slice.ensures.value ∙ named.1.are;
    } in
    leaves_kept c.args.function named.0 (declared c.args.runs.now) c.args.locals.now c.declare_kept.new.locals (ids c.args.indices.now) (ids c.declare_kept.new.indices) (c.in_ok-declare_kept.ensures.added named.0 all)
