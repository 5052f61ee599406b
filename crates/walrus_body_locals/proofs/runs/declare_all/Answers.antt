use Rattle.std.proofs.Common.{List, [], ◌∷◌, refl, subst, sym, take}
use Rattle.std.specs.List.{repeat}
use Rattle.std.proofs.lemmas.Option.{slice_get_read}
use Rattle.walrus_forms.specs.declared.value.ValType.{ValType}
use Rattle.walrus_index_maps.specs.Views.{ids}
use Rattle.walrus_body_nesting.specs.wasm_body_grammar.Bodies.{declared}
use Rattle.walrus_body_locals.specs.Locals.{Adds}
use Rattle.walrus_body_locals.proofs.Adding.{adds_more}
use Rattle.walrus_body_locals.proofs.DeclaringRuns.{declared_next}
use Rattle.walrus_body_locals.proofs.Keeping.{leaves_more, on_err}
use Rattle.walrus_body_locals.proofs.runs.declare_all.Goals as goal

pub returns-in_err-declare-clause-refused : goal.returns-in_err-declare-clause-refused
returns-in_err-declare-clause-refused c =
    on_err c.from_residual.result
    (leaves_more c.args.function (declared (take c.loop-run.run-index c.args.runs.now)) c.args.locals.now c.loop-run.locals c.declare.new.locals (ids c.args.indices.now) (ids c.loop-run.indices) (ids c.declare.new.indices)
    c.loop-run.invariant c.in_err-declare.ensures.refused)

pub loop-run-preserved : goal.loop-run-preserved
loop-run-preserved c =
    let runs = c.args.runs.now in
    let run = c.run-item.result in
    let there = slice_get_read runs _ c.loop-run.run-index run refl c.loop-run-test.true c.run-item.is in
    subst (λ (tys : List ValType). Adds c.args.function tys c.args.locals.now c.declare.new.locals (ids c.args.indices.now) (ids c.declare.new.indices)) (sym (declared_next runs c.loop-run.run-index run there))
    (adds_more c.args.function (declared (take c.loop-run.run-index runs)) (repeat run.0 (run.1 ∷ [])) c.args.locals.now c.loop-run.locals c.declare.new.locals (ids c.args.indices.now) (ids c.loop-run.indices) (ids c.declare.new.indices)
    c.loop-run.invariant c.in_ok-declare.ensures.added)
