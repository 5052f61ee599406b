use Rattle.std.proofs.Common.{subst}
use Rattle.walrus_body_locals.specs.walrus_body_nesting.Opens.{ids_of}
use Rattle.walrus_body_operands.specs.walrus_body_stack.Frames.{opens}
use Rattle.walrus_body_operands.specs.declared.steps.Step.{Step}
use Rattle.walrus_body_operands.specs.Steps.{IsStep}
use Rattle.walrus_body_operands.specs.walrus_body_steps.Stepping.{openings_are_steps, turns_are_steps, ends_are_steps}
use Rattle.walrus_body_locals.specs.wasm_body_grammar.Frames.{Plain}
use Rattle.walrus_body_locals.specs.walrus_body_nesting.Stands.{Otherwise}
use Rattle.walrus_body_operands.specs.walrus_body_stack.Frames.{inner}
use Rattle.walrus_body_parser.proofs.Turning.{run_on}
use Rattle.walrus_body_parser.proofs.Typing.{entry_ran, entry_opened, entry_turned, entry_ended}
use Rattle.walrus_body_parser.proofs.steps.change.Goals as goal

pub returns-in_ok-run-in-Run-clause-changed : goal.returns-in_ok-run-in-Run-clause-changed
returns-in_ok-run-in-Run-clause-changed g c = λ op h.
    let s = g.S.Scope.sight c.args.scope.now in
    let F : Step → Type 0 = λ z. IsStep s (ids_of (opens c.args.stack.now)) op z in
    run_on s c.args.stack.now c.run.new.self op c.in-Run.instr c.args.place c.in-Run.cuts (subst F c.in-Run.is h) c.requires c.in_ok-run-in-Run.ensures.blocks c.in_ok-run-in-Run.ensures.opens

pub returns-in_ok-open-in-Open-clause-changed : goal.returns-in_ok-open-in-Open-clause-changed
returns-in_ok-open-in-Open-clause-changed g c = λ op h.
    let s = g.S.Scope.sight c.args.scope.now in
    let F : Step → Type 0 = λ z. IsStep s (ids_of (opens c.args.stack.now)) op z in
    let k = subst F c.in-Open.is h in
    openings_are_steps s c.args.stack.now c.open.new.self op c.in-Open.opener c.in-Open.ty c.args.place k.0 k.1 c.requires c.in_ok-open-in-Open.ensures.opened

pub returns-in_ok-begin_else-in-Else-clause-changed : goal.returns-in_ok-begin_else-in-Else-clause-changed
returns-in_ok-begin_else-in-Else-clause-changed g c = λ op h.
    let s = g.S.Scope.sight c.args.scope.now in
    let F : Step → Type 0 = λ z. IsStep s (ids_of (opens c.args.stack.now)) op z in
    turns_are_steps.others s c.args.stack.now c.begin_else.new.self op c.args.place (subst F c.in-Else.is h) c.in_ok-begin_else-in-Else.ensures.passed c.requires c.in_ok-begin_else-in-Else.ensures.turned

pub returns-in_ok-done-in-End-clause-changed : goal.returns-in_ok-done-in-End-clause-changed
returns-in_ok-done-in-End-clause-changed g c = λ op h.
    let s = g.S.Scope.sight c.args.scope.now in
    let F : Step → Type 0 = λ z. IsStep s (ids_of (opens c.args.stack.now)) op z in
    ends_are_steps s c.args.stack.now c.end.new.self op c.args.place c.in_ok-done-in-End.done (subst F c.in-End.is h) c.requires c.in_ok-done-in-End.ensures.ended

pub returns-in_ok-run-in-Run-clause-entry : goal.returns-in_ok-run-in-Run-clause-entry
returns-in_ok-run-in-Run-clause-entry g c = entry_ran c.args.stack.now c.run.new.self c.in_ok-run-in-Run.ensures.blocks

pub returns-in_ok-open-in-Open-clause-entry : goal.returns-in_ok-open-in-Open-clause-entry
returns-in_ok-open-in-Open-clause-entry g c = entry_opened c.in-Open.opener c.args.place c.in-Open.ty c.args.stack.now c.open.new.self c.requires c.in_ok-open-in-Open.ensures.opened

pub returns-in_ok-begin_else-in-Else-clause-entry : goal.returns-in_ok-begin_else-in-Else-clause-entry
returns-in_ok-begin_else-in-Else-clause-entry g c =
    entry_turned Otherwise Plain (inner c.args.stack.now).ty c.args.place c.args.stack.now c.begin_else.new.self c.requires c.in_ok-begin_else-in-Else.ensures.turned

pub returns-in_ok-done-in-End-clause-entry : goal.returns-in_ok-done-in-End-clause-entry
returns-in_ok-done-in-End-clause-entry g c = entry_ended c.in_ok-done-in-End.done c.args.place c.args.stack.now c.end.new.self c.requires c.in_ok-done-in-End.ensures.ended
