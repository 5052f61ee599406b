use Rattle.std.proofs.Common.{◌≡◌, ◌-◌, ◌∙◌, ℕ, Option, Some, length, true, sym, ap}
use Rattle.walrus_forms.specs.declared.value.AbstractHeapType.TheVariants as abstracts
use Rattle.walrus_forms.specs.declared.value.HeapType.TheVariants as heaps
use Rattle.walrus_forms.specs.declared.value.RefType.{RefType}
use Rattle.wasm_operators.specs.declared.entry.Flow.{Flow}
use Rattle.wasm_operators.specs.declared.entry.Flow.TheVariants as flows
use Rattle.wasm_operators.specs.Operators.{flow_of}
use Rattle.walrus_body_steps.specs.wasm_normal_form.Roles.{Runs, cuts_in, role, role_in}
use Rattle.walrus_operators.specs.Immediates.{kind_is}
use Rattle.walrus_operators.specs.Operators.{seen}
use Rattle.walrus_body_steps.specs.walrus_body_rules.Rules.{items_test}
use Rattle.walrus_body_operands.specs.Listed.{holds_list, known_labels}
use Rattle.walrus_body_operands.specs.Steps.{IsStep}
use Rattle.walrus_body_operands.proofs.Finish.{answers, answers_same, bare_tests, labels_known, may_answer, stands}
use Rattle.walrus_body_operands.proofs.Table.{flow_kind}
use Rattle.walrus_body_operands.proofs.steps.step_of.Goals as goal

abbrev some_type : RefType
some_type = record { nullable = true; heap_type = heaps.Abstract abstracts.Func }

abbrev flow_some : Flow → Option Flow
flow_some f = Some f

pub stand-requires-clause-runs : goal.stand-requires-clause-runs
stand-requires-clause-runs g c = (c.requires, ap role_in (sym c.flow.ensures ∙ c.in_default.is))

pub stand-requires-clause-cut : goal.stand-requires-clause-cut
stand-requires-clause-cut g c = ap cuts_in (sym (sym c.flow.ensures ∙ c.in_default.is))

pub returns-in_default : goal.returns-in_default
returns-in_default g c =
    let s = g.S.Scope.sight c.args.scope.now in
    let ids = g.L.Labels.ids c.args.labels.now in
    let op = c.args.op.now in
    let runs : role (seen op) ≡ Runs = ap role_in (sym c.flow.ensures ∙ c.in_default.is) in
    answers_same (holds_list (kind_is op.immediates)) c.stand.result (items_test s (length ids) (seen op)) (items_test s (known_labels (flow_of op.code) (length ids)) (seen op)) c.args.offset (IsStep s ids (seen op))
    (ap (λ (n : ℕ). items_test s n (seen op)) (labels_known (flow_of op.code) (length ids) runs)) c.stand.ensures

pub open-requires-clause-block : goal.open-requires-clause-block
open-requires-clause-block g c = flow_kind c.args.op.now c.requires flows.OpensBlock (sym c.flow.ensures ∙ c.in-Some.is ∙ ap flow_some c.in-OpensBlock.is) some_type some_type

pub open-requires-clause-opens : goal.open-requires-clause-opens
open-requires-clause-opens g c = λ s around. sym c.flow.ensures ∙ c.in-Some.is ∙ ap flow_some c.in-OpensBlock.is

pub returns-in-OpensBlock : goal.returns-in-OpensBlock
returns-in-OpensBlock g c =
    let ids = g.L.Labels.ids c.args.labels.now in
    may_answer (g.S.Scope.sight c.args.scope.now) ids c.args.op.now c.args.offset c.open.result (c.open.ensures (known_labels (flow_of c.args.op.now.code) (length ids)) ids)

pub open-requires-in-OpensLoop-clause-block : goal.open-requires-in-OpensLoop-clause-block
open-requires-in-OpensLoop-clause-block g c = flow_kind c.args.op.now c.requires flows.OpensLoop (sym c.flow.ensures ∙ c.in-Some.is ∙ ap flow_some c.in-OpensLoop.is) some_type some_type

pub open-requires-in-OpensLoop-clause-opens : goal.open-requires-in-OpensLoop-clause-opens
open-requires-in-OpensLoop-clause-opens g c = λ s around. sym c.flow.ensures ∙ c.in-Some.is ∙ ap flow_some c.in-OpensLoop.is

pub returns-in-OpensLoop : goal.returns-in-OpensLoop
returns-in-OpensLoop g c =
    let ids = g.L.Labels.ids c.args.labels.now in
    may_answer (g.S.Scope.sight c.args.scope.now) ids c.args.op.now c.args.offset c.open-in-OpensLoop.result (c.open-in-OpensLoop.ensures (known_labels (flow_of c.args.op.now.code) (length ids)) ids)

pub open-requires-in-OpensIf-clause-block : goal.open-requires-in-OpensIf-clause-block
open-requires-in-OpensIf-clause-block g c = flow_kind c.args.op.now c.requires flows.OpensIf (sym c.flow.ensures ∙ c.in-Some.is ∙ ap flow_some c.in-OpensIf.is) some_type some_type

pub open-requires-in-OpensIf-clause-opens : goal.open-requires-in-OpensIf-clause-opens
open-requires-in-OpensIf-clause-opens g c = λ s around. sym c.flow.ensures ∙ c.in-Some.is ∙ ap flow_some c.in-OpensIf.is

pub returns-in-OpensIf : goal.returns-in-OpensIf
returns-in-OpensIf g c =
    let ids = g.L.Labels.ids c.args.labels.now in
    may_answer (g.S.Scope.sight c.args.scope.now) ids c.args.op.now c.args.offset c.open-in-OpensIf.result (c.open-in-OpensIf.ensures (known_labels (flow_of c.args.op.now.code) (length ids)) ids)

pub open-requires-in-OpensTry-clause-block : goal.open-requires-in-OpensTry-clause-block
open-requires-in-OpensTry-clause-block g c = flow_kind c.args.op.now c.requires flows.OpensTry (sym c.flow.ensures ∙ c.in-Some.is ∙ ap flow_some c.in-OpensTry.is) some_type some_type

pub open-requires-in-OpensTry-clause-opens : goal.open-requires-in-OpensTry-clause-opens
open-requires-in-OpensTry-clause-opens g c = λ s around. sym c.flow.ensures ∙ c.in-Some.is ∙ ap flow_some c.in-OpensTry.is

pub returns-in-OpensTry : goal.returns-in-OpensTry
returns-in-OpensTry g c =
    let ids = g.L.Labels.ids c.args.labels.now in
    may_answer (g.S.Scope.sight c.args.scope.now) ids c.args.op.now c.args.offset c.open-in-OpensTry.result (c.open-in-OpensTry.ensures (known_labels (flow_of c.args.op.now.code) (length ids)) ids)

pub open_table-requires-clause-table : goal.open_table-requires-clause-table
open_table-requires-clause-table g c = flow_kind c.args.op.now c.requires flows.OpensTryTable (sym c.flow.ensures ∙ c.in-Some.is ∙ ap flow_some c.in-OpensTryTable.is) some_type some_type

pub open_table-requires-clause-opens : goal.open_table-requires-clause-opens
open_table-requires-clause-opens g c = sym c.flow.ensures ∙ c.in-Some.is ∙ ap flow_some c.in-OpensTryTable.is

pub catch-requires-clause-tag : goal.catch-requires-clause-tag
catch-requires-clause-tag g c = flow_kind c.args.op.now c.requires flows.Catch (sym c.flow.ensures ∙ c.in-Some.is ∙ ap flow_some c.in-Catch.is) some_type some_type

pub catch-requires-clause-catches : goal.catch-requires-clause-catches
catch-requires-clause-catches g c = sym c.flow.ensures ∙ c.in-Some.is ∙ ap flow_some c.in-Catch.is

pub delegate-requires-clause-label : goal.delegate-requires-clause-label
delegate-requires-clause-label g c = flow_kind c.args.op.now c.requires flows.Delegate (sym c.flow.ensures ∙ c.in-Some.is ∙ ap flow_some c.in-Delegate.is) some_type some_type

pub delegate-requires-clause-hands : goal.delegate-requires-clause-hands
delegate-requires-clause-hands g c = sym c.flow.ensures ∙ c.in-Some.is ∙ ap flow_some c.in-Delegate.is

pub stand-requires-in-Goes-clause-runs : goal.stand-requires-in-Goes-clause-runs
stand-requires-in-Goes-clause-runs g c = (c.requires, ap role_in (sym c.flow.ensures ∙ c.in-Some.is) ∙ stands c.in-Some.flow c.in-Goes.is)

pub stand-requires-in-Goes-clause-cut : goal.stand-requires-in-Goes-clause-cut
stand-requires-in-Goes-clause-cut g c = c.cuts.ensures ∙ ap cuts_in (sym (sym c.flow.ensures ∙ c.in-Some.is))

pub returns-in-Catch : goal.returns-in-Catch
returns-in-Catch g c =
    let ids = g.L.Labels.ids c.args.labels.now in
    may_answer (g.S.Scope.sight c.args.scope.now) ids c.args.op.now c.args.offset c.catch.result (c.catch.ensures (known_labels (flow_of c.args.op.now.code) (length ids)) ids)

pub returns-in-Passes : goal.returns-in-Passes
returns-in-Passes g c =
    let ids = g.L.Labels.ids c.args.labels.now in
    let op = c.args.op.now in
    let is = sym c.flow.ensures ∙ c.in-Some.is ∙ ap flow_some c.in-Passes.is in
    (bare_tests (g.S.Scope.sight c.args.scope.now) (known_labels (flow_of op.code) (length ids)) op (flow_kind op c.requires flows.Passes is some_type some_type), ap role_in is)

pub returns-in-Else : goal.returns-in-Else
returns-in-Else g c =
    let ids = g.L.Labels.ids c.args.labels.now in
    let op = c.args.op.now in
    let is = sym c.flow.ensures ∙ c.in-Some.is ∙ ap flow_some c.in-Else.is in
    (bare_tests (g.S.Scope.sight c.args.scope.now) (known_labels (flow_of op.code) (length ids)) op (flow_kind op c.requires flows.Else is some_type some_type), is)

pub returns-in-CatchAll : goal.returns-in-CatchAll
returns-in-CatchAll g c =
    let ids = g.L.Labels.ids c.args.labels.now in
    let op = c.args.op.now in
    let is = sym c.flow.ensures ∙ c.in-Some.is ∙ ap flow_some c.in-CatchAll.is in
    (bare_tests (g.S.Scope.sight c.args.scope.now) (known_labels (flow_of op.code) (length ids)) op (flow_kind op c.requires flows.CatchAll is some_type some_type), is)

pub returns-in-End : goal.returns-in-End
returns-in-End g c =
    let ids = g.L.Labels.ids c.args.labels.now in
    let op = c.args.op.now in
    let is = sym c.flow.ensures ∙ c.in-Some.is ∙ ap flow_some c.in-End.is in
    (bare_tests (g.S.Scope.sight c.args.scope.now) (known_labels (flow_of op.code) (length ids)) op (flow_kind op c.requires flows.End is some_type some_type), is)

pub returns-in-OpensTryTable : goal.returns-in-OpensTryTable
returns-in-OpensTryTable g c =
    let s = g.S.Scope.sight c.args.scope.now in
    let ids = g.L.Labels.ids c.args.labels.now in
    let op = c.args.op.now in
    answers_same (holds_list (kind_is op.immediates)) c.open_table.result (items_test s (length ids) (seen op)) (items_test s (known_labels (flow_of op.code) (length ids)) (seen op)) c.args.offset (IsStep s ids (seen op))
    (ap (λ (n : ℕ). items_test s n (seen op)) (ap (λ (f : Option Flow). known_labels f (length ids)) (sym c.flow.ensures ∙ c.in-Some.is ∙ ap flow_some c.in-OpensTryTable.is))) (c.open_table.ensures)

pub returns-in-Delegate : goal.returns-in-Delegate
returns-in-Delegate g c =
    let s = g.S.Scope.sight c.args.scope.now in
    let ids = g.L.Labels.ids c.args.labels.now in
    let op = c.args.op.now in
    answers_same (holds_list (kind_is op.immediates)) c.delegate.result (items_test s (length ids - 1) (seen op)) (items_test s (known_labels (flow_of op.code) (length ids)) (seen op)) c.args.offset (IsStep s ids (seen op))
    (ap (λ (n : ℕ). items_test s n (seen op)) (ap (λ (f : Option Flow). known_labels f (length ids)) (sym c.flow.ensures ∙ c.in-Some.is ∙ ap flow_some c.in-Delegate.is)))
    (answers (holds_list (kind_is op.immediates)) c.delegate.result (items_test s (length ids - 1) (seen op)) c.args.offset (IsStep s ids (seen op)) (c.delegate.ensures s))

pub returns-in-Goes : goal.returns-in-Goes
returns-in-Goes g c =
    let s = g.S.Scope.sight c.args.scope.now in
    let ids = g.L.Labels.ids c.args.labels.now in
    let op = c.args.op.now in
    answers_same (holds_list (kind_is op.immediates)) c.stand-in-Goes.result (items_test s (length ids) (seen op)) (items_test s (known_labels (flow_of op.code) (length ids)) (seen op)) c.args.offset (IsStep s ids (seen op))
    (ap (λ (n : ℕ). items_test s n (seen op)) (labels_known (flow_of op.code) (length ids) (ap role_in (sym c.flow.ensures ∙ c.in-Some.is) ∙ stands c.in-Some.flow c.in-Goes.is))) (c.stand-in-Goes.ensures)
