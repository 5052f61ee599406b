use Rattle.std.proofs.Common.{◌≡◌, ◌∙◌, ap, length, Option}
use Rattle.std.specs.Prelude.{Some, true}
use Rattle.walrus_forms.specs.declared.value.AbstractHeapType.TheVariants as abstracts
use Rattle.walrus_forms.specs.declared.value.HeapType.TheVariants as heaps
use Rattle.walrus_forms.specs.declared.value.RefType.{RefType}
use Rattle.wasm_operators.specs.declared.entry.Flow.{Flow}
use Rattle.wasm_operators.specs.declared.entry.Flow.TheVariants as flows
use Rattle.wasm_operators.specs.Operators.{flow_of}
use Rattle.walrus_body_operands.specs.Listed.{known_labels}
use Rattle.walrus_body_operands.proofs.Finish.{bare_tests}
use Rattle.walrus_body_operands.proofs.Table.{flow_kind}
use Rattle.walrus_body_operands.proofs.steps.part_of.Goals as goal

abbrev some_type : RefType
some_type = record { nullable = true; heap_type = heaps.Abstract abstracts.Func }

pub returns-in-End : goal.returns-in-End
returns-in-End g c =
    let ids = g.L.Labels.ids c.args.labels.now in
    let op = c.args.op.now in
    let does : flow_of op.code ≡ Some flows.End = c.requires.does ∙ ap (λ (f : Flow). let some : Option Flow = Some f in some) c.in-End.is in
    (bare_tests (g.S.Scope.sight c.args.scope.now) (known_labels (flow_of op.code) (length ids)) op (flow_kind op c.requires.listed flows.End does some_type some_type), does)

pub returns-in-Else : goal.returns-in-Else
returns-in-Else g c =
    let ids = g.L.Labels.ids c.args.labels.now in
    let op = c.args.op.now in
    let does : flow_of op.code ≡ Some flows.Else = c.requires.does ∙ ap (λ (f : Flow). let some : Option Flow = Some f in some) c.in-Else.is in
    (bare_tests (g.S.Scope.sight c.args.scope.now) (known_labels (flow_of op.code) (length ids)) op (flow_kind op c.requires.listed flows.Else does some_type some_type), does)
