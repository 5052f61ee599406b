use Rattle.std.proofs.Common.{◌∙◌, ℕ, List, [], ◌∷◌, sym, ap, subst, length, true, refl, inl, inr}
use Rattle.wasm_ref_types.specs.declared.value.ValType.{ValType}
use Rattle.wasm_operators.specs.Items.{Labels, Names, ManyLabels, ManyValues}
use Rattle.walrus_operators.specs.declared.immediates.Immediates.{Immediates}
use Rattle.walrus_body_steps.specs.walrus_body_nesting.Faults.{Answers}
use Rattle.walrus_body_operands.specs.Listed.{holds_list, opened_by}
use Rattle.walrus_forms.specs.declared.value.AbstractHeapType.TheVariants as abstracts
use Rattle.walrus_forms.specs.declared.value.HeapType.TheVariants as heaps
use Rattle.walrus_forms.specs.declared.value.RefType.{RefType}
use Rattle.walrus_operators.specs.declared.immediates.Immediates.TheVariants as imm
use Rattle.walrus_operators.specs.Immediates.{items_of, kind_is}
use Rattle.walrus_operators.specs.Operators.{seen}
use Rattle.walrus_body_steps.specs.walrus_body_rules.Rules.{items_test}
use Rattle.walrus_body_steps.specs.Meanings.{RunsAs}
use Rattle.walrus_body_operands.specs.Asked.{Meets, cast_test, label_test, select_test, tests_of}
use Rattle.walrus_body_operands.proofs.Finish.{answers, answers_of, answers_with}
use Rattle.walrus_body_operands.proofs.Table.{cast_runs, label_runs, unopened}
use Rattle.walrus_body_operands.proofs.Tests.{cast_tests, select_tests, table_tests}
use Rattle.walrus_body_operands.proofs.runs.run.Goals as goal
use Rattle.walrus_body_steps.specs.wasm_grammar.Values.{first_of}

abbrev some_type : RefType
some_type = record { nullable = true; heap_type = heaps.Abstract abstracts.Func }

pub branch-code-requires : goal.branch-code-requires
branch-code-requires g c = λ k. label_runs c.args.op.now c.requires (ap kind_is c.in-Label.is) some_type some_type c.in-Label.depth k

pub cast-requires : goal.cast-requires
cast-requires g c = λ k from to. cast_runs c.args.op.now c.requires (ap kind_is c.in-Cast.is) k from to

pub unreachable-requires : goal.unreachable-requires
unreachable-requires g c =
    let none = unopened c.args.op.now c.requires some_type some_type in
    elim c.in-Block.is [
      | inl h ↦ absurd (let e = sym (ap (λ (x : Immediates). opened_by (kind_is x)) h.1) ∙ none in cc)
      | inr h ↦ absurd (let e = sym (ap (λ (x : Immediates). opened_by (kind_is x)) h.2) ∙ none in cc)
    ]

pub unreachable-unreachable : goal.unreachable-unreachable
unreachable-unreachable g c = c.unreachable.result

pub returns-in-Label : goal.returns-in-Label
returns-in-Label g c =
    let s = g.S.Scope.sight c.args.scope.now in
    let ids = g.L.Labels.ids c.args.labels.now in
    let op = c.args.op.now in
    let n = c.in-Label.depth in
    let test = items_test s (length ids) (record { code = op.code; items = items_of (imm.Label n) }) in
    answers_of (holds_list (kind_is op.immediates)) s (length ids) ids op.code op.immediates (imm.Label n) c.branch-code.result test c.args.offset c.in-Label.is refl
    (answers (holds_list (kind_is op.immediates)) c.branch-code.result test c.args.offset (RunsAs s ids op.code (items_of (imm.Label n))) (c.branch-code.ensures s))

pub returns-in-BrTable : goal.returns-in-BrTable
returns-in-BrTable g c =
    let s = g.S.Scope.sight c.args.scope.now in
    let ids = g.L.Labels.ids c.args.labels.now in
    let op = c.args.op.now in
    let w = c.in-BrTable in
    answers_of (holds_list (kind_is op.immediates)) s (length ids) ids op.code op.immediates (imm.BrTable w.depths w.last) c.branch_table.result (first_of (tests_of (label_test ids) w.depths.items) (label_test ids w.last)) c.args.offset w.is
    (table_tests s ids op.code w.depths.items w.last) (answers_with (holds_list (kind_is op.immediates)) c.branch_table.result (first_of (tests_of (label_test ids) w.depths.items) (label_test ids w.last)) c.args.offset (RunsAs s ids op.code (ManyLabels w.depths.items ∷ Names Labels w.last ∷ []))
    (ap (λ (x : Immediates). holds_list (kind_is x)) w.is) (subst (λ (ns : List ℕ). Answers c.branch_table.result (first_of (tests_of (label_test ids) ns) (label_test ids w.last)) c.args.offset (RunsAs s ids op.code (ManyLabels ns ∷ Names Labels w.last ∷ []))) c.as_slice.ensures.value (c.branch_table.ensures s op.code)))

pub returns-in-Cast : goal.returns-in-Cast
returns-in-Cast g c =
    let s = g.S.Scope.sight c.args.scope.now in
    let ids = g.L.Labels.ids c.args.labels.now in
    let op = c.args.op.now in
    let w = c.in-Cast in
    let test = cast_test s ids w.depth w.from w.to in
    answers_of (holds_list (kind_is op.immediates)) s (length ids) ids op.code op.immediates (imm.Cast w.flags w.depth w.from w.to) c.cast.result test c.args.offset w.is (cast_tests s ids op.code w.flags w.depth w.from w.to)
    (answers (holds_list (kind_is op.immediates)) c.cast.result test c.args.offset (RunsAs s ids op.code (items_of (imm.Cast w.flags w.depth w.from w.to))) c.cast.ensures)

pub returns-in-Select : goal.returns-in-Select
returns-in-Select g c =
    let s = g.S.Scope.sight c.args.scope.now in
    let ids = g.L.Labels.ids c.args.labels.now in
    let op = c.args.op.now in
    let w = c.in-Select in
    let test = select_test s w.types.items in
    answers_of (holds_list (kind_is op.immediates)) s (length ids) ids op.code op.immediates (imm.Select w.types) c.select.result test c.args.offset w.is (select_tests s (length ids) op.code w.types.items)
    (answers (holds_list (kind_is op.immediates)) c.select.result test c.args.offset (RunsAs s ids op.code (items_of (imm.Select w.types))) (subst (λ (tys : List ValType). Meets c.select.result (select_test s tys) c.args.offset (RunsAs s ids op.code (ManyValues tys ∷ []))) c.as_slice-in-Select.ensures.value (c.select.ensures ids op.code)))

pub returns-in-Heap : goal.returns-in-Heap
returns-in-Heap g c =
    let s = g.S.Scope.sight c.args.scope.now in
    let ids = g.L.Labels.ids c.args.labels.now in
    let op = c.args.op.now in
    answers (holds_list (kind_is op.immediates)) c.on_heap.result (items_test s (length ids) (seen op)) c.args.offset (RunsAs s ids op.code (items_of op.immediates)) (c.on_heap.ensures (length ids) ids)

pub returns-in-Bare : goal.returns-in-Bare
returns-in-Bare g c =
    let s = g.S.Scope.sight c.args.scope.now in
    let ids = g.L.Labels.ids c.args.labels.now in
    let op = c.args.op.now in
    answers (holds_list (kind_is op.immediates)) c.plain.result (items_test s (length ids) (seen op)) c.args.offset (RunsAs s ids op.code (items_of op.immediates)) (c.plain.ensures (length ids) ids)

pub returns-in-DataMemory : goal.returns-in-DataMemory
returns-in-DataMemory g c =
    let s = g.S.Scope.sight c.args.scope.now in
    let ids = g.L.Labels.ids c.args.labels.now in
    let op = c.args.op.now in
    answers (holds_list (kind_is op.immediates)) c.on_segment.result (items_test s (length ids) (seen op)) c.args.offset (RunsAs s ids op.code (items_of op.immediates)) (c.on_segment.ensures (length ids) ids)
