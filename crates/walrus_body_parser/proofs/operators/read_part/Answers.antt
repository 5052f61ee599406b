use Rattle.std.proofs.Common.{ℕ, Option, ◌≡◌, ◌<◌, ◌-◌, ◌∙◌, Some, ap, inl, inr, arith}
use Rattle.std.proofs.lemmas.Result.{err_from_is_err_and}
use Rattle.walrus_body_operands.specs.walrus_body_rules.wasm_body_grammar.wasm_operators.declared.entry.Entry.{Entry as Row}
use Rattle.walrus_body_operands.specs.walrus_body_rules.wasm_body_grammar.wasm_operators.declared.entry.Flow.{Flow}
use Rattle.walrus_body_operands.specs.walrus_body_rules.wasm_body_grammar.wasm_operators.Operators.{flow_in}
use Rattle.walrus_operators.specs.Operators.{seen}
use Rattle.walrus_body_locals.specs.walrus_body_nesting.Stands.{place_in}
use Rattle.walrus_body_parser.specs.Points.{place_at}
use Rattle.walrus_body_parser.proofs.Takes.{offset_is}
use Rattle.walrus_body_parser.proofs.Reading.{items_refused, change_refused, told_refused, next_read, place_is}
use Rattle.walrus_body_parser.proofs.operators.read_part.Goals as goal

pub overflow_cast-offset : goal.overflow_cast-offset
overflow_cast-offset g c = let e = c.requires.ends in let w = c.requires.within in omega (arith, e, w, c.original_position-offset.ensures)

pub new-place-requires : goal.new-place-requires
new-place-requires g c = let e = c.requires.ends in let w = c.requires.within in omega (arith, e, w, c.original_position-offset.ensures)

pub returns-in_err-step-clause-read : goal.returns-in_err-step-clause-read
returns-in_err-step-clause-read g c =
    let p = err_from_is_err_and c.from_residual-in_err-step.result c.from_residual-in_err-step.ensures.1 in
    rw (p.1, p.2) (items_refused (g.S.Scope.sight c.args.scope.now) g.V.Validator.op_step c.args.code_start c.args.reader.now c.next_known.new.reader c.args.stack.now c.args.validator.now c.in_ok-op.op c.original_position-offset.result
    (c.original_position-offset.ensures ∙ offset_is c.args.reader.now c.requires.within) c.in_ok-op.ensures.read c.in_ok-op.ensures.listed c.args.stack.now c.in_err-step.field-0.0 (elim c.in_err-step.ensures [ inl m ↦ inl m.0 | inr f ↦ inr f ]))

pub returns-in_err-done-clause-read : goal.returns-in_err-done-clause-read
returns-in_err-done-clause-read g c =
    let p = err_from_is_err_and c.from_residual-in_err-done.result c.from_residual-in_err-done.ensures.1 in
    rw (p.1, p.2) (change_refused (g.S.Scope.sight c.args.scope.now) g.V.Validator.op_step c.args.code_start c.args.reader.now c.next_known.new.reader c.args.stack.now c.args.validator.now c.in_ok-op.op c.original_position-offset.result
    (c.original_position-offset.ensures ∙ offset_is c.args.reader.now c.requires.within) c.in_ok-op.ensures.read c.in_ok-op.ensures.listed c.change.new.stack c.in_err-done.field-0.0 c.in_ok-step.ensures.0
    (c.in_err-done.ensures.changed (seen c.in_ok-op.op) c.in_ok-step.ensures.1))

pub returns-in_err-op-2-clause-read : goal.returns-in_err-op-2-clause-read
returns-in_err-op-2-clause-read g c =
    let p = err_from_is_err_and c.from_residual-in_err-op-2.result c.from_residual-in_err-op-2.ensures.1 in
    rw (p.1, p.2) (told_refused (g.S.Scope.sight c.args.scope.now) g.V.Validator.op_step c.args.code_start c.args.reader.now c.next_known.new.reader c.args.stack.now c.args.validator.now c.in_ok-op.op c.original_position-offset.result
    (c.original_position-offset.ensures ∙ offset_is c.args.reader.now c.requires.within) c.in_ok-op.ensures.read c.in_ok-op.ensures.listed c.new-place.result c.change.new.stack c.in_ok-done.done c.op.new.self c.in_err-op-2.field-0.0 c.in_ok-step.ensures.0
    (c.in_ok-done.ensures.changed (seen c.in_ok-op.op) c.in_ok-step.ensures.1) c.in_err-op-2.ensures)

pub returns-clause-read : goal.returns-clause-read
returns-clause-read g c =
    let old = c.args.reader.now in
    let offset = c.original_position-offset.result in
    let at : offset ≡ _ = c.original_position-offset.ensures ∙ offset_is old c.requires.within in
    let small : offset - c.args.code_start < 4294967295 = (let e = c.requires.ends in let w = c.requires.within in omega (arith, e, w, c.original_position-offset.ensures)) in
    let located : place_in c.new-place.result ≡ Some (place_at c.args.code_start old) =
    ap place_in c.new-place.ensures ∙ place_is (offset - c.args.code_start) small ∙ ap (λ (k : ℕ). Some (k - c.args.code_start)) at in
    next_read (g.S.Scope.sight c.args.scope.now) g.V.Validator.op_step c.args.code_start c.args.reader.now c.next_known.new.reader c.args.stack.now c.args.validator.now c.in_ok-op.op c.original_position-offset.result
    (c.original_position-offset.ensures ∙ offset_is c.args.reader.now c.requires.within) c.in_ok-op.ensures.read c.in_ok-op.ensures.listed c.new-place.result c.change.new.stack c.in_ok-done.done c.op.new.self c.in_ok-step.ensures.0 located
    (c.in_ok-done.ensures.changed (seen c.in_ok-op.op) c.in_ok-step.ensures.1) c.in_ok-op-2.ensures

pub next_known-requires-clause-next : goal.next_known-requires-clause-next
next_known-requires-clause-next g c = let h = c.requires.next in (h.0, h.1, h.2)

pub part_of-requires-clause-does : goal.part_of-requires-clause-does
part_of-requires-clause-does g c =
    let h = c.requires.next in
    ap (λ (o : Option Row). flow_in o) (c.in_ok-op.ensures.entry h.0 h.1) ∙ ap (λ (f : Flow). let some : Option Flow = Some f in some) h.3
