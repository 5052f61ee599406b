use Rattle.std.proofs.Common.{ℕ, ◌≡◌, ◌<◌, ◌-◌, ◌∙◌, Option, Some, false, ap, inr, length, arith}
use Rattle.std.proofs.lemmas.Result.{err_from_is_err_and}
use Rattle.walrus_body_operands.specs.walrus_body_rules.wasm_body_grammar.wasm_operators.declared.entry.Entry.{Entry as Row}
use Rattle.walrus_body_operands.specs.walrus_body_rules.wasm_body_grammar.wasm_operators.declared.entry.Flow.{Flow}
use Rattle.walrus_body_operands.specs.walrus_body_rules.wasm_body_grammar.wasm_operators.declared.entry.Kind.{Kind}
use Rattle.walrus_body_operands.specs.walrus_body_rules.wasm_body_grammar.wasm_operators.Operators.{flow_in, flow_of}
use Rattle.walrus_operators.specs.Operators.{seen}
use Rattle.walrus_body_operands.specs.Listed.{begins_block, known_labels}
use Rattle.walrus_body_operands.specs.walrus_body_stack.Frames.{opens}
use Rattle.walrus_body_operands.specs.walrus_body_steps.Stepping.{openings_are_steps}
use Rattle.walrus_body_locals.specs.walrus_body_nesting.Opens.{ids_of}
use Rattle.walrus_body_locals.specs.walrus_body_nesting.Stands.{place_in}
use Rattle.walrus_body_parser.specs.Points.{place_at}
use Rattle.walrus_body_parser.proofs.Takes.{offset_is}
use Rattle.walrus_body_parser.proofs.Reading.{items_refused, told_refused, next_read, place_is}
use Rattle.walrus_body_parser.proofs.Typing.{entry_opened}
use Rattle.walrus_body_parser.proofs.operators.read_opening.Goals as goal

pub overflow_cast-offset : goal.overflow_cast-offset
overflow_cast-offset g c = let e = c.requires.ends in let w = c.requires.within in omega (arith, e, w, c.original_position-offset.ensures)

pub new-place-requires : goal.new-place-requires
new-place-requires g c = let e = c.requires.ends in let w = c.requires.within in omega (arith, e, w, c.original_position-offset.ensures)

pub returns-in_err-ty-clause-read : goal.returns-in_err-ty-clause-read
returns-in_err-ty-clause-read g c =
    let p = err_from_is_err_and c.from_residual-in_err-ty.result c.from_residual-in_err-ty.ensures.1 in
    rw (p.1, p.2) (items_refused (g.S.Scope.sight c.args.scope.now) g.V.Validator.op_step c.args.code_start c.args.reader.now c.next_known.new.reader c.args.stack.now c.args.validator.now c.in_ok-op.op c.original_position-offset.result
    (c.original_position-offset.ensures ∙ offset_is c.args.reader.now c.requires.within) c.in_ok-op.ensures.read c.in_ok-op.ensures.listed c.args.stack.now c.in_err-ty.field-0.0
    (inr (c.in_err-ty.ensures (known_labels (flow_of c.in_ok-op.op.code) (length (ids_of (opens c.args.stack.now)))))))

pub returns-in_err-op-2-clause-read : goal.returns-in_err-op-2-clause-read
returns-in_err-op-2-clause-read g c =
    let p = err_from_is_err_and c.from_residual-in_err-op-2.result c.from_residual-in_err-op-2.ensures.1 in
    let s = g.S.Scope.sight c.args.scope.now in
    let h = c.requires.next in
    let does : flow_of c.in_ok-op.op.code ≡ Some c.args.flow =
    ap (λ (o : Option Row). flow_in o) (c.in_ok-op.ensures.entry h.0 h.1) ∙ ap (λ (f : Flow). let some : Option Flow = Some f in some) h.3 in
    let typed = c.in_ok-ty.ensures (known_labels (flow_of c.in_ok-op.op.code) (length (ids_of (opens c.args.stack.now)))) in
    rw (p.1, p.2) (told_refused s g.V.Validator.op_step c.args.code_start c.args.reader.now c.next_known.new.reader c.args.stack.now c.args.validator.now c.in_ok-op.op c.original_position-offset.result
    (c.original_position-offset.ensures ∙ offset_is c.args.reader.now c.requires.within) c.in_ok-op.ensures.read c.in_ok-op.ensures.listed c.new-place.result c.open.new.self false c.op.new.self c.in_err-op-2.field-0.0 typed.0
    (openings_are_steps s c.args.stack.now c.open.new.self (seen c.in_ok-op.op) c.opener_of-opener.result c.in_ok-ty.ty c.new-place.result
    (c.opener_of-opener.ensures s (ids_of (opens c.args.stack.now)) (seen c.in_ok-op.op) does) typed.1 c.requires.shaped c.in_ok-open.ensures.opened) c.in_err-op-2.ensures)

pub returns-clause-read : goal.returns-clause-read
returns-clause-read g c =
    let old = c.args.reader.now in
    let s = g.S.Scope.sight c.args.scope.now in
    let h = c.requires.next in
    let does : flow_of c.in_ok-op.op.code ≡ Some c.args.flow =
    ap (λ (o : Option Row). flow_in o) (c.in_ok-op.ensures.entry h.0 h.1) ∙ ap (λ (f : Flow). let some : Option Flow = Some f in some) h.3 in
    let typed = c.in_ok-ty.ensures (known_labels (flow_of c.in_ok-op.op.code) (length (ids_of (opens c.args.stack.now)))) in
    let offset = c.original_position-offset.result in
    let at : offset ≡ _ = c.original_position-offset.ensures ∙ offset_is old c.requires.within in
    let small : offset - c.args.code_start < 4294967295 = (let e = c.requires.ends in let w = c.requires.within in omega (arith, e, w, c.original_position-offset.ensures)) in
    let located : place_in c.new-place.result ≡ Some (place_at c.args.code_start old) =
    ap place_in c.new-place.ensures ∙ place_is (offset - c.args.code_start) small ∙ ap (λ (k : ℕ). Some (k - c.args.code_start)) at in
    next_read s g.V.Validator.op_step c.args.code_start c.args.reader.now c.next_known.new.reader c.args.stack.now c.args.validator.now c.in_ok-op.op c.original_position-offset.result
    (c.original_position-offset.ensures ∙ offset_is c.args.reader.now c.requires.within) c.in_ok-op.ensures.read c.in_ok-op.ensures.listed c.new-place.result c.open.new.self false c.op.new.self typed.0 located
    (openings_are_steps s c.args.stack.now c.open.new.self (seen c.in_ok-op.op) c.opener_of-opener.result c.in_ok-ty.ty c.new-place.result
    (c.opener_of-opener.ensures s (ids_of (opens c.args.stack.now)) (seen c.in_ok-op.op) does) typed.1 c.requires.shaped c.in_ok-open.ensures.opened) c.in_ok-op-2.ensures

pub next_known-requires-clause-next : goal.next_known-requires-clause-next
next_known-requires-clause-next g c = let h = c.requires.next in (h.0, h.1, h.2)

pub opened_type-requires : goal.opened_type-requires
opened_type-requires g c = ap (λ (k : Kind). begins_block k) c.in_ok-op.ensures.kind

pub returns-clause-entry : goal.returns-clause-entry
returns-clause-entry g c = entry_opened c.opener_of-opener.result c.new-place.result c.in_ok-ty.ty c.args.stack.now c.open.new.self c.requires.shaped c.in_ok-open.ensures.opened
