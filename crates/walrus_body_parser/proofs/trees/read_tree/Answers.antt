use Rattle.std.proofs.Common.{◌≡◌, List, Some, Bool, false, length, subst, sym, ap, ◌∙◌}
use Rattle.std.proofs.lemmas.Result.{err_from_is_err_and}
use Rattle.wasm_reader.specs.Cursor.{Cursor, rest}
use Rattle.walrus_body_operands.specs.walrus_body_stack.walrus_builder.Built.{Seq}
use Rattle.walrus_body_locals.specs.walrus_body_nesting.Opens.{Good, type_at}
use Rattle.walrus_body_locals.specs.walrus_body_nesting.Stands.{total}
use Rattle.walrus_body_operands.specs.walrus_body_stack.Frames.{blocks, opens}
use Rattle.walrus_body_parser.specs.Trees.{Goes, validating, ReadsTree}
use Rattle.walrus_body_parser.proofs.Looping.{one, goes_start, goes_on, goes_fails, goes_done, goes_barred, goes_left, none_left, some_left, offset_in, offset_end}
use Rattle.walrus_body_parser.proofs.Running.{read_less, ended_less}
use Rattle.walrus_body_parser.proofs.trees.read_tree.Goals as goal

pub loop-done-init : goal.loop-done-init
loop-done-init g c =
    let o = c.new-stack.ensures.opens in
    let b = c.new-stack.ensures.blocks in
    let F : List Seq → Type 0 = λ l. type_at l 0 ≡ Some o.0 in
    let G : Cursor → Type 0 = λ r. Goes (g.S.Scope.sight c.args.scope.now) (validating g.V.Validator.op_step g.V.Validator.finish_step) c.args.code_start c.args.body c.args.validator.now false (blocks c.new-stack.result) (opens c.new-stack.result) r c.args.validator.now in (
      subst G (sym c.new-reader.ensures)
          (goes_start (g.S.Scope.sight c.args.scope.now) (validating g.V.Validator.op_step g.V.Validator.finish_step) c.args.code_start c.args.body c.args.validator.now c.new-stack.result o.0 (one c.args.builder.builder (blocks c.new-stack.result) b c.requires.empty) (ap total b ∙ c.requires.bare) (subst F (sym b) o.1) o.2 c.requires.within c.requires.begins),
      c.new-stack.ensures.ty,
      ap (λ (l : List Seq). type_at l 0) b,
    )

pub returns-in_err-done-clause-refused : goal.returns-in_err-done-clause-refused
returns-in_err-done-clause-refused g c =
    let p = err_from_is_err_and c.from_residual.result c.from_residual.ensures.1 in
    let F : Bool → Type 0 = λ d. Goes (g.S.Scope.sight c.args.scope.now) (validating g.V.Validator.op_step g.V.Validator.finish_step) c.args.code_start c.args.body c.args.validator.now d (blocks c.loop-done.stack) (opens c.loop-done.stack) c.loop-done.reader c.loop-done.validator in
    let here = subst F c.loop-done-test.true c.loop-done.invariant.0 in
    rw (p.1, p.2) (c.in_err-done.ensures.follows c.args.body c.args.validator.now here)

pub read_any-requires-clause-shaped : goal.read_any-requires-clause-shaped
read_any-requires-clause-shaped g c =
    let F : Bool → Type 0 = λ d. Good d (blocks c.read_frequent.new.stack) (opens c.read_frequent.new.stack) in
    subst F c.if-not-done.true c.in_ok-done.ensures.shaped

pub returns-in_err-done-2-clause-refused : goal.returns-in_err-done-2-clause-refused
returns-in_err-done-2-clause-refused g c =
    let p = err_from_is_err_and c.from_residual-in_err-done-2.result c.from_residual-in_err-done-2.ensures.1 in
    let F : Bool → Type 0 = λ d. Goes (g.S.Scope.sight c.args.scope.now) (validating g.V.Validator.op_step g.V.Validator.finish_step) c.args.code_start c.args.body c.args.validator.now d (blocks c.loop-done.stack) (opens c.loop-done.stack) c.loop-done.reader c.loop-done.validator in
    let here = subst F c.loop-done-test.true c.loop-done.invariant.0 in
    let K : Bool → Type 0 = λ d. Goes (g.S.Scope.sight c.args.scope.now) (validating g.V.Validator.op_step g.V.Validator.finish_step) c.args.code_start c.args.body c.args.validator.now d (blocks c.read_frequent.new.stack) (opens c.read_frequent.new.stack) c.read_frequent.new.reader c.read_frequent.new.validator in
    let on = subst K c.if-not-done.true (c.in_ok-done.ensures.follows c.args.body c.args.validator.now here) in
    rw (p.1, p.2) (goes_fails (g.S.Scope.sight c.args.scope.now) (validating g.V.Validator.op_step g.V.Validator.finish_step) c.args.code_start c.args.body c.args.validator.now c.read_frequent.new.stack c.read_frequent.new.reader c.read_frequent.new.validator on
    c.read_any.new.reader c.read_any.new.stack c.read_any.new.validator c.in_err-done-2.field-0.0 c.in_err-done-2.ensures.read)

pub loop-done-preserved-then-not-done : goal.loop-done-preserved-then-not-done
loop-done-preserved-then-not-done g c =
    let F : Bool → Type 0 = λ d. Goes (g.S.Scope.sight c.args.scope.now) (validating g.V.Validator.op_step g.V.Validator.finish_step) c.args.code_start c.args.body c.args.validator.now d (blocks c.loop-done.stack) (opens c.loop-done.stack) c.loop-done.reader c.loop-done.validator in
    let here = subst F c.loop-done-test.true c.loop-done.invariant.0 in
    let K : Bool → Type 0 = λ d. Goes (g.S.Scope.sight c.args.scope.now) (validating g.V.Validator.op_step g.V.Validator.finish_step) c.args.code_start c.args.body c.args.validator.now d (blocks c.read_frequent.new.stack) (opens c.read_frequent.new.stack) c.read_frequent.new.reader c.read_frequent.new.validator in
    let on = subst K c.if-not-done.true (c.in_ok-done.ensures.follows c.args.body c.args.validator.now here) in (
      goes_on (g.S.Scope.sight c.args.scope.now) (validating g.V.Validator.op_step g.V.Validator.finish_step) c.args.code_start c.args.body c.args.validator.now c.read_frequent.new.stack c.read_frequent.new.reader c.read_frequent.new.validator on
          c.read_any.new.reader c.read_any.new.stack c.read_any.new.validator c.in_ok-done-2.done c.in_ok-done-2.ensures.read c.in_ok-done-2.ensures.takes c.read_any.ensures.moves,
      c.in_ok-done-2.ensures.ty ∙ c.in_ok-done.ensures.ty ∙ c.loop-done.invariant.1,
      c.in_ok-done-2.ensures.entry ∙ c.in_ok-done.ensures.entry ∙ c.loop-done.invariant.2,
    )

pub loop-done-smaller-then-not-done : goal.loop-done-smaller-then-not-done
loop-done-smaller-then-not-done g c =
    read_less (length (rest c.read_any.new.reader)) (length (rest c.read_frequent.new.reader)) (length (rest c.loop-done.reader)) c.in_ok-done-2.done c.loop-done.done c.loop-done-test.true c.in_ok-done-2.ensures.takes c.in_ok-done.ensures.left

pub loop-done-smaller : goal.loop-done-smaller
loop-done-smaller g c =
    ended_less (length (rest c.read_frequent.new.reader)) (length (rest c.loop-done.reader)) c.in_ok-done.done c.loop-done.done c.loop-done-test.true c.if-not-done.false c.in_ok-done.ensures.left

pub loop-done-preserved : goal.loop-done-preserved
loop-done-preserved g c =
    let F : Bool → Type 0 = λ d. Goes (g.S.Scope.sight c.args.scope.now) (validating g.V.Validator.op_step g.V.Validator.finish_step) c.args.code_start c.args.body c.args.validator.now d (blocks c.loop-done.stack) (opens c.loop-done.stack) c.loop-done.reader c.loop-done.validator in
    let here = subst F c.loop-done-test.true c.loop-done.invariant.0 in (
      c.in_ok-done.ensures.follows c.args.body c.args.validator.now here,
      c.in_ok-done.ensures.ty ∙ c.loop-done.invariant.1,
      c.in_ok-done.ensures.entry ∙ c.loop-done.invariant.2,
    )

pub returns-then-not-eof-clause-refused : goal.returns-then-not-eof-clause-refused
returns-then-not-eof-clause-refused g c =
    let F : Bool → Type 0 = λ d. Goes (g.S.Scope.sight c.args.scope.now) (validating g.V.Validator.op_step g.V.Validator.finish_step) c.args.code_start c.args.body c.args.validator.now d (blocks c.loop-done.stack) (opens c.loop-done.stack) c.loop-done.reader c.loop-done.validator in
    let h = c.loop-done.invariant.0 in
    goes_left (g.S.Scope.sight c.args.scope.now) (validating g.V.Validator.op_step g.V.Validator.finish_step) c.args.code_start c.args.body c.args.validator.now (blocks c.loop-done.stack) (opens c.loop-done.stack) c.loop-done.reader c.loop-done.validator (subst F c.loop-done-test.false h) c.original_position-end.result
    (some_left (rest c.loop-done.reader) c.eof.result c.eof.ensures c.if-not-eof.true) (offset_in c.args.body c.loop-done.reader c.original_position-end.result h.moves h.within c.original_position-end.ensures)

pub returns-in_err-finish-clause-refused : goal.returns-in_err-finish-clause-refused
returns-in_err-finish-clause-refused g c =
    let p = err_from_is_err_and c.from_residual-in_err-finish.result c.from_residual-in_err-finish.ensures.1 in
    let F : Bool → Type 0 = λ d. Goes (g.S.Scope.sight c.args.scope.now) (validating g.V.Validator.op_step g.V.Validator.finish_step) c.args.code_start c.args.body c.args.validator.now d (blocks c.loop-done.stack) (opens c.loop-done.stack) c.loop-done.reader c.loop-done.validator in
    let h = c.loop-done.invariant.0 in
    let none = none_left (rest c.loop-done.reader) c.eof.result c.eof.ensures c.if-not-eof.false in
    rw (p.1, p.2) (goes_barred (g.S.Scope.sight c.args.scope.now) (validating g.V.Validator.op_step g.V.Validator.finish_step) c.args.code_start c.args.body c.args.validator.now (blocks c.loop-done.stack) (opens c.loop-done.stack) c.loop-done.reader c.loop-done.validator (subst F c.loop-done-test.false h)
    c.original_position-end.result c.finish.new.self c.in_err-finish.field-0.0 none (offset_end c.args.body c.loop-done.reader c.original_position-end.result h.moves h.within c.original_position-end.ensures none) c.in_err-finish.ensures)

pub returns-clause-read : goal.returns-clause-read
returns-clause-read g c =
    let F : Bool → Type 0 = λ d. Goes (g.S.Scope.sight c.args.scope.now) (validating g.V.Validator.op_step g.V.Validator.finish_step) c.args.code_start c.args.body c.args.validator.now d (blocks c.loop-done.stack) (opens c.loop-done.stack) c.loop-done.reader c.loop-done.validator in
    let G : List Seq → Type 0 = λ b. ReadsTree (g.S.Scope.sight c.args.scope.now) (validating g.V.Validator.op_step g.V.Validator.finish_step) c.args.code_start c.args.body c.args.validator.now c.finish.new.self b in
    let h = c.loop-done.invariant.0 in
    let none = none_left (rest c.loop-done.reader) c.eof.result c.eof.ensures c.if-not-eof.false in
    subst G (sym c.into_builder.ensures.blocks) (goes_done (g.S.Scope.sight c.args.scope.now) (validating g.V.Validator.op_step g.V.Validator.finish_step) c.args.code_start c.args.body c.args.validator.now (blocks c.loop-done.stack) (opens c.loop-done.stack) c.loop-done.reader c.loop-done.validator (subst F c.loop-done-test.false h)
    c.original_position-end.result c.finish.new.self none (offset_end c.args.body c.loop-done.reader c.original_position-end.result h.moves h.within c.original_position-end.ensures none) c.in_ok-finish.ensures)
