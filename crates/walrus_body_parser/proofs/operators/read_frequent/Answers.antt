use Rattle.std.proofs.Common.{false, true, refl}
use Rattle.std.proofs.lemmas.Result.{err_from_is_err_and}
use Rattle.walrus_body_operands.specs.walrus_body_rules.wasm_body_grammar.wasm_operators.declared.entry.Kind.TheVariants as kinds
use Rattle.walrus_body_operands.specs.walrus_body_rules.wasm_body_grammar.wasm_operators.declared.entry.Flow.TheVariants as flows
use Rattle.walrus_body_locals.specs.Classes.{always}
use Rattle.walrus_body_parser.specs.Trees.{validating}
use Rattle.walrus_body_locals.specs.declared.class.Class.TheVariants as classes
use Rattle.walrus_body_parser.proofs.Classes.{known_so, does_so, opens_so}
use Rattle.walrus_body_parser.proofs.Running.{runs_more, runs_so, runs_fails}
use Rattle.walrus_body_parser.proofs.operators.read_frequent.Goals as goal

pub loop-reader-preserved-in-Continue-1 : goal.loop-reader-preserved-in-Continue-1
loop-reader-preserved-in-Continue-1 g c =
    let h = c.in_ok-read_known-in-Local.ensures in
    runs_more (g.S.Scope.sight c.args.scope.now) (validating g.V.Validator.op_step g.V.Validator.finish_step) c.args.code_start c.args.reader.now c.args.stack.now c.args.validator.now c.loop-reader.reader c.loop-reader.stack c.loop-reader.validator
    c.read_known.new.reader c.read_known.new.stack c.read_known.new.validator c.loop-reader.invariant false h.read h.takes h.ty h.entry h.moves

pub returns-in_err-read_known-in-Local-clause-follows : goal.returns-in_err-read_known-in-Local-clause-follows
returns-in_err-read_known-in-Local-clause-follows g c =
    let p = err_from_is_err_and c.from_residual.result c.from_residual.ensures.1 in
    rw (p.1, p.2) (runs_fails (g.S.Scope.sight c.args.scope.now) (validating g.V.Validator.op_step g.V.Validator.finish_step) c.args.code_start c.args.reader.now c.args.stack.now c.args.validator.now c.loop-reader.reader c.loop-reader.stack c.loop-reader.validator
    c.read_known.new.reader c.read_known.new.stack c.read_known.new.validator c.loop-reader.invariant c.in_err-read_known-in-Local.field-0.0 c.in_err-read_known-in-Local.ensures.read)

pub read_known-requires-clause-next : goal.read_known-requires-clause-next
read_known-requires-clause-next g c = known_so c.loop-reader.reader _ classes.Local (always kinds.Local flows.Goes) c.next_class.ensures c.in-Local.is refl refl

pub loop-reader-preserved-in-Continue-branch-2 : goal.loop-reader-preserved-in-Continue-branch-2
loop-reader-preserved-in-Continue-branch-2 g c =
    let h = c.in_ok-read_known-in-Global.ensures in
    runs_more (g.S.Scope.sight c.args.scope.now) (validating g.V.Validator.op_step g.V.Validator.finish_step) c.args.code_start c.args.reader.now c.args.stack.now c.args.validator.now c.loop-reader.reader c.loop-reader.stack c.loop-reader.validator
    c.read_known-in-Global.new.reader c.read_known-in-Global.new.stack c.read_known-in-Global.new.validator c.loop-reader.invariant false h.read h.takes h.ty h.entry h.moves

pub returns-in_err-read_known-in-Global-clause-follows : goal.returns-in_err-read_known-in-Global-clause-follows
returns-in_err-read_known-in-Global-clause-follows g c =
    let p = err_from_is_err_and c.from_residual-in_err-read_known-in-Global.result c.from_residual-in_err-read_known-in-Global.ensures.1 in
    rw (p.1, p.2) (runs_fails (g.S.Scope.sight c.args.scope.now) (validating g.V.Validator.op_step g.V.Validator.finish_step) c.args.code_start c.args.reader.now c.args.stack.now c.args.validator.now c.loop-reader.reader c.loop-reader.stack c.loop-reader.validator
    c.read_known-in-Global.new.reader c.read_known-in-Global.new.stack c.read_known-in-Global.new.validator c.loop-reader.invariant c.in_err-read_known-in-Global.field-0.0 c.in_err-read_known-in-Global.ensures.read)

pub read_known-requires-in-Global-clause-next : goal.read_known-requires-in-Global-clause-next
read_known-requires-in-Global-clause-next g c = known_so c.loop-reader.reader _ classes.Global (always kinds.Global flows.Goes) c.next_class.ensures c.in-Global.is refl refl

pub loop-reader-preserved-in-Continue-branch-3 : goal.loop-reader-preserved-in-Continue-branch-3
loop-reader-preserved-in-Continue-branch-3 g c =
    let h = c.in_ok-read_known-in-Load.ensures in
    runs_more (g.S.Scope.sight c.args.scope.now) (validating g.V.Validator.op_step g.V.Validator.finish_step) c.args.code_start c.args.reader.now c.args.stack.now c.args.validator.now c.loop-reader.reader c.loop-reader.stack c.loop-reader.validator
    c.read_known-in-Load.new.reader c.read_known-in-Load.new.stack c.read_known-in-Load.new.validator c.loop-reader.invariant false h.read h.takes h.ty h.entry h.moves

pub returns-in_err-read_known-in-Load-clause-follows : goal.returns-in_err-read_known-in-Load-clause-follows
returns-in_err-read_known-in-Load-clause-follows g c =
    let p = err_from_is_err_and c.from_residual-in_err-read_known-in-Load.result c.from_residual-in_err-read_known-in-Load.ensures.1 in
    rw (p.1, p.2) (runs_fails (g.S.Scope.sight c.args.scope.now) (validating g.V.Validator.op_step g.V.Validator.finish_step) c.args.code_start c.args.reader.now c.args.stack.now c.args.validator.now c.loop-reader.reader c.loop-reader.stack c.loop-reader.validator
    c.read_known-in-Load.new.reader c.read_known-in-Load.new.stack c.read_known-in-Load.new.validator c.loop-reader.invariant c.in_err-read_known-in-Load.field-0.0 c.in_err-read_known-in-Load.ensures.read)

pub read_known-requires-in-Load-clause-next : goal.read_known-requires-in-Load-clause-next
read_known-requires-in-Load-clause-next g c = known_so c.loop-reader.reader _ classes.Load (always kinds.Access flows.Goes) c.next_class.ensures c.in-Load.is refl refl

pub loop-reader-preserved-in-Continue-branch-4 : goal.loop-reader-preserved-in-Continue-branch-4
loop-reader-preserved-in-Continue-branch-4 g c =
    let h = c.in_ok-read_known-in-Store.ensures in
    runs_more (g.S.Scope.sight c.args.scope.now) (validating g.V.Validator.op_step g.V.Validator.finish_step) c.args.code_start c.args.reader.now c.args.stack.now c.args.validator.now c.loop-reader.reader c.loop-reader.stack c.loop-reader.validator
    c.read_known-in-Store.new.reader c.read_known-in-Store.new.stack c.read_known-in-Store.new.validator c.loop-reader.invariant false h.read h.takes h.ty h.entry h.moves

pub returns-in_err-read_known-in-Store-clause-follows : goal.returns-in_err-read_known-in-Store-clause-follows
returns-in_err-read_known-in-Store-clause-follows g c =
    let p = err_from_is_err_and c.from_residual-in_err-read_known-in-Store.result c.from_residual-in_err-read_known-in-Store.ensures.1 in
    rw (p.1, p.2) (runs_fails (g.S.Scope.sight c.args.scope.now) (validating g.V.Validator.op_step g.V.Validator.finish_step) c.args.code_start c.args.reader.now c.args.stack.now c.args.validator.now c.loop-reader.reader c.loop-reader.stack c.loop-reader.validator
    c.read_known-in-Store.new.reader c.read_known-in-Store.new.stack c.read_known-in-Store.new.validator c.loop-reader.invariant c.in_err-read_known-in-Store.field-0.0 c.in_err-read_known-in-Store.ensures.read)

pub read_known-requires-in-Store-clause-next : goal.read_known-requires-in-Store-clause-next
read_known-requires-in-Store-clause-next g c = known_so c.loop-reader.reader _ classes.Store (always kinds.Access flows.Goes) c.next_class.ensures c.in-Store.is refl refl

pub loop-reader-preserved-in-Continue-branch-5 : goal.loop-reader-preserved-in-Continue-branch-5
loop-reader-preserved-in-Continue-branch-5 g c =
    let h = c.in_ok-read_known-in-I32.ensures in
    runs_more (g.S.Scope.sight c.args.scope.now) (validating g.V.Validator.op_step g.V.Validator.finish_step) c.args.code_start c.args.reader.now c.args.stack.now c.args.validator.now c.loop-reader.reader c.loop-reader.stack c.loop-reader.validator
    c.read_known-in-I32.new.reader c.read_known-in-I32.new.stack c.read_known-in-I32.new.validator c.loop-reader.invariant false h.read h.takes h.ty h.entry h.moves

pub returns-in_err-read_known-in-I32-clause-follows : goal.returns-in_err-read_known-in-I32-clause-follows
returns-in_err-read_known-in-I32-clause-follows g c =
    let p = err_from_is_err_and c.from_residual-in_err-read_known-in-I32.result c.from_residual-in_err-read_known-in-I32.ensures.1 in
    rw (p.1, p.2) (runs_fails (g.S.Scope.sight c.args.scope.now) (validating g.V.Validator.op_step g.V.Validator.finish_step) c.args.code_start c.args.reader.now c.args.stack.now c.args.validator.now c.loop-reader.reader c.loop-reader.stack c.loop-reader.validator
    c.read_known-in-I32.new.reader c.read_known-in-I32.new.stack c.read_known-in-I32.new.validator c.loop-reader.invariant c.in_err-read_known-in-I32.field-0.0 c.in_err-read_known-in-I32.ensures.read)

pub read_known-requires-in-I32-clause-next : goal.read_known-requires-in-I32-clause-next
read_known-requires-in-I32-clause-next g c = known_so c.loop-reader.reader _ classes.I32 (always kinds.I32 flows.Goes) c.next_class.ensures c.in-I32.is refl refl

pub loop-reader-preserved-in-Continue-branch-6 : goal.loop-reader-preserved-in-Continue-branch-6
loop-reader-preserved-in-Continue-branch-6 g c =
    let h = c.in_ok-read_known-in-I64.ensures in
    runs_more (g.S.Scope.sight c.args.scope.now) (validating g.V.Validator.op_step g.V.Validator.finish_step) c.args.code_start c.args.reader.now c.args.stack.now c.args.validator.now c.loop-reader.reader c.loop-reader.stack c.loop-reader.validator
    c.read_known-in-I64.new.reader c.read_known-in-I64.new.stack c.read_known-in-I64.new.validator c.loop-reader.invariant false h.read h.takes h.ty h.entry h.moves

pub returns-in_err-read_known-in-I64-clause-follows : goal.returns-in_err-read_known-in-I64-clause-follows
returns-in_err-read_known-in-I64-clause-follows g c =
    let p = err_from_is_err_and c.from_residual-in_err-read_known-in-I64.result c.from_residual-in_err-read_known-in-I64.ensures.1 in
    rw (p.1, p.2) (runs_fails (g.S.Scope.sight c.args.scope.now) (validating g.V.Validator.op_step g.V.Validator.finish_step) c.args.code_start c.args.reader.now c.args.stack.now c.args.validator.now c.loop-reader.reader c.loop-reader.stack c.loop-reader.validator
    c.read_known-in-I64.new.reader c.read_known-in-I64.new.stack c.read_known-in-I64.new.validator c.loop-reader.invariant c.in_err-read_known-in-I64.field-0.0 c.in_err-read_known-in-I64.ensures.read)

pub read_known-requires-in-I64-clause-next : goal.read_known-requires-in-I64-clause-next
read_known-requires-in-I64-clause-next g c = known_so c.loop-reader.reader _ classes.I64 (always kinds.I64 flows.Goes) c.next_class.ensures c.in-I64.is refl refl

pub loop-reader-preserved-in-Continue-branch-7 : goal.loop-reader-preserved-in-Continue-branch-7
loop-reader-preserved-in-Continue-branch-7 g c =
    let h = c.in_ok-read_known-in-F64.ensures in
    runs_more (g.S.Scope.sight c.args.scope.now) (validating g.V.Validator.op_step g.V.Validator.finish_step) c.args.code_start c.args.reader.now c.args.stack.now c.args.validator.now c.loop-reader.reader c.loop-reader.stack c.loop-reader.validator
    c.read_known-in-F64.new.reader c.read_known-in-F64.new.stack c.read_known-in-F64.new.validator c.loop-reader.invariant false h.read h.takes h.ty h.entry h.moves

pub returns-in_err-read_known-in-F64-clause-follows : goal.returns-in_err-read_known-in-F64-clause-follows
returns-in_err-read_known-in-F64-clause-follows g c =
    let p = err_from_is_err_and c.from_residual-in_err-read_known-in-F64.result c.from_residual-in_err-read_known-in-F64.ensures.1 in
    rw (p.1, p.2) (runs_fails (g.S.Scope.sight c.args.scope.now) (validating g.V.Validator.op_step g.V.Validator.finish_step) c.args.code_start c.args.reader.now c.args.stack.now c.args.validator.now c.loop-reader.reader c.loop-reader.stack c.loop-reader.validator
    c.read_known-in-F64.new.reader c.read_known-in-F64.new.stack c.read_known-in-F64.new.validator c.loop-reader.invariant c.in_err-read_known-in-F64.field-0.0 c.in_err-read_known-in-F64.ensures.read)

pub read_known-requires-in-F64-clause-next : goal.read_known-requires-in-F64-clause-next
read_known-requires-in-F64-clause-next g c = known_so c.loop-reader.reader _ classes.F64 (always kinds.F64 flows.Goes) c.next_class.ensures c.in-F64.is refl refl

pub loop-reader-preserved-in-Continue-branch-8 : goal.loop-reader-preserved-in-Continue-branch-8
loop-reader-preserved-in-Continue-branch-8 g c =
    let h = c.in_ok-read_known-in-Plain.ensures in
    runs_more (g.S.Scope.sight c.args.scope.now) (validating g.V.Validator.op_step g.V.Validator.finish_step) c.args.code_start c.args.reader.now c.args.stack.now c.args.validator.now c.loop-reader.reader c.loop-reader.stack c.loop-reader.validator
    c.read_known-in-Plain.new.reader c.read_known-in-Plain.new.stack c.read_known-in-Plain.new.validator c.loop-reader.invariant false h.read h.takes h.ty h.entry h.moves

pub returns-in_err-read_known-in-Plain-clause-follows : goal.returns-in_err-read_known-in-Plain-clause-follows
returns-in_err-read_known-in-Plain-clause-follows g c =
    let p = err_from_is_err_and c.from_residual-in_err-read_known-in-Plain.result c.from_residual-in_err-read_known-in-Plain.ensures.1 in
    rw (p.1, p.2) (runs_fails (g.S.Scope.sight c.args.scope.now) (validating g.V.Validator.op_step g.V.Validator.finish_step) c.args.code_start c.args.reader.now c.args.stack.now c.args.validator.now c.loop-reader.reader c.loop-reader.stack c.loop-reader.validator
    c.read_known-in-Plain.new.reader c.read_known-in-Plain.new.stack c.read_known-in-Plain.new.validator c.loop-reader.invariant c.in_err-read_known-in-Plain.field-0.0 c.in_err-read_known-in-Plain.ensures.read)

pub read_known-requires-in-Plain-clause-next : goal.read_known-requires-in-Plain-clause-next
read_known-requires-in-Plain-clause-next g c = known_so c.loop-reader.reader _ classes.Plain (always kinds.Bare flows.Goes) c.next_class.ensures c.in-Plain.is refl refl

pub loop-reader-preserved-in-Continue-branch-9 : goal.loop-reader-preserved-in-Continue-branch-9
loop-reader-preserved-in-Continue-branch-9 g c =
    let h = c.in_ok-read_known-in-Chooses.ensures in
    runs_more (g.S.Scope.sight c.args.scope.now) (validating g.V.Validator.op_step g.V.Validator.finish_step) c.args.code_start c.args.reader.now c.args.stack.now c.args.validator.now c.loop-reader.reader c.loop-reader.stack c.loop-reader.validator
    c.read_known-in-Chooses.new.reader c.read_known-in-Chooses.new.stack c.read_known-in-Chooses.new.validator c.loop-reader.invariant false h.read h.takes h.ty h.entry h.moves

pub returns-in_err-read_known-in-Chooses-clause-follows : goal.returns-in_err-read_known-in-Chooses-clause-follows
returns-in_err-read_known-in-Chooses-clause-follows g c =
    let p = err_from_is_err_and c.from_residual-in_err-read_known-in-Chooses.result c.from_residual-in_err-read_known-in-Chooses.ensures.1 in
    rw (p.1, p.2) (runs_fails (g.S.Scope.sight c.args.scope.now) (validating g.V.Validator.op_step g.V.Validator.finish_step) c.args.code_start c.args.reader.now c.args.stack.now c.args.validator.now c.loop-reader.reader c.loop-reader.stack c.loop-reader.validator
    c.read_known-in-Chooses.new.reader c.read_known-in-Chooses.new.stack c.read_known-in-Chooses.new.validator c.loop-reader.invariant c.in_err-read_known-in-Chooses.field-0.0 c.in_err-read_known-in-Chooses.ensures.read)

pub read_known-requires-in-Chooses-clause-next : goal.read_known-requires-in-Chooses-clause-next
read_known-requires-in-Chooses-clause-next g c = known_so c.loop-reader.reader _ classes.Chooses (always kinds.Label flows.Chooses) c.next_class.ensures c.in-Chooses.is refl refl

pub loop-reader-preserved-in-Continue-branch-10 : goal.loop-reader-preserved-in-Continue-branch-10
loop-reader-preserved-in-Continue-branch-10 g c =
    let h = c.in_ok-read_known-in-Calls.ensures in
    runs_more (g.S.Scope.sight c.args.scope.now) (validating g.V.Validator.op_step g.V.Validator.finish_step) c.args.code_start c.args.reader.now c.args.stack.now c.args.validator.now c.loop-reader.reader c.loop-reader.stack c.loop-reader.validator
    c.read_known-in-Calls.new.reader c.read_known-in-Calls.new.stack c.read_known-in-Calls.new.validator c.loop-reader.invariant false h.read h.takes h.ty h.entry h.moves

pub returns-in_err-read_known-in-Calls-clause-follows : goal.returns-in_err-read_known-in-Calls-clause-follows
returns-in_err-read_known-in-Calls-clause-follows g c =
    let p = err_from_is_err_and c.from_residual-in_err-read_known-in-Calls.result c.from_residual-in_err-read_known-in-Calls.ensures.1 in
    rw (p.1, p.2) (runs_fails (g.S.Scope.sight c.args.scope.now) (validating g.V.Validator.op_step g.V.Validator.finish_step) c.args.code_start c.args.reader.now c.args.stack.now c.args.validator.now c.loop-reader.reader c.loop-reader.stack c.loop-reader.validator
    c.read_known-in-Calls.new.reader c.read_known-in-Calls.new.stack c.read_known-in-Calls.new.validator c.loop-reader.invariant c.in_err-read_known-in-Calls.field-0.0 c.in_err-read_known-in-Calls.ensures.read)

pub read_known-requires-in-Calls-clause-next : goal.read_known-requires-in-Calls-clause-next
read_known-requires-in-Calls-clause-next g c = known_so c.loop-reader.reader _ classes.Calls (always kinds.Function flows.Calls) c.next_class.ensures c.in-Calls.is refl refl

pub read_part-requires-clause-next : goal.read_part-requires-clause-next
read_part-requires-clause-next g c = does_so c.loop-reader.reader _ classes.End (always kinds.Bare flows.End) c.next_class.ensures c.in-End.is refl

pub returns-in_err-read_part-in-End-clause-follows : goal.returns-in_err-read_part-in-End-clause-follows
returns-in_err-read_part-in-End-clause-follows g c =
    let p = err_from_is_err_and c.from_residual-in_err-read_part-in-End.result c.from_residual-in_err-read_part-in-End.ensures.1 in
    rw (p.1, p.2) (runs_fails (g.S.Scope.sight c.args.scope.now) (validating g.V.Validator.op_step g.V.Validator.finish_step) c.args.code_start c.args.reader.now c.args.stack.now c.args.validator.now c.loop-reader.reader c.loop-reader.stack c.loop-reader.validator
    c.read_part.new.reader c.read_part.new.stack c.read_part.new.validator c.loop-reader.invariant c.in_err-read_part-in-End.field-0.0 c.in_err-read_part-in-End.ensures.read)

pub loop-reader-preserved-else-branch : goal.loop-reader-preserved-else-branch
loop-reader-preserved-else-branch g c =
    let h = c.in_ok-read_part-in-End.ensures in
    runs_so (g.S.Scope.sight c.args.scope.now) (validating g.V.Validator.op_step g.V.Validator.finish_step) c.args.code_start c.args.reader.now c.args.stack.now c.args.validator.now c.loop-reader.reader c.loop-reader.stack c.loop-reader.validator
    c.read_part.new.reader c.read_part.new.stack c.read_part.new.validator c.loop-reader.invariant c.in_ok-read_part-in-End.field-0 false c.if-branch.false h.read h.takes h.ty h.entry h.moves

pub returns-then-branch-clause-follows : goal.returns-then-branch-clause-follows
returns-then-branch-clause-follows g c =
    let h = c.in_ok-read_part-in-End.ensures in
    (runs_so (g.S.Scope.sight c.args.scope.now) (validating g.V.Validator.op_step g.V.Validator.finish_step) c.args.code_start c.args.reader.now c.args.stack.now c.args.validator.now c.loop-reader.reader c.loop-reader.stack c.loop-reader.validator
    c.read_part.new.reader c.read_part.new.stack c.read_part.new.validator c.loop-reader.invariant c.in_ok-read_part-in-End.field-0 true c.if-branch.true h.read h.takes h.ty h.entry h.moves).follows

pub read_else-requires-clause-next : goal.read_else-requires-clause-next
read_else-requires-clause-next g c = does_so c.loop-reader.reader _ classes.Else (always kinds.Bare flows.Else) c.next_class.ensures c.in-Else.is refl

pub returns-in_err-read_else-in-Else-clause-follows : goal.returns-in_err-read_else-in-Else-clause-follows
returns-in_err-read_else-in-Else-clause-follows g c =
    let p = err_from_is_err_and c.from_residual-in_err-read_else-in-Else.result c.from_residual-in_err-read_else-in-Else.ensures.1 in
    rw (p.1, p.2) (runs_fails (g.S.Scope.sight c.args.scope.now) (validating g.V.Validator.op_step g.V.Validator.finish_step) c.args.code_start c.args.reader.now c.args.stack.now c.args.validator.now c.loop-reader.reader c.loop-reader.stack c.loop-reader.validator
    c.read_else.new.reader c.read_else.new.stack c.read_else.new.validator c.loop-reader.invariant c.in_err-read_else-in-Else.field-0.0 c.in_err-read_else-in-Else.ensures.read)

pub loop-reader-preserved-else-branch-2 : goal.loop-reader-preserved-else-branch-2
loop-reader-preserved-else-branch-2 g c =
    let h = c.in_ok-read_else-in-Else.ensures in
    runs_so (g.S.Scope.sight c.args.scope.now) (validating g.V.Validator.op_step g.V.Validator.finish_step) c.args.code_start c.args.reader.now c.args.stack.now c.args.validator.now c.loop-reader.reader c.loop-reader.stack c.loop-reader.validator
    c.read_else.new.reader c.read_else.new.stack c.read_else.new.validator c.loop-reader.invariant c.in_ok-read_else-in-Else.field-0 false c.if-branch-2.false h.read h.takes h.ty h.entry h.moves

pub returns-then-branch-2-clause-follows : goal.returns-then-branch-2-clause-follows
returns-then-branch-2-clause-follows g c =
    let h = c.in_ok-read_else-in-Else.ensures in
    (runs_so (g.S.Scope.sight c.args.scope.now) (validating g.V.Validator.op_step g.V.Validator.finish_step) c.args.code_start c.args.reader.now c.args.stack.now c.args.validator.now c.loop-reader.reader c.loop-reader.stack c.loop-reader.validator
    c.read_else.new.reader c.read_else.new.stack c.read_else.new.validator c.loop-reader.invariant c.in_ok-read_else-in-Else.field-0 true c.if-branch-2.true h.read h.takes h.ty h.entry h.moves).follows

pub read_opening-requires-clause-opens : goal.read_opening-requires-clause-opens
read_opening-requires-clause-opens g c = opens_so c.loop-reader.reader _ c.in-Opens.flow c.next_class.ensures c.in-Opens.is

pub read_opening-requires-clause-next : goal.read_opening-requires-clause-next
read_opening-requires-clause-next g c = does_so c.loop-reader.reader _ (classes.Opens c.in-Opens.flow) (always kinds.Block c.in-Opens.flow) c.next_class.ensures c.in-Opens.is refl

pub loop-reader-preserved : goal.loop-reader-preserved
loop-reader-preserved g c =
    let h = c.in_ok-read_opening-in-Opens.ensures in
    runs_more (g.S.Scope.sight c.args.scope.now) (validating g.V.Validator.op_step g.V.Validator.finish_step) c.args.code_start c.args.reader.now c.args.stack.now c.args.validator.now c.loop-reader.reader c.loop-reader.stack c.loop-reader.validator
    c.read_opening.new.reader c.read_opening.new.stack c.read_opening.new.validator c.loop-reader.invariant false h.read h.takes h.ty h.entry h.moves

pub returns-in_err-read_opening-in-Opens-clause-follows : goal.returns-in_err-read_opening-in-Opens-clause-follows
returns-in_err-read_opening-in-Opens-clause-follows g c =
    let p = err_from_is_err_and c.from_residual-in_err-read_opening-in-Opens.result c.from_residual-in_err-read_opening-in-Opens.ensures.1 in
    rw (p.1, p.2) (runs_fails (g.S.Scope.sight c.args.scope.now) (validating g.V.Validator.op_step g.V.Validator.finish_step) c.args.code_start c.args.reader.now c.args.stack.now c.args.validator.now c.loop-reader.reader c.loop-reader.stack c.loop-reader.validator
    c.read_opening.new.reader c.read_opening.new.stack c.read_opening.new.validator c.loop-reader.invariant c.in_err-read_opening-in-Opens.field-0.0 c.in_err-read_opening-in-Opens.ensures.read)
