use Rattle.std.proofs.Common.{arith, refl}
use Rattle.std.proofs.lemmas.Result.{err_from_is_err_and}
use Rattle.walrus_entry_readers.specs.walrus_known_sections.wasm_sections.wasm_grammar.Exprs.{expr}
use Rattle.walrus_entry_readers.specs.walrus_known_sections.wasm_sections.wasm_grammar.States.{known}
use Rattle.walrus_entry_readers.specs.walrus_section_values.walrus_section_reader.Repeats.{collects_not, collected, listed_at}
use Rattle.walrus_entry_readers.specs.walrus_section_values.Globals.{expr_of}
use Rattle.walrus_segment_readers.specs.Lists.{exprs_of, expr_under, exprs_none, exprs_more}
use Rattle.walrus_entry_readers.specs.walrus_known_sections.Leads.{handed_on}
use Rattle.walrus_entry_readers.specs.walrus_known_sections.State.{state_of}
use Rattle.walrus_segment_readers.proofs.lists.read_exprs.Goals as goal

pub loop-init : goal.loop-init
loop-init c = exprs_none (expr c.args.reader.now.window.features (known (state_of c.args.sections.now))) c.args.reader.now c.args.count _ c.new-list.ensures.items

pub returns-in_err-expr : goal.returns-in_err-expr
returns-in_err-expr c =
    let p = err_from_is_err_and c.from_residual.result c.from_residual.ensures.1 in
    let k = known (state_of c.args.sections.now) in
    let f = expr c.args.reader.now.window.features k in
    handed_on (listed_at f c.args.count) exprs_of _ _ _ _ _ p.1 p.2
    (collects_not f c.args.reader.now c.loop.reader _ _ c.loop.counter (exprs_of c.loop.list) expr_of exprs_of _ c.loop.invariant c.loop-test.true
    (expr_under k expr_of c.args.reader.now c.loop.reader _ _ c.loop.invariant.moves.window c.in_err-expr.ensures))

pub loop-preserved : goal.loop-preserved
loop-preserved c =
    let k = known (state_of c.args.sections.now) in
    let f = expr c.args.reader.now.window.features k in
    exprs_more f _ c.loop.reader _ _ _ c.loop.list.items _ c.in_ok-expr.expr c.in_ok-push.ensures.items c.loop.invariant c.loop-test.true
    (expr_under k expr_of c.args.reader.now c.loop.reader _ _ c.loop.invariant.moves.window c.in_ok-expr.ensures)

pub returns : goal.returns
returns c = collected (expr c.args.reader.now.window.features (known (state_of c.args.sections.now))) _ _ _ c.loop.counter (exprs_of c.loop.list) exprs_of _ c.loop.invariant (omega arith) refl
