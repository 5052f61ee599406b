use Rattle.std.proofs.Common.{refl, ap, subst, sym, length, ◌<◌, ℕ}
use Rattle.std.proofs.lemmas.List.{map_push}
use Rattle.std.proofs.lemmas.Result.{err_from_is_err_and}
use Rattle.wasm_reader.specs.Cursor.{Window, Cursor, rest}
use Rattle.wasm_grammar.specs.Exprs.{operator, end_apart, takes_some, read_wants}
use Rattle.walrus_operators.specs.Operators.{seen}
use Rattle.walrus_section_values.specs.Globals.{known_of, expr_of}
use Rattle.walrus_section_values.specs.Untils.{goes_on, goes_wrong, goes_to}
use Rattle.walrus_section_values.proofs.Moves.{operator_from}
use Rattle.walrus_section_values.proofs.exprs.read_operators.Goals as goal

pub returns-then-take_byte : goal.returns-then-take_byte
returns-then-take_byte c =
    let f = c.args.reader.now.window.features in
    let k = known_of c.args.known.now in
    goes_to 0x0b (operator f k) (end_apart f) (takes_some f) (read_wants f k) c.args.reader.now expr_of _ _ _ _ c.loop-alloc.invariant (c.take_byte.ensures.took c.if-take_byte.true) refl

pub returns-in_err-read_operator : goal.returns-in_err-read_operator
returns-in_err-read_operator c =
    let f = c.args.reader.now.window.features in
    let k = known_of c.args.known.now in
    let p = err_from_is_err_and c.from_residual.result c.from_residual.ensures.1 in
    let stays = c.take_byte.ensures.stays c.if-take_byte.false in
    let window = ap (λ (w : Window). w.features) c.loop-alloc.invariant.moves.window in
    rw (p.1, p.2) (goes_wrong 0x0b (operator f k) (end_apart f) (takes_some f) (read_wants f k) c.args.reader.now seen expr_of c.loop-alloc.reader _ _ _ c.loop-alloc.invariant stays.1
    (operator_from f k _ _ _ _ stays.0 window c.in_err-read_operator.ensures.operator))

pub loop-alloc-preserved : goal.loop-alloc-preserved
loop-alloc-preserved c =
    let f = c.args.reader.now.window.features in
    let k = known_of c.args.known.now in
    let stays = c.take_byte.ensures.stays c.if-take_byte.false in
    let window = ap (λ (w : Window). w.features) c.loop-alloc.invariant.moves.window in
    let falls = subst (λ (d : Cursor). length (rest c.read_operator.new.reader) < length (rest d)) stays.0 c.in_ok-read_operator.ensures.takes in
    rw (c.in_ok-push.ensures.items, map_push seen c.loop-alloc.operators.items c.in_ok-read_operator.field-0)
    (goes_on 0x0b (operator f k) (end_apart f) (takes_some f) (read_wants f k) c.args.reader.now seen c.loop-alloc.reader _ _ c.in_ok-read_operator.field-0 c.loop-alloc.invariant stays.1
    (operator_from f k _ _ _ _ stays.0 window c.in_ok-read_operator.ensures.operator) falls)
