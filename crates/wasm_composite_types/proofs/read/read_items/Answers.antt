use Rattle.std.proofs.Common.{arith, refl, Ok, Err}
use Rattle.std.proofs.lemmas.Result.{err_from_is_err_and}
use Rattle.wasm_reader.specs.Unless.{in_window}
use Rattle.wasm_reader.specs.Items.{seen_items}
use Rattle.wasm_reader.proofs.Repeats.{begins, more, stops, starves, ends}
use Rattle.wasm_composite_types.proofs.read.read_items.Goals as goal

pub loop-init : goal.loop-init
loop-init g c = rw c.in-Ok.ensures.items (begins (g.T.FromReader.reading c.args.reader.now.window.features) g.T.FromReader.seen c.args.reader.now c.args.count)

pub loop-preserved : goal.loop-preserved
loop-preserved g c =
    rw (c.push.ensures.items, c.if-is_err.ensures.negation)
    (more (g.T.FromReader.reading c.args.reader.now.window.features) g.T.FromReader.seen c.args.reader.now c.loop.reader c.from_reader.new.reader c.args.count c.loop.counter c.loop.items.items c.loop.invariant c.loop-test.true
    c.in_ok-item.item
    (in_window g.T.FromReader.takes_memory g.T.FromReader.reading g.T.FromReader.seen c.args.reader.now c.loop.reader c.from_reader.new.reader (Ok c.in_ok-item.item) c.loop.invariant.moves.window c.in_ok-item.ensures))

pub returns-in_err-item : goal.returns-in_err-item
returns-in_err-item g c =
    let p = err_from_is_err_and c.from_residual.result c.from_residual.ensures.1 in
    rw (p.1, p.2) (stops (g.T.FromReader.reading c.args.reader.now.window.features) g.T.FromReader.seen c.args.reader.now c.loop.reader c.from_reader.new.reader c.args.count c.loop.counter c.loop.items.items c.loop.invariant c.loop-test.true
    (seen_items g.T.FromReader.seen) c.in_err-item.field-0.0
    (in_window g.T.FromReader.takes_memory g.T.FromReader.reading g.T.FromReader.seen c.args.reader.now c.loop.reader c.from_reader.new.reader (Err c.in_err-item.field-0.0) c.loop.invariant.moves.window c.in_err-item.ensures))

pub returns-then-is_err : goal.returns-then-is_err
returns-then-is_err g c =
    starves (g.T.FromReader.reading c.args.reader.now.window.features) g.T.FromReader.seen c.args.reader.now c.loop.reader c.from_reader.new.reader c.args.count c.loop.counter c.loop.items.items c.loop.invariant c.loop-test.true
    (seen_items g.T.FromReader.seen) c.out_of_memory-then-is_err.result
    (in_window g.T.FromReader.takes_memory g.T.FromReader.reading g.T.FromReader.seen c.args.reader.now c.loop.reader c.from_reader.new.reader (Ok c.in_ok-item.item) c.loop.invariant.moves.window c.in_ok-item.ensures).moves
    c.out_of_memory-then-is_err.ensures.wants c.out_of_memory-then-is_err.ensures.place

pub returns : goal.returns
returns g c = ends (g.T.FromReader.reading c.args.reader.now.window.features) g.T.FromReader.seen (seen_items g.T.FromReader.seen) c.args.reader.now c.loop.reader c.args.count c.loop.counter c.loop.items.items c.loop.items c.loop.invariant (omega arith) refl
