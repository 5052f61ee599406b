use Rattle.std.proofs.Common.{arith, Ok, Err}
use Rattle.std.proofs.lemmas.Result.{err_from_is_err_and}
use Rattle.wasm_reader.specs.Unless.{by_window}
use Rattle.wasm_reader.proofs.Repeats.{passes_more, passes_stops, passes_ends}
use Rattle.wasm_reader.proofs.reader.BinaryReader.pass_items.Goals as goal

pub returns-in_err-read : goal.returns-in_err-read
returns-in_err-read g c =
    let p = err_from_is_err_and c.from_residual.result c.from_residual.ensures.1 in
    rw (p.1, p.2) (passes_stops (g.T.FromReader.reading c.args.self.now.window.features) g.T.FromReader.seen c.args.self.now c.loop.self c.read.new.self c.args.count c.loop.counter c.loop.invariant c.loop-test.true
    g.T.FromReader.takes_memory c.in_err-read.field-0.0
    (by_window g.T.FromReader.takes_memory g.T.FromReader.reading g.T.FromReader.seen c.args.self.now c.loop.self c.read.new.self (Err c.in_err-read.field-0.0) c.loop.invariant.moves.window c.in_err-read.ensures))

pub loop-preserved : goal.loop-preserved
loop-preserved g c =
    passes_more (g.T.FromReader.reading c.args.self.now.window.features) g.T.FromReader.seen c.args.self.now c.loop.self c.read.new.self c.args.count c.loop.counter c.loop.invariant c.loop-test.true
    g.T.FromReader.takes_memory c.in_ok-read.field-0
    (by_window g.T.FromReader.takes_memory g.T.FromReader.reading g.T.FromReader.seen c.args.self.now c.loop.self c.read.new.self (Ok c.in_ok-read.field-0) c.loop.invariant.moves.window c.in_ok-read.ensures)

pub returns : goal.returns
returns g c = passes_ends (g.T.FromReader.reading c.args.self.now.window.features) c.args.self.now c.loop.self c.args.count c.loop.counter c.loop.invariant (omega arith) g.T.FromReader.takes_memory
