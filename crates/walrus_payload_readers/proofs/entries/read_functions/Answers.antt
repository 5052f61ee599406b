use Rattle.std.proofs.Common.{arith, subst}
use Rattle.walrus_payload_readers.specs.Keeps.{Keeps}
use Rattle.walrus_payload_readers.specs.Counts.{counts_none, goes_on, stops, ends}
use Rattle.walrus_payload_readers.specs.Bearers.{given_of, locals_at}
use Rattle.walrus_payload_readers.proofs.entries.read_functions.Goals as goal

pub loop-init : goal.loop-init
loop-init g c = counts_none (locals_at (g.B.Bearers.file c.args.bearers.now)) given_of c.args.names.now.items c.args.reader.now c.args.count

pub returns-then-not-branch : goal.returns-then-not-branch
returns-then-not-branch g c =
    let k = locals_at (g.B.Bearers.file c.args.bearers.now) in
    stops k given_of c.args.names.now.items _ _ c.args.reader.now _ _ c.args.count c.loop.counter c.loop.invariant c.loop-test.true
    (subst (λ b. Keeps k.keeps given_of c.loop.names.items c.read_locals.new.names.items c.loop.reader c.read_locals.new.reader b) c.if-not-branch.true c.in_ok-read_locals.ensures)

pub loop-preserved : goal.loop-preserved
loop-preserved g c =
    let k = locals_at (g.B.Bearers.file c.args.bearers.now) in
    goes_on k given_of c.args.names.now.items _ _ c.args.reader.now _ _ c.args.count c.loop.counter c.loop.invariant c.loop-test.true
    (subst (λ b. Keeps k.keeps given_of c.loop.names.items c.read_locals.new.names.items c.loop.reader c.read_locals.new.reader b) c.if-not-branch.false c.in_ok-read_locals.ensures)

pub returns : goal.returns
returns g c = ends (locals_at (g.B.Bearers.file c.args.bearers.now)) given_of c.args.names.now.items _ c.args.reader.now _ c.args.count c.loop.counter c.loop.invariant (omega (arith, c.loop-test.false))
