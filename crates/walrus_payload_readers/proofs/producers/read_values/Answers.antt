use Rattle.walrus_payload_readers.specs.Values.{pair_of, collects, collects_not}
use Rattle.walrus_payload_readers.proofs.producers.read_values.Goals as goal

pub returns-in_default : goal.returns-in_default
returns-in_default c = collects_not c.loop.values.items c.args.reader.now c.loop.reader c.args.count c.loop.counter c.loop.invariant c.loop-test.true c.in_default.ensures

pub loop-preserved : goal.loop-preserved
loop-preserved c =
    collects c.loop.values.items c.push.new.self.items c.args.reader.now c.loop.reader c.read_pair.new.reader c.args.count c.loop.counter (pair_of (c.in-Some.name, c.in-Some.version)) c.in_ok-value.value
    c.loop.invariant c.loop-test.true c.in-Some.ensures c.in_ok-push.ensures.items c.in_ok-value.ensures
