use Rattle.walrus_export_reader.proofs.Judged.{judge_fails, judge_stops, judges_on}
use Rattle.walrus_export_reader.proofs.exports.read_candidates.Goals as goal

pub returns-in-Err-clause-candidates : goal.returns-in-Err-clause-candidates
returns-in-Err-clause-candidates c =
    judge_fails c.args.sections.now c.loop.sections c.loop.places.items c.args.reader.now c.loop.reader c.read_candidate.new.reader c.args.count c.loop.counter c.loop.invariant c.in-Err.fault c.loop-test.true c.in-Err.ensures

pub returns-then-is_some-clause-candidates : goal.returns-then-is_some-clause-candidates
returns-then-is_some-clause-candidates c =
    judge_stops c.args.sections.now c.loop.sections c.loop.places.items c.args.reader.now c.loop.reader c.read_candidate.new.reader c.args.count c.loop.counter c.loop.invariant
    c.in-Ok.candidate c.add_candidate.new.sections c.push.new.self.items c.loop-test.true c.in-Ok.ensures c.in_ok-push.ensures.items c.in_ok-add_candidate.ensures c.if-is_some.ensures

pub loop-preserved : goal.loop-preserved
loop-preserved c =
    judges_on c.args.sections.now c.loop.sections c.loop.places.items c.args.reader.now c.loop.reader c.read_candidate.new.reader c.args.count c.loop.counter c.loop.invariant
    c.in-Ok.candidate c.add_candidate.new.sections c.push.new.self.items c.loop-test.true c.in-Ok.ensures c.in_ok-push.ensures.items c.in_ok-add_candidate.ensures c.if-is_some.ensures
