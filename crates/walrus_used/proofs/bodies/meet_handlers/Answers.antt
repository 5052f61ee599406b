use Rattle.std.proofs.Common.{take, take_all}
use Rattle.walrus_used.proofs.BodyLemmas.{handlers_met}
use Rattle.walrus_used.proofs.bodies.meet_handlers.Goals as goal

pub returns : goal.returns
returns c = handlers_met c.args.catches.now (take c.loop-catch.catch-index c.args.catches.now) c.args.marks.now c.loop-catch.marks (take_all c.loop-catch.catch-index c.args.catches.now c.loop-catch-test.false) c.loop-catch.invariant
