use Rattle.std.proofs.Common.{◌∙◌}
use Rattle.walrus_body_locals.proofs.Choosing.{numbers_flagged}
use Rattle.walrus_body_locals.proofs.named.flagged.Goals as goal

pub loop-at-preserved : goal.loop-at-preserved
loop-at-preserved c = c.in_ok-keep.ensures ∙ numbers_flagged c.args.flags.now c.loop-at.at _ c.loop-at.numbers.items c.loop-at-test.true c.loop-at.invariant
