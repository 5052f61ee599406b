use Rattle.std.proofs.Common.{refl}
use Rattle.walrus_body_steps.specs.Meanings.{AreLabels}
use Rattle.walrus_body_operands.specs.Asked.{label_test}
use Rattle.walrus_body_operands.proofs.Gathering.{gathers_more, gathers_all}
use Rattle.walrus_body_operands.proofs.runs.blocks_of.Goals as goal

pub loop-depth-preserved : goal.loop-depth-preserved
loop-depth-preserved g c =
    let ids = g.L.Labels.ids c.args.labels.now in
    let read = c.in_ok-block.ensures in
    gathers_more (label_test ids) (AreLabels ids) c.args.depths.now c.loop-depth.depth-index c.loop-depth.blocks.items c.push.new.self.items c.in_ok-block.block 0 c.loop-depth-test.true c.loop-depth.invariant read.0
    (λ rest more are. (c.in_ok-block.block, more, refl, read.1, are)) c.in_ok-push.ensures.items

pub returns : goal.returns
returns g c =
    let ids = g.L.Labels.ids c.args.labels.now in
    gathers_all (label_test ids) (AreLabels ids) c.args.depths.now c.loop-depth.depth-index c.loop-depth.blocks.items c.loop-depth-test.false refl c.loop-depth.invariant
