use Rattle.std.proofs.Common.{drop}
use Rattle.walrus_body_steps.specs.Meanings.{AreLabels}
use Rattle.walrus_body_operands.specs.Asked.{label_test}
use Rattle.walrus_body_operands.proofs.Gathering.{Gathers}
use Rattle.walrus_body_operands.proofs.runs.blocks_of.Given as goal

abbrev pub invariant-loop-depth : goal.invariant-loop-depth
invariant-loop-depth g l = Gathers (label_test (g.L.Labels.ids l.labels)) (AreLabels (g.L.Labels.ids l.labels)) l.depths (drop l.depth-index l.depths) l.blocks.items
