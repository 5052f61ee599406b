use Rattle.std.proofs.Common.{◌∙◌}
use Rattle.walrus_body_steps.specs.walrus_body_stack.Frames.{inner, around}
use Rattle.walrus_body_operands.proofs.Counts.{outer_ids}
use Rattle.walrus_body_operands.proofs.labels.StackLabels.outer_count.Goals as goal

pub returns : goal.returns
returns c = c.outer_count.ensures ∙ outer_ids (inner c.args.self.now) (around c.args.self.now)
