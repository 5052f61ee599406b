use Rattle.std.proofs.Common.{◌∙◌}
use Rattle.walrus_collections.specs.LookUps.{items}
use Rattle.walrus_meaning.specs.Meaning.{own_segment}
use Rattle.walrus_emit_due.specs.DataCount.{waits}
use Rattle.walrus_emit_uses.proofs.Lemmas.{any_here, passive_is}
use Rattle.walrus_emit_uses.proofs.data_count.has_passive.Goals as goal

pub returns-then-is_passive : goal.returns-then-is_passive
returns-then-is_passive c =
    any_here own_segment waits c.loop-segment.segment-iterator c.next.new.self (items c.args.segments.now) c.in-Some.segment.now c.in-Some.ensures.steps
    (passive_is _ _ c.is_passive.ensures ∙ c.if-is_passive.true) c.loop-segment.invariant.rest
