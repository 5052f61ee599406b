use Rattle.walrus_index_maps.specs.Views.{ids}
use Rattle.std.proofs.lemmas.Result.{err_from_is_err_and}
use Rattle.walrus_sections_into.specs.Becomes.{look_of}
use Rattle.walrus_sections_into.specs.Lacks.{DataLacks}
use Rattle.walrus_sections_into.specs.Loops.{one_lacks}
use Rattle.walrus_sections_into.specs.Slots.{filled_on, filled_so_far}
use Rattle.walrus_sections_into.specs.Segments.{IsHeldOf}
use Rattle.walrus_sections_into.proofs.segments.add_segments.Goals as goal

pub loop-segment-preserved : goal.loop-segment-preserved
loop-segment-preserved c =
    let it = c.in_ok-add_segment.ensures.added in
    filled_on (IsHeldOf c.args.keeps_bytes (look_of (ids c.args.maps.now))) c.args.segments.now c.loop-segment.segment-index _ c.segment-item.result c.args.into.now.slots c.loop-segment.into.slots c.add_segment.new.into.slots it.0
    c.segment-item.is c.loop-segment-test.true c.loop-segment.invariant it.1 it.2

pub returns-in_err-add_segment-clause-in_part : goal.returns-in_err-add_segment-clause-in_part
returns-in_err-add_segment-clause-in_part c =
    let p = err_from_is_err_and c.from_residual.result c.from_residual.ensures.1 in
    filled_so_far (IsHeldOf c.args.keeps_bytes (look_of (ids c.args.maps.now))) c.args.segments.now c.loop-segment.segment-index c.args.into.now c.loop-segment.into c.add_segment.new.into c.from_residual.result p.0 p.1 c.in_err-add_segment.ensures.refused c.loop-segment.invariant

pub returns-in_err-add_segment-clause-unknown : goal.returns-in_err-add_segment-clause-unknown
returns-in_err-add_segment-clause-unknown c =
    let p = err_from_is_err_and c.from_residual.result c.from_residual.ensures.1 in
    one_lacks (DataLacks (look_of (ids c.args.maps.now))) c.args.segments.now c.loop-segment.segment-index _ c.segment-item.result c.from_residual.result _ _ c.segment-item.is c.loop-segment-test.true p.1 p.2 c.in_err-add_segment.ensures.unknown
