use Rattle.std.proofs.Common.{take}
use Rattle.walrus_index_maps.specs.Views.{ids}
use Rattle.walrus_sections_into.specs.Becomes.{look_of}
use Rattle.walrus_sections_into.specs.Slots.{Filled}
use Rattle.walrus_sections_into.specs.Segments.{IsHeldOf}
use Rattle.walrus_sections_into.proofs.segments.add_segments.Given as goal

abbrev pub invariant-loop-segment : goal.invariant-loop-segment
invariant-loop-segment l = Filled (IsHeldOf l.keeps_bytes (look_of (ids l.maps))) (take l.segment-index l.segments) l.fn.into.slots l.into.slots
