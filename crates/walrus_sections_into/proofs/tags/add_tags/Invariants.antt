use Rattle.std.proofs.Common.{take}
use Rattle.walrus_index_maps.specs.Views.{ids}
use Rattle.walrus_sections_into.specs.Becomes.{look_of}
use Rattle.walrus_sections_into.specs.Slots.{Filled}
use Rattle.walrus_sections_into.specs.Tags.{IsTagOf}
use Rattle.walrus_sections_into.proofs.tags.add_tags.Given as goal

abbrev pub invariant-loop-tag : goal.invariant-loop-tag
invariant-loop-tag l = Filled (IsTagOf (look_of (ids l.maps))) (take l.tag-index l.tags) l.fn.into.slots l.into.slots
