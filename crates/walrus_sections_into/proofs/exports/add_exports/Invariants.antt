use Rattle.std.proofs.Common.{take}
use Rattle.walrus_index_maps.specs.Views.{ids}
use Rattle.walrus_sections_into.specs.Becomes.{look_of}
use Rattle.walrus_sections_into.specs.Slots.{Filled}
use Rattle.walrus_sections_into.specs.Exports.{IsExportOf}
use Rattle.walrus_sections_into.proofs.exports.add_exports.Given as goal

abbrev pub invariant-loop-export : goal.invariant-loop-export
invariant-loop-export l = Filled (IsExportOf (look_of (ids l.maps))) (take l.export-index l.exports) l.fn.into.slots l.into.slots
