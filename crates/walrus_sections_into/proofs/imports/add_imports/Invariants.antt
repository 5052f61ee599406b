use Rattle.std.proofs.Common.{take}
use Rattle.walrus_index_maps.specs.Views.{ids}
use Rattle.walrus_sections_into.specs.Becomes.{look_of}
use Rattle.walrus_sections_into.specs.Slots.{Filled}
use Rattle.walrus_sections_into.specs.Imports.{IsImportOf}
use Rattle.walrus_sections_into.proofs.imports.add_imports.Given as goal

abbrev pub invariant-loop-import : goal.invariant-loop-import
invariant-loop-import l = Filled (IsImportOf (look_of (ids l.maps))) (take l.import-index l.imports) l.fn.into.slots l.into.slots
