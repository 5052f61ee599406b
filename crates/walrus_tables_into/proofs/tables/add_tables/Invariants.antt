use Rattle.std.proofs.Common.{take}
use Rattle.walrus_sections_into.specs.walrus_index_maps.Views.{ids}
use Rattle.walrus_sections_into.specs.Becomes.{look_of}
use Rattle.walrus_sections_into.specs.Slots.{Filled}
use Rattle.walrus_tables_into.specs.Tables.{IsTableOf}
use Rattle.walrus_tables_into.proofs.tables.add_tables.Given as goal

abbrev pub invariant-loop-table : goal.invariant-loop-table
invariant-loop-table l = Filled (IsTableOf (look_of (ids l.maps))) (take l.table-index l.tables) l.fn.into.slots l.into.slots
