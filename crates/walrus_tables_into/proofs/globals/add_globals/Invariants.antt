use Rattle.std.proofs.Common.{take}
use Rattle.walrus_sections_into.specs.walrus_index_maps.Views.{ids}
use Rattle.walrus_sections_into.specs.Becomes.{look_of}
use Rattle.walrus_sections_into.specs.Slots.{Filled}
use Rattle.walrus_tables_into.specs.Globals.{IsGlobalOf}
use Rattle.walrus_tables_into.proofs.globals.add_globals.Given as goal

abbrev pub invariant-loop-global : goal.invariant-loop-global
invariant-loop-global l = Filled (IsGlobalOf (look_of (ids l.maps))) (take l.global-index l.globals) l.fn.into.slots l.into.slots
