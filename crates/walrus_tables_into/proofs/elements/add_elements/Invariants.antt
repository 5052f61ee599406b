use Rattle.std.proofs.Common.{take}
use Rattle.walrus_sections_into.specs.walrus_index_maps.Views.{ids}
use Rattle.walrus_sections_into.specs.Becomes.{look_of}
use Rattle.walrus_sections_into.specs.Slots.{Filled}
use Rattle.walrus_tables_into.specs.Elements.{IsElementOf}
use Rattle.walrus_tables_into.proofs.elements.add_elements.Given as goal

abbrev pub invariant-loop-element : goal.invariant-loop-element
invariant-loop-element l = Filled (IsElementOf (look_of (ids l.maps))) (take l.element-index l.elements) l.fn.into.slots l.into.slots
