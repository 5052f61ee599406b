use Rattle.std.proofs.Common.{take}
use Rattle.std.specs.List.{AllZip}
use Rattle.walrus_sections_into.specs.walrus_index_maps.Views.{ids}
use Rattle.walrus_sections_into.specs.Becomes.{look_of}
use Rattle.walrus_tables_into.specs.Elements.{IsFunctionOf}
use Rattle.walrus_tables_into.proofs.elements.read_functions.Given as goal

abbrev pub invariant-loop-number : goal.invariant-loop-number
invariant-loop-number l = AllZip (IsFunctionOf (look_of (ids l.maps))) (take l.number-index l.numbers) l.functions.items
