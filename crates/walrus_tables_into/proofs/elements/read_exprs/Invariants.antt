use Rattle.std.proofs.Common.{take}
use Rattle.std.specs.List.{AllZip}
use Rattle.walrus_sections_into.specs.walrus_index_maps.Views.{ids}
use Rattle.walrus_sections_into.specs.Becomes.{look_of}
use Rattle.walrus_tables_into.specs.Elements.{ExprBecomes}
use Rattle.walrus_tables_into.proofs.elements.read_exprs.Given as goal

abbrev pub invariant-loop-operators : goal.invariant-loop-operators
invariant-loop-operators l = AllZip (ExprBecomes (look_of (ids l.maps))) (take l.operators-index l.exprs) l.list.items
