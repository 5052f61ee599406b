use Rattle.std.proofs.Common.{◌≡◌, ◌++◌}
use Rattle.walrus_index_maps.specs.Views.{ids}
use Rattle.walrus_sections_into.specs.Numbers.{upto}
use Rattle.walrus_sections_into.proofs.numbers.number_elements.Given as goal

abbrev pub invariant-loop-number : goal.invariant-loop-number
invariant-loop-number l = ids l.maps ≡ record (ids l.fn.maps) { elements = (ids l.fn.maps).elements ++ upto l.number }
