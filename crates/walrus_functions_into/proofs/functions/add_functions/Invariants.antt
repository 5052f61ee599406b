use Rattle.walrus_index_maps.specs.Views.{ids}
use Rattle.walrus_functions_into.proofs.AddLemmas.{AreAdded}
use Rattle.walrus_functions_into.proofs.functions.add_functions.Given as goal

abbrev pub invariant-loop-function : goal.invariant-loop-function
invariant-loop-function l = AreAdded l.functions l.function-index l.fn.into l.into (ids l.fn.maps) (ids l.maps)
