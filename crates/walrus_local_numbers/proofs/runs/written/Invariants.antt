use Rattle.walrus_index_maps.specs.Views.{indices}
use Rattle.std.proofs.Common.{drop}
use Rattle.walrus_local_numbers.proofs.Counting.{GoesOn}
use Rattle.walrus_local_numbers.proofs.runs.written.Given as goal

abbrev pub invariant-loop-run : goal.invariant-loop-run
invariant-loop-run l = GoesOn (indices l.maps).types.number l.runs l.written.items (drop l.run-index l.runs)
