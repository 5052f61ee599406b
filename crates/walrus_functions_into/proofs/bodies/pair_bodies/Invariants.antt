use Rattle.walrus_functions_into.proofs.PairLemmas.{Goes}
use Rattle.walrus_functions_into.proofs.bodies.pair_bodies.Given as goal

abbrev pub invariant-loop-index : goal.invariant-loop-index
invariant-loop-index l = Goes l.functions.slots l.bodies l.index l.pairs.items
