use Rattle.std.specs.Prelude.{◌≡◌, ◌++◌, drop}
use Rattle.walrus_emit.specs.Pairs.{all_placed}
use Rattle.walrus_emit.proofs.transform.map_of.Given as goal

abbrev pub invariant-loop-at : goal.invariant-loop-at
invariant-loop-at l = l.map.items ++ all_placed l.start (drop l.at l.pairs.items) ≡ all_placed l.start l.pairs.items
