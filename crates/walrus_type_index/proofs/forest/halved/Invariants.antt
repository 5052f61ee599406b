use Rattle.std.proofs.Common.{◌+◌, ◌*◌, ◌≤◌, List, length, vec_len, vec_capacity}
use Rattle.std.specs.Vec.Iter.{into_iter_items}
use Rattle.walrus_type_index.specs.Places.{Hashed}
use Rattle.walrus_type_index.specs.Flat.{slots}
use Rattle.walrus_type_index.specs.Forest.{AreTrees}
use Rattle.walrus_type_index.proofs.ForestLemmas.{Halving}
use Rattle.walrus_type_index.proofs.forest.halved.Given as goal

abbrev pub invariant-loop-top : goal.invariant-loop-top
invariant-loop-top l = record {
  room : vec_len l.wide + length (into_iter_items l.top-iterator) * 2 + 1 ≤ vec_capacity l.wide;
  halved : (trees : List (List Hashed)) (rest : List Hashed) → AreTrees (slots l.fn.nodes) l.fn.tops.items l.last trees rest
      → Halving (slots l.nodes) l.shift l.wide.items (into_iter_items l.top-iterator) l.last trees rest;
}
