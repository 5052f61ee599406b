use Rattle.std.proofs.Common.{◌≡◌, find}
use Rattle.walrus_arena.specs.Arena.{entries}
use Rattle.walrus_collections.proofs.collection.Collection.lowest.Given as goal

abbrev pub invariant-loop-id : goal.invariant-loop-id
invariant-loop-id g l = record {
  can : (goal.iterator-loop-id g).can_next l.id-iterator;
  ends : (goal.iterator-loop-id g).is_finite l.id-iterator;
  first : find (λ e. g.P.Test.passes l.test e.1) l.id-iterator ≡ find (λ e. g.P.Test.passes l.test e.1) (entries l.self);
}
