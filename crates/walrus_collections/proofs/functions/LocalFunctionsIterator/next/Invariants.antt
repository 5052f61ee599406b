use Rattle.std.proofs.Common.{◌≡◌, length}
use Rattle.walrus_collections.specs.LookUps.{local_entries}
use Rattle.walrus_collections.proofs.functions.LocalFunctionsIterator.next.Given as goal

abbrev pub invariant-loop-id : goal.invariant-loop-id
invariant-loop-id l = record {
  left : local_entries l.self-inside.functions ≡ l.fn.self;
}

abbrev pub decreases-loop-id : goal.decreases-loop-id
decreases-loop-id l = length l.self-inside.functions
