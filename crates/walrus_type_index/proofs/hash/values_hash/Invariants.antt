use Rattle.std.proofs.Common.{◌≡◌, drop}
use Rattle.walrus_type_index.specs.Hashes.{values_hash}
use Rattle.walrus_type_index.proofs.hash.values_hash.Given as goal

abbrev pub invariant-loop-value : goal.invariant-loop-value
invariant-loop-value l = values_hash l.hash (drop l.value-index l.values) ≡ values_hash l.start l.values
