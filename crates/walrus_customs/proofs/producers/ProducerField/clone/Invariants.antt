use Rattle.std.proofs.Common.{◌≡◌, ◌++◌, drop}
use Rattle.walrus_customs.specs.Producers.{values_of}
use Rattle.walrus_customs.proofs.producers.ProducerField.clone.Given as goal

abbrev pub invariant-loop-value : goal.invariant-loop-value
invariant-loop-value l = values_of l.values.items ++ values_of (drop l.value-index l.self.values.items) ≡ values_of l.self.values.items
