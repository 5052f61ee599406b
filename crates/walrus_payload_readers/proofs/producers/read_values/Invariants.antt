use Rattle.walrus_payload_readers.specs.Values.{Collects}
use Rattle.walrus_payload_readers.proofs.producers.read_values.Given as goal

abbrev pub invariant-loop : goal.invariant-loop
invariant-loop l = Collects l.values.items l.fn.reader l.reader l.fn.count l.counter
