use Rattle.walrus_payload_readers.specs.Counts.{Counts}
use Rattle.walrus_payload_readers.specs.Bearers.{given_of, entry_at}
use Rattle.walrus_payload_readers.proofs.entries.read_entries.Given as goal

abbrev pub invariant-loop : goal.invariant-loop
invariant-loop g l = Counts (entry_at (g.B.Bearers.file l.fn.bearers) l.fn.of) given_of l.fn.names.items l.names.items l.fn.reader l.reader l.fn.count l.counter
