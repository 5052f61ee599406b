use Rattle.walrus_payload_readers.specs.Counts.{Counts}
use Rattle.walrus_payload_readers.specs.Bearers.{given_of, locals_at}
use Rattle.walrus_payload_readers.proofs.entries.read_functions.Given as goal

abbrev pub invariant-loop : goal.invariant-loop
invariant-loop g l = Counts (locals_at (g.B.Bearers.file l.fn.bearers)) given_of l.fn.names.items l.names.items l.fn.reader l.reader l.fn.count l.counter
