use Rattle.walrus_payload_readers.specs.Bearers.{given_of}
use Rattle.walrus_payload_readers.specs.Parts.{Rounds}
use Rattle.walrus_payload_readers.proofs.names.read_names.Given as goal

abbrev pub invariant-loop : goal.invariant-loop
invariant-loop g l = Rounds (g.B.Bearers.file l.fn.bearers) given_of l.fn.names.items l.names.items l.reader l.fn.payload l.end l.counter
