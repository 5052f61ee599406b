use Rattle.walrus_export_reader.proofs.Listed.{AreFirst}
use Rattle.walrus_export_reader.proofs.repeats.keys.Given as goal

abbrev pub invariant-loop-number : goal.invariant-loop-number
invariant-loop-number l = AreFirst l.exports l.number l.keys.items
