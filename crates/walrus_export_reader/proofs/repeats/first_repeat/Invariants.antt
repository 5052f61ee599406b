use Rattle.walrus_export_reader.specs.Repeats.{names_of}
use Rattle.walrus_export_reader.proofs.Sorted.{Looked}
use Rattle.walrus_export_reader.proofs.repeats.first_repeat.Given as goal

abbrev pub invariant-loop-i : goal.invariant-loop-i
invariant-loop-i l = Looked (names_of l.exports) l.keys.items l.from l.first l.i
