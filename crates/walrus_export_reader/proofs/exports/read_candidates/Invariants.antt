use Rattle.walrus_export_reader.proofs.Judged.{Judging}
use Rattle.walrus_export_reader.proofs.exports.read_candidates.Given as goal

abbrev pub invariant-loop : goal.invariant-loop
invariant-loop l = Judging l.fn.sections l.sections l.places.items l.fn.reader l.reader l.count l.counter
