use Rattle.walrus_section_reader.specs.Repeats.{Repeats}
use Rattle.walrus_section_reader.proofs.entries.read_entries.Given as goal

abbrev pub invariant-loop : goal.invariant-loop
invariant-loop g l = Repeats (g.E.Entries.step l.fn.reader.window.features) (g.E.Entries.state l.fn.into) (g.E.Entries.state l.into) l.fn.reader l.reader l.fn.count l.counter
