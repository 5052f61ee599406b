use Rattle.std.specs.Fn.{FnReturnsAt}
use Rattle.walrus_lookups.proofs.SectionLemmas.{Swept}
use Rattle.walrus_lookups.proofs.customs.SectionsRetains.retain.Given as goal

abbrev pub invariant-loop-index : goal.invariant-loop-index
invariant-loop-index g l = Swept g.B.CustomSection.own_name (FnReturnsAt g.F.Fn l.keep) l.index l.fn.self l.self
