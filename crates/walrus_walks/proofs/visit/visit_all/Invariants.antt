use Rattle.std.proofs.Common.{drop}
use Rattle.std.specs.List.{FoldsTo}
use Rattle.walrus_walks.specs.Events.{events_of}
use Rattle.walrus_walks.proofs.visit.visit_all.Given as goal

abbrev pub invariant-loop-item : goal.invariant-loop-item
invariant-loop-item g l = (last : _) → FoldsTo g.V.Visitor.step l.visitor (events_of g.T.Visit.tells (drop l.item-index l.items)) last → FoldsTo g.V.Visitor.step l.fn.visitor (events_of g.T.Visit.tells l.fn.items) last
