use Rattle.std.proofs.Common.{◌+◌, drop, subst, sym, arith, List}
use Rattle.std.specs.List.{FoldsTo}
use Rattle.walrus_walks.specs.Events.{Event, events_of}
use Rattle.walrus_walks.proofs.Folds.{folds_append, events_drop}
use Rattle.walrus_walks.proofs.visit.visit_all.Goals as goal

pub loop-item-preserved : goal.loop-item-preserved
loop-item-preserved g c last h =
    let i = c.loop-item.item-index in
    let x = c.item-item.result in
    let rest = events_of g.T.Visit.tells (drop (i + 1) c.args.items.now) in
    let step = g.V.Visitor.step in
    let all : FoldsTo step c.loop-item.visitor _ last = folds_append step c.loop-item.visitor (g.T.Visit.tells x) c.visit.new.visitor rest last c.visit.ensures h in
    let F : List Event → Type 0 = λ es. FoldsTo step c.loop-item.visitor es last in
    c.loop-item.invariant last (subst F (sym (events_drop g.T.Visit.tells c.args.items.now i x (omega arith) c.item-item.is)) all)
