use Rattle.std.proofs.Common.{◌≡◌, take}
use Rattle.std.specs.List.{fold}
use Rattle.walrus_marks.specs.Marks.{meet}
use Rattle.walrus_used.proofs.roots.meet_all.Given as goal

abbrev pub invariant-loop-item : goal.invariant-loop-item
invariant-loop-item l = l.marks ≡ fold meet l.fn.marks (take l.item-index l.items)
