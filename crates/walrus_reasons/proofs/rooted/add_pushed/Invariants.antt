use Rattle.std.proofs.Common.{◌≡◌, ◌++◌, map, take}
use Rattle.walrus_reasons.specs.RootLists.{pushed_root}
use Rattle.walrus_reasons.proofs.rooted.add_pushed.Given as goal

abbrev pub invariant-loop-item : goal.invariant-loop-item
invariant-loop-item l = l.found.items ≡ l.fn.found.items ++ map pushed_root (take l.item-index l.pushed)
