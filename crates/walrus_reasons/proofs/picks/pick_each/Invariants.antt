use Rattle.std.proofs.Common.{◌≡◌, ◌++◌, take}
use Rattle.walrus_reasons.proofs.PickLemmas.{picked_from}
use Rattle.walrus_reasons.proofs.picks.pick_each.Given as goal

abbrev pub invariant-loop-index : goal.invariant-loop-index
invariant-loop-index g l = l.found.items ≡ l.fn.found.items ++ picked_from (g.P.Picks.picks l.picks) 0 (take l.index l.items.slots)
