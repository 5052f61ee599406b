use Rattle.std.specs.Prelude.{◌≡◌, map, take}
use Rattle.walrus_emit.specs.Places.{range_from}
use Rattle.walrus_emit.proofs.transform.ranges_of.Given as goal

abbrev pub invariant-loop-function : goal.invariant-loop-function
invariant-loop-function l = l.found.items ≡ map (range_from l.start) (take l.function-index l.ranges)
