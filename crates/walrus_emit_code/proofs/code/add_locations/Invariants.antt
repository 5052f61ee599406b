use Rattle.std.specs.Prelude.{◌≡◌, ◌++◌, take}
use Rattle.walrus_emit_code.specs.Places.{located}
use Rattle.walrus_emit_code.proofs.code.add_locations.Given as goal

abbrev pub invariant-loop-location : goal.invariant-loop-location
invariant-loop-location l = l.locations.items ≡ l.fn.locations.items ++ located l.by (take l.location-index l.places)
