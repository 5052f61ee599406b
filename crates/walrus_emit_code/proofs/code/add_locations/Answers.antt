use Rattle.walrus_emit_code.proofs.PlaceLemmas.{located_next}
use Rattle.walrus_emit_code.proofs.code.add_locations.Goals as goal

pub loop-location-preserved : goal.loop-location-preserved
loop-location-preserved c =
    located_next c.args.by c.args.places.now c.loop-location.location-index _ c.args.locations.now.items c.loop-location.locations.items _ c.loop-location-test.true c.loop-location.invariant c.in_ok-add_location.ensures
