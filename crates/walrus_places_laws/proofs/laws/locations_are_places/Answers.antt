use Rattle.walrus_places_laws.proofs.Part.{locations_places}
use Rattle.walrus_places_laws.proofs.laws.locations_are_places.Goals as goal

pub returns : goal.returns
returns c = locations_places c.written_pairs_are_places.ensures c.locations_are_pairs.ensures
