use Rattle.walrus_places_laws.proofs.Part.{locations_pairs}
use Rattle.walrus_places_laws.proofs.laws.locations_are_pairs.Goals as goal

pub returns : goal.returns
returns c = locations_pairs c.own_items_stay.ensures c.code_places_are_pairs.ensures
