use Rattle.walrus_places_laws.proofs.Order.{facts_stand}
use Rattle.walrus_places_laws.proofs.laws.facts_stand_in_order.Goals as goal

pub returns : goal.returns
returns c = facts_stand
