use Rattle.walrus_locations.proofs.ReplaceLemmas as lemmas
use Rattle.walrus_locations.proofs.laws.locations_stay.Goals as goal

pub returns : goal.returns
returns g c = lemmas.locations_stay (goal.F-step g)
