use Rattle.walrus_locations.proofs.ReplaceLemmas as lemmas
use Rattle.walrus_locations.proofs.laws.answers_replace.Goals as goal

pub returns : goal.returns
returns g c = lemmas.answers_replace (goal.F-step g)
