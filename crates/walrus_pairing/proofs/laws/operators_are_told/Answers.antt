use Rattle.walrus_pairing.proofs.Renamed as lemmas
use Rattle.walrus_pairing.proofs.laws.operators_are_told.Goals as goal

pub returns : goal.returns
returns c = lemmas.operators_are_told
