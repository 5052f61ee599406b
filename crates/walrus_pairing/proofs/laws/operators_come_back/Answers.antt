use Rattle.walrus_pairing.proofs.Renamed as lemmas
use Rattle.walrus_pairing.proofs.laws.operators_come_back.Goals as goal

pub returns : goal.returns
returns c = lemmas.operator_comes_back
