use Rattle.walrus_pairing.proofs.Turns as lemmas
use Rattle.walrus_pairing.proofs.laws.turns_number_without_gaps.Goals as goal

pub returns : goal.returns
returns c = lemmas.turns_number
