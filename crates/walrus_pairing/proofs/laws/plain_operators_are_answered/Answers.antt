use Rattle.walrus_pairing.proofs.Answered as lemmas
use Rattle.walrus_pairing.proofs.laws.plain_operators_are_answered.Goals as goal

pub returns : goal.returns
returns c = lemmas.plain_is_answered
