use Rattle.walrus_pairing.proofs.Read as lemmas
use Rattle.walrus_pairing.proofs.laws.plain_operators_are_read.Goals as goal

pub returns : goal.returns
returns c = lemmas.plain_is_read
