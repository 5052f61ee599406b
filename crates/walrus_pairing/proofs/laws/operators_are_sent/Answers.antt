use Rattle.walrus_pairing.specs.Sent as lemmas
use Rattle.walrus_pairing.proofs.laws.operators_are_sent.Goals as goal

pub returns : goal.returns
returns c = lemmas.operators_are_sent
