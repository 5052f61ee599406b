use Rattle.walrus_pairing.specs.Together as lemmas
use Rattle.walrus_pairing.proofs.laws.forms_are_told.Goals as goal

pub returns : goal.returns
returns c = lemmas.forms_are_told
