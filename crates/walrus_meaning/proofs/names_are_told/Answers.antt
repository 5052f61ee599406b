use Rattle.walrus_meaning.specs.NamesTold as lemmas
use Rattle.walrus_meaning.proofs.names_are_told.Goals as goal

pub returns : goal.returns
returns c = lemmas.names_are_told
