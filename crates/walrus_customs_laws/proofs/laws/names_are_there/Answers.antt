use Rattle.walrus_customs_laws.proofs.There.{names_there}
use Rattle.walrus_customs_laws.proofs.laws.names_are_there.Goals as goal

pub returns : goal.returns
returns c = names_there
