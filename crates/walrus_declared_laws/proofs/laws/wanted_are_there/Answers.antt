use Rattle.walrus_declared_laws.proofs.There.{wanted_there}
use Rattle.walrus_declared_laws.proofs.laws.wanted_are_there.Goals as goal

pub returns : goal.returns
returns c = wanted_there
