use Rattle.walrus_declared_laws.proofs.Wanted.{wants_told}
use Rattle.walrus_declared_laws.proofs.laws.wants_are_told.Goals as goal

pub returns : goal.returns
returns c = wants_told
